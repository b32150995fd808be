use Rattle.std.proofs.Common.{◌≡◌, ◌≢◌, ◌∷◌, [], List, ◌++◌, ℕ, length, sym, ap, subst, arith, ⊎_elim, ◌⊎◌, ◌<◌}
use Rattle.std.proofs.lemmas.List.{append-nil, length-append, nil_from_length}
use Rattle.dl_text.specs.Going.{stop}
use Rattle.dl_runs.proofs.TextLaws.{IsInside, inside_run, inside_pair, quoted_at, never_quoted, stops_at_end, stops_at_backslash, text_is, heads}
use Rattle.dl_runs.proofs.quotes.cut_text.Goals as goal

pub loop-front-init : goal.loop-front-init
loop-front-init c = ([], stop c.args.after.now)

behind_is : (raw here front behind : List ℕ) (found : ℕ) → IsInside raw here → here ≡ front ++ found ∷ behind → length behind < length raw
behind_is raw here front behind found (ps, g) e =
    omega (arith, ap length (text_is raw here ps g), length-append (Rattle.dl_text.specs.Escapes.joined ps) here, ap length e, length-append front (found ∷ behind))

pub overflow_sub-result : goal.overflow_sub-result
overflow_sub-result c = omega (arith, behind_is c.args.after.now c.loop-front.here.now c.in-Some._front.now c.in-Some.behind.now c.in-Some.found c.loop-front.invariant c.in-Some.ensures.0)

pub slice_bounds-result-count : goal.slice_bounds-result-count
slice_bounds-result-count c = omega (arith, behind_is c.args.after.now c.loop-front.here.now c.in-Some._front.now c.in-Some.behind.now c.in-Some.found c.loop-front.invariant c.in-Some.ensures.0)

pub returns-then-found-eq34 : goal.returns-then-found-eq34
returns-then-found-eq34 c =
    let here = inside_run c.args.after.now c.loop-front.here.now c.in-Some._front.now (c.in-Some.found ∷ c.in-Some.behind.now) c.loop-front.invariant c.in-Some.ensures.0 c.in-Some.ensures.2 in
    quoted_at c.args.after.now c.in-Some.behind.now (subst (λ b. IsInside c.args.after.now (b ∷ c.in-Some.behind.now)) c.if-found-eq34.true here)

backslash_is : (found : ℕ) → found ≢ 34 → ((found ≡ 34) ⊎ (found ≡ 92)) → found ≡ 92
backslash_is found n h = ⊎_elim (λ e. absurd (n e)) (λ e. e) h

pub returns-in_default-split_first : goal.returns-in_default-split_first
returns-in_default-split_first c inner rest =
    let is = backslash_is c.in-Some.found c.if-found-eq34.false c.in-Some.ensures.1 in
    let here = inside_run c.args.after.now c.loop-front.here.now c.in-Some._front.now (c.in-Some.found ∷ c.in-Some.behind.now) c.loop-front.invariant c.in-Some.ensures.0 c.in-Some.ensures.2 in
    let none : c.in-Some.behind.now ≡ [] = nil_from_length c.in-Some.behind.now c.in_default-split_first.ensures.cases in
    never_quoted c.args.after.now (92 ∷ []) inner rest (subst (λ (zs : List ℕ). IsInside c.args.after.now (92 ∷ zs)) none (subst (λ b. IsInside c.args.after.now (b ∷ c.in-Some.behind.now)) is here))
    stops_at_backslash (λ s e. omega (arith, heads 92 34 [] s e))

pub loop-front-preserved : goal.loop-front-preserved
loop-front-preserved c =
    let is = backslash_is c.in-Some.found c.if-found-eq34.false c.in-Some.ensures.1 in
    let here = inside_run c.args.after.now c.loop-front.here.now c.in-Some._front.now (c.in-Some.found ∷ c.in-Some.behind.now) c.loop-front.invariant c.in-Some.ensures.0 c.in-Some.ensures.2 in
    inside_pair c.args.after.now c.in-Some.behind.now c.in-Some-split_first.more.now c.in-Some-split_first._escaped.now
    (subst (λ b. IsInside c.args.after.now (b ∷ c.in-Some.behind.now)) is here) c.in-Some-split_first.ensures.cases.0

pub returns : goal.returns
returns c inner rest =
    never_quoted c.args.after.now [] inner rest (inside_run c.args.after.now c.loop-front.here.now c.loop-front.here.now [] c.loop-front.invariant (sym (append-nil c.loop-front.here.now)) c.in_default.ensures)
    stops_at_end (λ s e. cc)
