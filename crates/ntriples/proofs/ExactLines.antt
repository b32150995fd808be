-- A line has one triple at most, or one refusal.
use Rattle.std.proofs.Common.{◌≡◌, ℕ, List, [], ◌∷◌, ◌++◌, Option, Some, None, Ok, Err, refl, sym, ap, subst, ◌∙◌, inl, inr, ◌⊎◌, append_assoc}
use Rattle.std.proofs.lemmas.List.{append-nil}
use Rattle.ntriples.specs.declared.tokens.Token.{Token}
use Rattle.ntriples.specs.declared.tokens.Token.TheVariants.{Iri, Dot}
use Rattle.ntriples.specs.declared.faults.LineFault.TheVariants.{Refused}
use Rattle.dl_text.specs.declared.kinds.ReadKind.{ReadKind}
use Rattle.ntriples.specs.declared.grammar.Object.{Object}
use Rattle.ntriples.specs.declared.grammar.Object.TheVariants as objects
use Rattle.ntriples.specs.declared.grammar.Triple.{Triple}
use Rattle.ntriples.specs.Grammar.{object_tokens, tokens_of, IsViable, kind_at, StopsAtToken, Stops}
use Rattle.ntriples.specs.Lines.{Parses}
use Rattle.ntriples.proofs.ExactTokens.{lexes_one, lexes_not_bad, bad_place_one}

-- of two fronts with a token behind each, they are one, or one goes on through the other
fronts : (a b : List Token) (s t : Token) (x y : List Token) → a ++ s ∷ x ≡ b ++ t ∷ y
    → (s ≡ t) ⊎ (((z : List Token) × (b ≡ a ++ s ∷ z)) ⊎ ((z : List Token) × (a ≡ b ++ t ∷ z)))
fronts [] [] s t x y e = inl (cc)
fronts [] (c ∷ b) s t x y e = let same : c ≡ s = cc in inr (inl (b, ap (λ (z : Token). z ∷ b) same))
fronts (c ∷ a) [] s t x y e = let same : c ≡ t = cc in inr (inr (a, ap (λ (z : Token). z ∷ a) same))
fronts (c ∷ a) (d ∷ b) s t x y e = let same : c ≡ d = cc in on c d a b s t same (fronts a b s t x y (cc))
  where
    on : (c d : Token) (a b : List Token) (s t : Token) → c ≡ d → (s ≡ t) ⊎ (((z : List Token) × (b ≡ a ++ s ∷ z)) ⊎ ((z : List Token) × (a ≡ b ++ t ∷ z)))
        → (s ≡ t) ⊎ (((z : List Token) × (d ∷ b ≡ c ∷ (a ++ s ∷ z))) ⊎ ((z : List Token) × (c ∷ a ≡ d ∷ (b ++ t ∷ z))))
    on c d a b s t e (inl h) = inl h
    on c d a b s t e (inr (inl (z, h))) = inr (inl (z, ap (λ (q : Token). q ∷ b) (sym e) ∙ ap (λ (qs : List Token). c ∷ qs) h))
    on c d a b s t e (inr (inr (z, h))) = inr (inr (z, ap (λ (q : Token). q ∷ a) e ∙ ap (λ (qs : List Token). d ∷ qs) h))

viable_front : (a : List Token) (t : Token) (x : List Token) → IsViable (a ++ t ∷ x) → IsViable (a ++ t ∷ [])
viable_front a t x (rest, line, e) = (x ++ rest, line, append_assoc a (t ∷ []) (x ++ rest) ∙ sym (append_assoc a (t ∷ x) rest) ∙ e)

whole_viable : (ts : List Token) (line : Option Triple) → ts ≡ tokens_of line → IsViable ts
whole_viable ts line e = ([], line, append-nil ts ∙ e)

token_not_viable : (ts : List Token) (kind : ReadKind) → StopsAtToken ts kind → ¬ IsViable ts
token_not_viable ts kind h v = h.stuck (viable_front h.front h.token h.rest (subst IsViable h.is v))

tokens_one : (ts : List Token) (k l : ReadKind) → StopsAtToken ts k → StopsAtToken ts l → k ≡ l
tokens_one ts k l h j = on (fronts h.front j.front h.token j.token h.rest j.rest (sym h.is ∙ j.is))
  where
    on : (h.token ≡ j.token) ⊎ (((z : List Token) × (j.front ≡ h.front ++ h.token ∷ z)) ⊎ ((z : List Token) × (h.front ≡ j.front ++ j.token ∷ z))) → k ≡ l
    on (inl e) = h.kind_is ∙ ap kind_at e ∙ sym j.kind_is
    on (inr (inl (z, e))) = absurd (h.stuck (viable_front h.front h.token z (subst IsViable e j.viable)))
    on (inr (inr (z, e))) = absurd (j.stuck (viable_front j.front j.token z (subst IsViable e h.viable)))

pub stops_one : (ts : List Token) (k l : ReadKind) → Stops ts k → Stops ts l → k ≡ l
stops_one ts k l (inl h) (inl j) = tokens_one ts k l h j
stops_one ts k l (inl h) (inr j) = absurd (token_not_viable ts k h j.viable)
stops_one ts k l (inr h) (inl j) = absurd (token_not_viable ts l j h.viable)
stops_one ts k l (inr h) (inr j) = h.kind_is ∙ sym j.kind_is

pub whole_not_stops : (ts : List Token) (line : Option Triple) (k : ReadKind) → ts ≡ tokens_of line → ¬ Stops ts k
whole_not_stops ts line k e (inl h) = token_not_viable ts k h (whole_viable ts line e)
whole_not_stops ts line k e (inr h) = h.short line e

object_one : (a b : Object) → object_tokens a ++ Dot ∷ [] ≡ object_tokens b ++ Dot ∷ [] → a ≡ b
object_one (objects.Iri o) (objects.Iri o') e = cc
object_one (objects.Iri o) (objects.Plain t') e = cc
object_one (objects.Iri o) (objects.Typed t' d') e = cc
object_one (objects.Iri o) (objects.Tagged t' l') e = cc
object_one (objects.Plain t) (objects.Iri o') e = cc
object_one (objects.Plain t) (objects.Plain t') e = cc
object_one (objects.Plain t) (objects.Typed t' d') e = cc
object_one (objects.Plain t) (objects.Tagged t' l') e = cc
object_one (objects.Typed t d) (objects.Iri o') e = cc
object_one (objects.Typed t d) (objects.Plain t') e = cc
object_one (objects.Typed t d) (objects.Typed t' d') e = cc
object_one (objects.Typed t d) (objects.Tagged t' l') e = cc
object_one (objects.Tagged t l) (objects.Iri o') e = cc
object_one (objects.Tagged t l) (objects.Plain t') e = cc
object_one (objects.Tagged t l) (objects.Typed t' d') e = cc
object_one (objects.Tagged t l) (objects.Tagged t' l') e = cc

triple_one : (s t p q : List ℕ) (a b : Object) → s ≡ t → p ≡ q → a ≡ b
    → ◌≡◌ {A = Triple} (record { subject = s; predicate = p; object = a }) (record { subject = t; predicate = q; object = b })
triple_one s t p q a b e f g =
    ap (λ (z : List ℕ). let it : Triple = record { subject = z; predicate = p; object = a } in it) e
    ∙ ap (λ (z : List ℕ). let it : Triple = record { subject = t; predicate = z; object = a } in it) f
    ∙ ap (λ (z : Object). let it : Triple = record { subject = t; predicate = q; object = z } in it) g

heads_one : (s t p q : List ℕ) (x y : List Token) → Iri s ∷ Iri p ∷ x ≡ Iri t ∷ Iri q ∷ y → (s ≡ t) × (p ≡ q) × (x ≡ y)
heads_one s t p q x y e = (cc, cc, cc)

pub line_from_tokens : (a b : Option Triple) → tokens_of a ≡ tokens_of b → a ≡ b
line_from_tokens None None e = refl
line_from_tokens None (Some b) e = cc
line_from_tokens (Some a) None e = cc
line_from_tokens (Some a) (Some b) e =
    let parts = heads_one a.subject b.subject a.predicate b.predicate (object_tokens a.object ++ Dot ∷ []) (object_tokens b.object ++ Dot ∷ []) e in
    ap (λ (z : Triple). Some z) (triple_one a.subject b.subject a.predicate b.predicate a.object b.object parts.0 parts.1 (object_one a.object b.object parts.2))

-- passes 2 and 3 have one answer, but for memory
pub triples_one : (line : List ℕ) (a b : Option Triple) → Parses line (Ok a) → Parses line (Ok b) → a ≡ b
triples_one line a b h k = line_from_tokens a b (lexes_one line (tokens_of a) (tokens_of b) h k)

pub triple_not_refused : (line : List ℕ) (a : Option Triple) (k : ReadKind) → Parses line (Ok a) → ¬ Parses line (Err (Refused k))
triple_not_refused line a k h (inl (ts, here, l, b)) = lexes_not_bad line (tokens_of a) ts here k h l b
triple_not_refused line a k h (inr (ts, l, s)) = whole_not_stops ts a k (lexes_one line ts (tokens_of a) l h) s

pub refusals_one : (line : List ℕ) (k l : ReadKind) → Parses line (Err (Refused k)) → Parses line (Err (Refused l)) → k ≡ l
refusals_one line k l (inl (ts, here, h, b)) (inl (us, there, j, c)) = bad_place_one line ts us here there k l h b j c
refusals_one line k l (inl (ts, here, h, b)) (inr (us, j, s)) = absurd (lexes_not_bad line us ts here k j h b)
refusals_one line k l (inr (ts, h, s)) (inl (us, here, j, b)) = absurd (lexes_not_bad line ts us here l h j b)
refusals_one line k l (inr (ts, h, s)) (inr (us, j, t)) = stops_one us k l (subst (λ (z : List Token). Stops z k) (lexes_one line ts us h j) s) t
