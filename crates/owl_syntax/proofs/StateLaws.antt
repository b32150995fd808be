-- The states of the reader are the fronts of documents.
use Rattle.std.proofs.Common.{◌≡◌, ◌+◌, ◌<◌, ℕ, List, [], ◌∷◌, ◌++◌, Option, Some, None, Bool, true, false, cond, refl, ap, sym, ◌∙◌, subst, codes, arith, append_assoc, length}
use Rattle.std.specs.Prelude.{◌==◌, ◌||◌}
use Rattle.std.specs.Str.{bytes_eq}
use Rattle.std.proofs.lemmas.List.{append-nil, nil_from_length, length-append}
use Rattle.std.proofs.lemmas.Bool.{eqb-true}
use Rattle.std.proofs.lemmas.Slice.Eq.{bytes_eq-Decides}
use Rattle.owl_syntax.specs.declared.nodes.PrefixLine.{PrefixLine}
use Rattle.owl_syntax.specs.Shapes.{Shape, Open, Close, Equals, Word, Iri, Prefixed, Token, at}
use Rattle.owl_syntax.specs.Trees.{Forest, none, word, Content}
use Rattle.owl_syntax.specs.Grammar.{nothing, has_name, SpellsLines, no_line, one_line, SpellsDocument}
use Rattle.owl_syntax.specs.Reading.{Opened, opened, Nest, nest, Pending, Nothing, AWord, AText, SomeHats, Part, Stepped, On, Closed, Stuck, State, Lines, InPrefix, Root, Body, Done, Begun, Started, Named, Equalled, Valued, stepped, in_body, in_prefix, prefix_step, after, after_shape, then, runs, next_part, between, begun}
use Rattle.owl_syntax.proofs.CoverLaws.{CoversBody, CoversStepped, stepped_covers, ready_covers, settle_text}

-- what has been read of a prefix line
abbrev pub CoversPart : List PrefixLine → ℕ → Part → List Token → Type 0
CoversPart lines line Begun ts = ts ≡ at line (Word (codes "Prefix")) ∷ []
CoversPart lines line Started ts = (o : ℕ) × (ts ≡ at line (Word (codes "Prefix")) ∷ at o Open ∷ [])
CoversPart lines line (Named name) ts = (o m : ℕ) × (ts ≡ at line (Word (codes "Prefix")) ∷ at o Open ∷ at m (Prefixed name []) ∷ []) × (has_name lines name ≡ false)
CoversPart lines line (Equalled name) ts = (o m e : ℕ) × (ts ≡ at line (Word (codes "Prefix")) ∷ at o Open ∷ at m (Prefixed name []) ∷ at e Equals ∷ []) × (has_name lines name ≡ false)
CoversPart lines line (Valued name iri) ts =
    (o m e v : ℕ) × (ts ≡ at line (Word (codes "Prefix")) ∷ at o Open ∷ at m (Prefixed name []) ∷ at e Equals ∷ at v (Iri iri) ∷ []) × (has_name lines name ≡ false)

-- the prefix lines, then the front of the body
abbrev pub CoversRoot : List PrefixLine → ℕ → List ℕ → (List Token → Type 0) → List Token → Type 0
CoversRoot lines line text P ts = (us vs : List Token) × (o : ℕ) × SpellsLines us lines × (text ≡ codes "Ontology") × P vs × (ts ≡ us ++ (at line (Word text) ∷ at o Open ∷ vs))

abbrev pub Covers : State → List Token → Type 0
Covers (Lines lines) ts = SpellsLines ts lines
Covers (InPrefix lines line part) ts = (us vs : List Token) × SpellsLines us lines × CoversPart lines line part vs × (ts ≡ us ++ vs)
Covers (Root lines line text) ts = (us : List Token) × SpellsLines us lines × (text ≡ codes "Ontology") × (ts ≡ us ++ at line (Word text) ∷ [])
Covers (Body lines line text n p) ts = CoversRoot lines line text (CoversBody n p) ts
Covers (Done lines line text args) ts = CoversRoot lines line text (CoversStepped (Closed args)) ts

abbrev pub CoversState : Option State → List Token → Type 0
CoversState None ts = Unit {0}
CoversState (Some s) ts = Covers s ts

case : (P : Option State → Type 0) (b : Bool) (x y : Option State) → (b ≡ true → P x) → (b ≡ false → P y) → P (cond b x y)
case P true x y f g = f refl
case P false x y f g = g refl

is_text : (a b : List ℕ) → bytes_eq a b ≡ true → a ≡ b
is_text a b e = (bytes_eq-Decides a b).0 e

between_covers : (lines : List PrefixLine) (ts : List Token) (line : ℕ) (shape : Shape) → SpellsLines ts lines → CoversState (between lines line shape) (ts ++ at line shape ∷ [])
between_covers lines ts line (Word t) s =
    case (λ (o : Option State). CoversState o (ts ++ at line (Word t) ∷ [])) (bytes_eq t (codes "Prefix")) (Some (InPrefix lines line Begun)) (cond (bytes_eq t (codes "Ontology")) (Some (Root lines line t)) None)
    (λ b. (ts, at line (Word t) ∷ [], s, ap (λ (z : List ℕ). at line (Word z) ∷ []) (is_text t (codes "Prefix") b), refl))
    (λ b. case (λ (o : Option State). CoversState o (ts ++ at line (Word t) ∷ [])) (bytes_eq t (codes "Ontology")) (Some (Root lines line t)) None
    (λ d. (ts, s, is_text t (codes "Ontology") d, refl)) (λ d. tt))
between_covers lines ts line shape s = tt

-- a prefix line goes on
part_covers : (lines : List PrefixLine) (us vs ts qs : List Token) (line : ℕ) (part : Part) → SpellsLines us lines → ts ≡ us ++ vs → CoversPart lines line part (vs ++ qs) → Covers (InPrefix lines line part) (ts ++ qs)
part_covers lines us vs ts qs line part s e c = (us, vs ++ qs, s, c, ap (λ (z : List Token). z ++ qs) e ∙ append_assoc us vs qs)

part_case : (P : Option State → Type 0) (lines : List PrefixLine) (line : ℕ) (a b : Bool) (name : List ℕ) → P None → (a ≡ true → b ≡ false → P (Some (InPrefix lines line (Named name))))
    → P (in_prefix lines line (cond a (cond b None (Some (Named name))) None))
part_case P lines line false b name n f = n
part_case P lines line true true name n f = n
part_case P lines line true false name n f = f refl refl

prefix_covers : (lines : List PrefixLine) (ts : List Token) (at_line : ℕ) (part : Part) (line : ℕ) (shape : Shape) → Covers (InPrefix lines at_line part) ts
    → CoversState (prefix_step lines at_line part shape) (ts ++ at line shape ∷ [])
prefix_covers lines ts l Begun line Open (us, vs, s, p, e) = part_covers lines us vs ts (at line Open ∷ []) l Started s e (line, ap (λ (z : List Token). z ++ at line Open ∷ []) p)
prefix_covers lines ts l Begun line shape c = tt
prefix_covers lines ts l Started line (Prefixed name local) (us, vs, s, (o, p), e) =
    part_case (λ (r : Option State). CoversState r (ts ++ at line (Prefixed name local) ∷ [])) lines l (length local == 0) (has_name lines name) name tt
    (λ b h. part_covers lines us vs ts (at line (Prefixed name local) ∷ []) l (Named name) s e (
      o,
      line,
      ap (λ (z : List Token). z ++ at line (Prefixed name local) ∷ []) p
          ∙ ap (λ (z : List ℕ). at l (Word (codes "Prefix")) ∷ at o Open ∷ at line (Prefixed name z) ∷ []) (nil_from_length local (eqb-true (length local) 0 b)),
      h,
    ))
prefix_covers lines ts l Started line shape c = tt
prefix_covers lines ts l (Named name) line Equals (us, vs, s, (o, m, p, f), e) =
    part_covers lines us vs ts (at line Equals ∷ []) l (Equalled name) s e (o, m, line, ap (λ (z : List Token). z ++ at line Equals ∷ []) p, f)
prefix_covers lines ts l (Named name) line shape c = tt
prefix_covers lines ts l (Equalled name) line (Iri i) (us, vs, s, (o, m, q, p, f), e) =
    part_covers lines us vs ts (at line (Iri i) ∷ []) l (Valued name i) s e (o, m, q, line, ap (λ (z : List Token). z ++ at line (Iri i) ∷ []) p, f)
prefix_covers lines ts l (Equalled name) line shape c = tt
prefix_covers lines ts l (Valued name i) line Close (us, vs, s, (o, m, q, v, p, f), e) =
    let it : PrefixLine = record { line = l; name = name; iri = i } in
    one_line (ts ++ at line Close ∷ []) (lines ++ it ∷ []) us (vs ++ at line Close ∷ []) lines it s
    (record { opens = o; named = m; equals = q; valued = v; close = line; is = ap (λ (z : List Token). z ++ at line Close ∷ []) p }) f
    (ap (λ (z : List Token). z ++ at line Close ∷ []) e ∙ append_assoc us vs (at line Close ∷ [])) refl
prefix_covers lines ts l (Valued name i) line shape c = tt

root_grows : (lines : List PrefixLine) (line : ℕ) (text : List ℕ) (P Q : List Token → Type 0) (ts qs : List Token) → ((vs : List Token) → P vs → Q (vs ++ qs)) → CoversRoot lines line text P ts → CoversRoot lines line text Q (ts ++ qs)
root_grows lines line text P Q ts qs f (us, vs, o, s, t, p, e) =
    (us, vs ++ qs, o, s, t, f vs p, ap (λ (z : List Token). z ++ qs) e ∙ append_assoc us (at line (Word text) ∷ at o Open ∷ vs) qs)

body_covers : (lines : List PrefixLine) (line : ℕ) (text : List ℕ) (P : List Token → Type 0) (ts qs : List Token) (next : Stepped) → ((vs : List Token) → P vs → CoversStepped next (vs ++ qs))
    → CoversRoot lines line text P ts → CoversState (in_body lines line text next) (ts ++ qs)
body_covers lines line text P ts qs (On n p) f c = root_grows lines line text P (CoversBody n p) ts qs f c
body_covers lines line text P ts qs (Closed args) f c = root_grows lines line text P (CoversStepped (Closed args)) ts qs f c
body_covers lines line text P ts qs Stuck f c = tt

-- the body begins
root_covers : (lines : List PrefixLine) (ts : List Token) (at_line : ℕ) (text : List ℕ) (line : ℕ) (shape : Shape) → Covers (Root lines at_line text) ts
    → CoversState (begun lines at_line text shape) (ts ++ at line shape ∷ [])
root_covers lines ts l text line Open (us, s, t, e) = (
  us,
  [],
  line,
  s,
  t,
  record { us = []; vs = []; ws = []; before = refl; here = nothing [] none refl refl; pending = refl; ordered = refl; is = refl },
  ap (λ (z : List Token). z ++ at line Open ∷ []) e ∙ append_assoc us (at l (Word text) ∷ []) (at line Open ∷ []),
)
root_covers lines ts l text line shape c = tt

-- one token more
pub covers_step : (s : State) (ts : List Token) (line : ℕ) (shape : Shape) → Covers s ts → CoversState (after_shape s line shape) (ts ++ at line shape ∷ [])
covers_step (Lines lines) ts line shape c = between_covers lines ts line shape c
covers_step (InPrefix lines l part) ts line shape c = prefix_covers lines ts l part line shape c
covers_step (Root lines l text) ts line shape c = root_covers lines ts l text line shape c
covers_step (Body lines l text n p) ts line shape c = body_covers lines l text (CoversBody n p) ts (at line shape ∷ []) (stepped n p line shape) (λ vs d. stepped_covers n p vs line shape d) c
covers_step (Done lines l text args) ts line shape c = tt

covers_then : (o : Option State) (ts : List Token) (t : Token) → CoversState o ts → CoversState (then o t) (ts ++ t ∷ [])
covers_then None ts t c = tt
covers_then (Some s) ts (at line shape) c = covers_step s ts line shape c

covers_runs : (o : Option State) (us ts : List Token) → CoversState o us → CoversState (runs o ts) (us ++ ts)
covers_runs o us [] c = subst (λ (z : List Token). CoversState o z) (sym (append-nil us)) c
covers_runs o us (t ∷ ts) c = subst (λ (z : List Token). CoversState (runs (then o t) ts) z) (append_assoc us (t ∷ []) ts) (covers_runs (then o t) (us ++ t ∷ []) ts (covers_then o us t c))

-- what the reader has gone through is what its state stands for
pub covers : (s : State) (ts : List Token) → runs (Some (Lines [])) ts ≡ Some s → Covers s ts
covers s ts e = subst (λ (o : Option State). CoversState o ts) e (covers_runs (Some (Lines [])) [] ts (no_line [] [] refl refl))

-- a reader that is done has read a document
pub done_spells : (lines : List PrefixLine) (line : ℕ) (text : List ℕ) (args : Forest) (content : Content) (ts : List Token) → Covers (Done lines line text args) ts
    → content.prefixes ≡ lines → content.root ≡ word none line text args → SpellsDocument ts content
done_spells lines line text args content ts (us, vs, o, s, t, (ws, rank, close, n, i, e), is) p r = record {
  front = us;
  inside = ws;
  line = line;
  opens = o;
  close = close;
  args = args;
  rank = rank;
  is = is ∙ ap (λ (z : List Token). us ++ (at line (Word text) ∷ at o Open ∷ z)) e ∙ ap (λ (z : List ℕ). us ++ (at line (Word z) ∷ at o Open ∷ (ws ++ at close Close ∷ []))) t;
  lines = subst (λ (z : List PrefixLine). SpellsLines us z) (sym p) s;
  nodes = n;
  in_order = i;
  root = r ∙ ap (λ (z : List ℕ). word none line z args) t;
}

-- some document begins so
abbrev pub IsLive : List Token → Type 0
IsLive ts = (rest : List Token) × (content : Content) × SpellsDocument (ts ++ rest) content

live_from : (ts : List Token) (t : Token) → IsLive (ts ++ t ∷ []) → IsLive ts
live_from ts t (rest, content, d) = (t ∷ rest, content, subst (λ (z : List Token). SpellsDocument z content) (append_assoc ts (t ∷ []) rest) d)

done_live : (lines : List PrefixLine) (line : ℕ) (text : List ℕ) (args : Forest) (ts : List Token) → Covers (Done lines line text args) ts → IsLive ts
done_live lines line text args ts c =
    let content : Content = record { prefixes = lines; root = word none line text args } in
    ([], content, subst (λ (z : List Token). SpellsDocument z content) (sym (append-nil ts)) (done_spells lines line text args content ts c refl refl))

-- what is open can be closed
closing : (lines : List PrefixLine) (line : ℕ) (text : List ℕ) (rank : ℕ) (outer : List Opened) (since : Forest) (ts : List Token) → CoversRoot lines line text (CoversBody (nest rank outer since) Nothing) ts → IsLive ts
closing lines line text rank [] since ts c =
    live_from ts (at 0 Close) (done_live lines line text since (ts ++ at 0 Close ∷ []) (root_grows lines line text (CoversBody (nest rank [] since) Nothing) (CoversStepped (Closed since)) ts (at 0 Close ∷ []) (λ vs d. ready_covers rank [] since vs 0 Close d) c))
closing lines line text rank (opened before head ∷ outer) since ts c =
    live_from ts (at 0 Close) (closing lines line text rank outer (Rattle.owl_syntax.specs.Reading.close_with before head since) (ts ++ at 0 Close ∷ [])
    (root_grows lines line text (CoversBody (nest rank (opened before head ∷ outer) since) Nothing) (CoversBody (nest rank outer (Rattle.owl_syntax.specs.Reading.close_with before head since)) Nothing) ts (at 0 Close ∷ [])
    (λ vs d. ready_covers rank (opened before head ∷ outer) since vs 0 Close d) c))

root_along : (lines : List PrefixLine) (line : ℕ) (text : List ℕ) (P Q : List Token → Type 0) (ts : List Token) → ((vs : List Token) → P vs → Q vs) → CoversRoot lines line text P ts → CoversRoot lines line text Q ts
root_along lines line text P Q ts f (us, vs, o, s, t, p, e) = (us, vs, o, s, t, f vs p, e)

body_live : (lines : List PrefixLine) (line : ℕ) (text : List ℕ) (rank : ℕ) (outer : List Opened) (since : Forest) (p : Pending) (ts : List Token) → CoversRoot lines line text (CoversBody (nest rank outer since) p) ts → IsLive ts
body_live lines line text rank outer since Nothing ts c = closing lines line text rank outer since ts c
body_live lines line text rank outer since (AText l t) ts c =
    closing lines line text rank outer (Rattle.owl_syntax.specs.Trees.leaf since (Rattle.owl_syntax.specs.Trees.literal l t [] Rattle.owl_syntax.specs.Trees.untyped)) ts
    (root_along lines line text (CoversBody (nest rank outer since) (AText l t)) (CoversBody (nest rank outer (Rattle.owl_syntax.specs.Trees.leaf since (Rattle.owl_syntax.specs.Trees.literal l t [] Rattle.owl_syntax.specs.Trees.untyped))) Nothing) ts
    (λ vs d. settle_text rank outer since vs l t d) c)
body_live lines line text rank outer since (AWord l t) ts c =
    live_from ts (at 0 Open) (closing lines line text rank (opened since (Rattle.owl_syntax.specs.Reading.of_word l t) ∷ outer) none (ts ++ at 0 Open ∷ [])
    (root_grows lines line text (CoversBody (nest rank outer since) (AWord l t)) (CoversBody (nest rank (opened since (Rattle.owl_syntax.specs.Reading.of_word l t) ∷ outer) none) Nothing) ts (at 0 Open ∷ [])
    (λ vs d. stepped_covers (nest rank outer since) (AWord l t) vs 0 Open d) c))
body_live lines line text rank outer since (SomeHats l t) ts c =
    live_from ts (at 0 (Iri [])) (closing lines line text rank outer (Rattle.owl_syntax.specs.Trees.leaf since (Rattle.owl_syntax.specs.Trees.literal l t [] (Rattle.owl_syntax.specs.Trees.by_iri 0 []))) (ts ++ at 0 (Iri []) ∷ [])
    (root_grows lines line text (CoversBody (nest rank outer since) (SomeHats l t))
    (CoversBody (nest rank outer (Rattle.owl_syntax.specs.Trees.leaf since (Rattle.owl_syntax.specs.Trees.literal l t [] (Rattle.owl_syntax.specs.Trees.by_iri 0 [])))) Nothing) ts (at 0 (Iri []) ∷ [])
    (λ vs d. stepped_covers (nest rank outer since) (SomeHats l t) vs 0 (Iri []) d) c))

root_live : (lines : List PrefixLine) (line : ℕ) (text : List ℕ) (ts : List Token) → Covers (Root lines line text) ts → IsLive ts
root_live lines line text ts c = live_from ts (at 0 Open) (closing lines line text 0 [] none (ts ++ at 0 Open ∷ []) (root_covers lines ts line text 0 Open c))

lines_live : (lines : List PrefixLine) (ts : List Token) → SpellsLines ts lines → IsLive ts
lines_live lines ts s =
    live_from ts (at 0 (Word (codes "Ontology"))) (root_live lines 0 (codes "Ontology") (ts ++ at 0 (Word (codes "Ontology")) ∷ []) (ts, s, refl, refl))

-- how long the names of prefix lines are together
abbrev pub total : List PrefixLine → ℕ
total [] = 0
total (line ∷ lines) = length line.name + total lines

-- a name that is longer than all of them
abbrev pub fresh : List PrefixLine → List ℕ
fresh [] = 65 ∷ []
fresh (line ∷ lines) = line.name ++ fresh lines

fresh_long : (lines : List PrefixLine) → total lines < length (fresh lines)
fresh_long [] = omega arith
fresh_long (line ∷ lines) = omega (arith, fresh_long lines, length-append line.name (fresh lines))

or_false : (a b : Bool) → (a ≡ true → ⊥) → b ≡ false → (a || b) ≡ false
or_false true b n e = absurd (n refl)
or_false false b n e = e

new_name : (lines : List PrefixLine) (name : List ℕ) → total lines < length name → has_name lines name ≡ false
new_name [] name l = refl
new_name (line ∷ lines) name l =
    or_false (bytes_eq name line.name) (has_name lines name)
    (λ e. let same = is_text name line.name e in absurd (omega (arith, l, ap length same)))
    (new_name lines name (omega (arith, l)))

valued_live : (lines : List PrefixLine) (line : ℕ) (name iri : List ℕ) (ts : List Token) → Covers (InPrefix lines line (Valued name iri)) ts → IsLive ts
valued_live lines line name iri ts c =
    live_from ts (at 0 Close) (lines_live (lines ++ record { line = line; name = name; iri = iri } ∷ []) (ts ++ at 0 Close ∷ []) (prefix_covers lines ts line (Valued name iri) 0 Close c))

equalled_live : (lines : List PrefixLine) (line : ℕ) (name : List ℕ) (ts : List Token) → Covers (InPrefix lines line (Equalled name)) ts → IsLive ts
equalled_live lines line name ts c = live_from ts (at 0 (Iri [])) (valued_live lines line name [] (ts ++ at 0 (Iri []) ∷ []) (prefix_covers lines ts line (Equalled name) 0 (Iri []) c))

named_live : (lines : List PrefixLine) (line : ℕ) (name : List ℕ) (ts : List Token) → Covers (InPrefix lines line (Named name)) ts → IsLive ts
named_live lines line name ts c = live_from ts (at 0 Equals) (equalled_live lines line name (ts ++ at 0 Equals ∷ []) (prefix_covers lines ts line (Named name) 0 Equals c))

started_live : (lines : List PrefixLine) (line : ℕ) (ts : List Token) → Covers (InPrefix lines line Started) ts → IsLive ts
started_live lines line ts (us, vs, s, (o, p), e) =
    let name : List ℕ = fresh lines in
    let qs : List Token = at 0 (Prefixed name []) ∷ [] in
    live_from ts (at 0 (Prefixed name [])) (named_live lines line name (ts ++ qs)
    (part_covers lines us vs ts qs line (Named name) s e (o, 0, ap (λ (z : List Token). z ++ qs) p, new_name lines name (fresh_long lines))))

part_live : (lines : List PrefixLine) (line : ℕ) (part : Part) (ts : List Token) → Covers (InPrefix lines line part) ts → IsLive ts
part_live lines line Begun ts c = live_from ts (at 0 Open) (started_live lines line (ts ++ at 0 Open ∷ []) (prefix_covers lines ts line Begun 0 Open c))
part_live lines line Started ts c = started_live lines line ts c
part_live lines line (Named name) ts c = named_live lines line name ts c
part_live lines line (Equalled name) ts c = equalled_live lines line name ts c
part_live lines line (Valued name iri) ts c = valued_live lines line name iri ts c

nest_live : (lines : List PrefixLine) (line : ℕ) (text : List ℕ) (n : Nest) (p : Pending) (ts : List Token) → CoversRoot lines line text (CoversBody n p) ts → IsLive ts
nest_live lines line text (nest rank outer since) p ts c = body_live lines line text rank outer since p ts c

-- every state is the front of a document
pub alive : (s : State) (ts : List Token) → Covers s ts → IsLive ts
alive (Lines lines) ts c = lines_live lines ts c
alive (InPrefix lines line part) ts c = part_live lines line part ts c
alive (Root lines line text) ts c = root_live lines line text ts c
alive (Body lines line text n p) ts c = nest_live lines line text n p ts c
alive (Done lines line text args) ts c = done_live lines line text args ts c
