-- How many parentheses are open in a state of the reader.
use Rattle.std.proofs.Common.{◌≡◌, ◌≢◌, ◌+◌, ◌≤◌, ◌<◌, ℕ, List, [], ◌∷◌, ◌++◌, Option, Some, None, Bool, true, false, cond, refl, ap, sym, ◌∙◌, subst, nat_le, nat_lt, arith, append_assoc, length, inl, inr, zero-add}
use Rattle.std.specs.Prelude.{count_by, ◌==◌, ◌⊎◌}
use Rattle.std.specs.Str.{bytes_eq}
use Rattle.std.proofs.lemmas.List.{append-nil}
use Rattle.std.proofs.lemmas.List.Sums.{sum_by-append}
use Rattle.std.proofs.lemmas.Bool.{eq-eqb, eqb-true, leb-true, false≢true}
use Rattle.std.proofs.lemmas.Bool.Decides.{nat_tests}
use Rattle.dl_text.specs.declared.kinds.ReadKind.TheVariants.{Syntax, TooDeep}
use Rattle.owl_syntax.specs.declared.nodes.PrefixLine.{PrefixLine}
use Rattle.owl_syntax.specs.Shapes.{Shape, Gap, Open, Close, Equals, Hats, Tag, Word, Iri, Prefixed, Blank, Digits, Text, Token, at}
use Rattle.owl_syntax.specs.Trees.{Forest}
use Rattle.owl_syntax.specs.Grammar.{is_open, is_close, IsShallow, kind_at}
use Rattle.owl_syntax.specs.Reading.{Opened, opened, Nest, nest, Pending, Nothing, AWord, AText, SomeHats, Part, Stepped, On, Closed, Stuck, State, Lines, InPrefix, Root, Body, Done, Begun, Started, Named, Equalled, Valued, ready, stepped, behind_word, behind_text, behind_hats, in_body, in_prefix, prefix_step, between, begun, after_shape, then, runs, nest_depth, is_full, kind_in}

abbrev pub depth_of : State → ℕ
depth_of (Lines lines) = 0
depth_of (InPrefix lines line Begun) = 0
depth_of (InPrefix lines line Started) = 1
depth_of (InPrefix lines line (Named name)) = 1
depth_of (InPrefix lines line (Equalled name)) = 1
depth_of (InPrefix lines line (Valued name iri)) = 1
depth_of (Root lines line text) = 0
depth_of (Body lines line text n p) = nest_depth n + 1
depth_of (Done lines line text args) = 0

abbrev pub opens : Token → ℕ
opens t = cond (is_open t) 1 0

abbrev pub closes : Token → ℕ
closes t = cond (is_close t) 1 0

abbrev pub IsDeep : Option State → ℕ → ℕ → Type 0
IsDeep None less depth = Unit {0}
IsDeep (Some s) less depth = depth_of s + less ≡ depth

abbrev pub IsStepDeep : Stepped → ℕ → ℕ → Type 0
IsStepDeep (On n p) less depth = (nest_depth n + 1) + less ≡ depth
IsStepDeep (Closed args) less depth = less ≡ depth
IsStepDeep Stuck less depth = Unit {0}

step_case : (P : Stepped → Type 0) (b : Bool) (x y : Stepped) → P x → P y → P (cond b x y)
step_case P true x y f g = f
step_case P false x y f g = g

state_case : (P : Option State → Type 0) (b : Bool) (x y : Option State) → P x → P y → P (cond b x y)
state_case P true x y f g = f
state_case P false x y f g = g

ready_deep : (rank : ℕ) (outer : List Opened) (since : Forest) (line : ℕ) (shape : Shape)
    → IsStepDeep (ready (nest rank outer since) line shape) (closes (at line shape)) ((length outer + 1) + opens (at line shape))
ready_deep rank [] since line Gap = tt
ready_deep rank [] since line Equals = tt
ready_deep rank [] since line Hats = tt
ready_deep rank [] since line (Tag t) = tt
ready_deep rank [] since line (Blank t) = tt
ready_deep rank [] since line (Digits t) = tt
ready_deep rank [] since line (Text t) = tt
ready_deep rank [] since line Open = tt
ready_deep rank [] since line Close = refl
ready_deep rank [] since line (Iri t) = step_case (λ (s : Stepped). IsStepDeep s 0 1) (nat_lt rank 2) _ Stuck refl tt
ready_deep rank [] since line (Prefixed p t) = step_case (λ (s : Stepped). IsStepDeep s 0 1) (nat_lt rank 2) _ Stuck refl tt
ready_deep rank [] since line (Word t) = step_case (λ (s : Stepped). IsStepDeep s 0 1) (nat_le rank (Rattle.owl_syntax.specs.Grammar.rank_of t)) _ Stuck refl tt
ready_deep rank (o ∷ outer) since line Gap = tt
ready_deep rank (o ∷ outer) since line Equals = tt
ready_deep rank (o ∷ outer) since line Hats = tt
ready_deep rank (o ∷ outer) since line (Tag t) = tt
ready_deep rank (o ∷ outer) since line (Iri t) = refl
ready_deep rank (o ∷ outer) since line (Prefixed p t) = refl
ready_deep rank (o ∷ outer) since line (Blank t) = refl
ready_deep rank (o ∷ outer) since line (Digits t) = refl
ready_deep rank (o ∷ outer) since line (Text t) = refl
ready_deep rank (o ∷ outer) since line (Word t) = refl
ready_deep rank (o ∷ outer) since line Open = omega arith
ready_deep rank (opened before head ∷ outer) since line Close = omega arith

text_deep : (rank : ℕ) (outer : List Opened) (since : Forest) (l : ℕ) (t : List ℕ) (line : ℕ) (shape : Shape)
    → IsStepDeep (behind_text (nest rank outer since) l t line shape) (closes (at line shape)) ((length outer + 1) + opens (at line shape))
text_deep rank outer since l t line Hats = refl
text_deep rank outer since l t line (Tag g) = refl
text_deep rank outer since l t line shape = ready_deep rank outer (Rattle.owl_syntax.specs.Trees.leaf since (Rattle.owl_syntax.specs.Trees.literal l t [] Rattle.owl_syntax.specs.Trees.untyped)) line shape

hats_deep : (rank : ℕ) (outer : List Opened) (since : Forest) (l : ℕ) (t : List ℕ) (line : ℕ) (shape : Shape)
    → IsStepDeep (behind_hats (nest rank outer since) l t line shape) (closes (at line shape)) ((length outer + 1) + opens (at line shape))
hats_deep rank outer since l t line (Iri i) = refl
hats_deep rank outer since l t line (Prefixed p x) = refl
hats_deep rank outer since l t line shape = tt

word_deep : (rank : ℕ) (outer : List Opened) (since : Forest) (l : ℕ) (t : List ℕ) (line : ℕ) (shape : Shape)
    → IsStepDeep (behind_word (nest rank outer since) l t shape) (closes (at line shape)) ((length outer + 1) + opens (at line shape))
word_deep rank outer since l t line Open = omega arith
word_deep rank outer since l t line shape = tt

stepped_deep : (n : Nest) (p : Pending) (line : ℕ) (shape : Shape) → IsStepDeep (stepped n p line shape) (closes (at line shape)) ((nest_depth n + 1) + opens (at line shape))
stepped_deep (nest rank outer since) Nothing line shape = ready_deep rank outer since line shape
stepped_deep (nest rank outer since) (AWord l t) line shape = word_deep rank outer since l t line shape
stepped_deep (nest rank outer since) (AText l t) line shape = text_deep rank outer since l t line shape
stepped_deep (nest rank outer since) (SomeHats l t) line shape = hats_deep rank outer since l t line shape

body_deep : (lines : List PrefixLine) (line : ℕ) (text : List ℕ) (s : Stepped) (less depth : ℕ) → IsStepDeep s less depth → IsDeep (in_body lines line text s) less depth
body_deep lines line text (On n p) less depth d = d
body_deep lines line text (Closed args) less depth d = omega (arith, d)
body_deep lines line text Stuck less depth d = tt

between_deep : (lines : List PrefixLine) (line : ℕ) (shape : Shape) → IsDeep (between lines line shape) (closes (at line shape)) (0 + opens (at line shape))
between_deep lines line (Word t) =
    state_case (λ (o : Option State). IsDeep o 0 0) (bytes_eq t (Rattle.std.proofs.Common.codes "Prefix")) _ _ refl
    (state_case (λ (o : Option State). IsDeep o 0 0) (bytes_eq t (Rattle.std.proofs.Common.codes "Ontology")) _ None refl tt)
between_deep lines line shape = tt

part_deep : (lines : List PrefixLine) (line : ℕ) (a b : Bool) (name : List ℕ) → IsDeep (in_prefix lines line (cond a (cond b None (Some (Named name))) None)) 0 1
part_deep lines line false b name = tt
part_deep lines line true true name = tt
part_deep lines line true false name = refl

prefix_deep : (lines : List PrefixLine) (l : ℕ) (part : Part) (line : ℕ) (shape : Shape) → IsDeep (prefix_step lines l part shape) (closes (at line shape)) (depth_of (InPrefix lines l part) + opens (at line shape))
prefix_deep lines l Begun line Open = refl
prefix_deep lines l Begun line shape = tt
prefix_deep lines l Started line (Prefixed name local) = part_deep lines l (length local == 0) (Rattle.owl_syntax.specs.Grammar.has_name lines name) name
prefix_deep lines l Started line shape = tt
prefix_deep lines l (Named name) line Equals = refl
prefix_deep lines l (Named name) line shape = tt
prefix_deep lines l (Equalled name) line (Iri i) = refl
prefix_deep lines l (Equalled name) line shape = tt
prefix_deep lines l (Valued name i) line Close = refl
prefix_deep lines l (Valued name i) line shape = tt

root_deep : (lines : List PrefixLine) (l : ℕ) (text : List ℕ) (line : ℕ) (shape : Shape) → IsDeep (begun lines l text shape) (closes (at line shape)) (0 + opens (at line shape))
root_deep lines l text line Open = refl
root_deep lines l text line shape = tt

deep_step : (s : State) (line : ℕ) (shape : Shape) → IsDeep (after_shape s line shape) (closes (at line shape)) (depth_of s + opens (at line shape))
deep_step (Lines lines) line shape = between_deep lines line shape
deep_step (InPrefix lines l part) line shape = prefix_deep lines l part line shape
deep_step (Root lines l text) line shape = root_deep lines l text line shape
deep_step (Body lines l text n p) line shape = body_deep lines l text (stepped n p line shape) (closes (at line shape)) ((nest_depth n + 1) + opens (at line shape)) (stepped_deep n p line shape)
deep_step (Done lines l text args) line shape = tt

pub count_push : (p : Token → Bool) (ts : List Token) (t : Token) → count_by p (ts ++ t ∷ []) ≡ count_by p ts + cond (p t) 1 0
count_push p ts t = sum_by-append (λ (x : Token). cond (p x) 1 0) ts (t ∷ []) ∙ ap (λ (n : ℕ). count_by p ts + n) (zero-add (cond (p t) 1 0))

abbrev pub IsCounted : Option State → List Token → Type 0
IsCounted None ts = Unit {0}
IsCounted (Some s) ts = count_by is_open ts ≡ depth_of s + count_by is_close ts

counted_after : (o : Option State) (ts : List Token) (t : Token) (depth : ℕ) → count_by is_open ts ≡ depth + count_by is_close ts → IsDeep o (closes t) (depth + opens t) → IsCounted o (ts ++ t ∷ [])
counted_after None ts t depth c d = tt
counted_after (Some s) ts t depth c d = omega (arith, c, d, count_push is_open ts t, count_push is_close ts t)

counted_then : (o : Option State) (ts : List Token) (t : Token) → IsCounted o ts → IsCounted (then o t) (ts ++ t ∷ [])
counted_then None ts t c = tt
counted_then (Some s) ts (at line shape) c = counted_after (after_shape s line shape) ts (at line shape) (depth_of s) c (deep_step s line shape)

counted_runs : (o : Option State) (us ts : List Token) → IsCounted o us → IsCounted (runs o ts) (us ++ ts)
counted_runs o us [] c = subst (λ (z : List Token). IsCounted o z) (sym (append-nil us)) c
counted_runs o us (t ∷ ts) c = subst (λ (z : List Token). IsCounted (runs (then o t) ts) z) (append_assoc us (t ∷ []) ts) (counted_runs (then o t) (us ++ t ∷ []) ts (counted_then o us t c))

pub counted : (s : State) (ts : List Token) → runs (Some (Lines [])) ts ≡ Some s → count_by is_open ts ≡ depth_of s + count_by is_close ts
counted s ts e = subst (λ (o : Option State). IsCounted o ts) e (counted_runs (Some (Lines [])) [] ts refl)

-- a front of one token more
front_push : (ts : List Token) (t : Token) (front rest : List Token) → ts ++ t ∷ [] ≡ front ++ rest → ((z : List Token) × (ts ≡ front ++ z)) ⊎ (front ≡ ts ++ t ∷ [])
front_push ts t [] rest e = inl (ts, refl)
front_push [] t (x ∷ []) rest e = inr (let same : t ≡ x = cc in ap (λ (z : Token). z ∷ []) (sym same))
front_push [] t (x ∷ y ∷ front) rest e = cc
front_push (s ∷ ts) t (x ∷ front) rest e = on (front_push ts t front rest (cc)) (cc)
  where
    on : ((z : List Token) × (ts ≡ front ++ z)) ⊎ (front ≡ ts ++ t ∷ []) → s ≡ x → ((z : List Token) × (s ∷ ts ≡ x ∷ (front ++ z))) ⊎ (x ∷ front ≡ s ∷ (ts ++ t ∷ []))
    on (inl (z, h)) same = inl (z, ap (λ (a : Token). a ∷ ts) same ∙ ap (λ (as_ : List Token). x ∷ as_) h)
    on (inr h) same = inr (ap (λ (a : Token). a ∷ front) (sym same) ∙ ap (λ (as_ : List Token). s ∷ as_) h)

pub shallow_none : IsShallow []
shallow_none [] rest e = omega arith
shallow_none (x ∷ front) rest e = cc

shallow_push : (ts : List Token) (t : Token) → IsShallow ts → count_by is_open ts + opens t ≤ 16 + (count_by is_close ts + closes t) → IsShallow (ts ++ t ∷ [])
shallow_push ts t h l front rest e = on (front_push ts t front rest e)
  where
    on : ((z : List Token) × (ts ≡ front ++ z)) ⊎ (front ≡ ts ++ t ∷ []) → count_by is_open front ≤ 16 + count_by is_close front
    on (inl (z, k)) = h front z k
    on (inr k) = omega (arith, l, ap (count_by is_open) k, ap (count_by is_close) k, count_push is_open ts t, count_push is_close ts t)

below : (n : ℕ) → nat_le 15 n ≡ false → n < 15
below n e = grind (arith, nat_tests)

not_full : (s : State) → is_full s ≡ false → depth_of s < 16
not_full (Lines lines) e = omega arith
not_full (InPrefix lines line Begun) e = omega arith
not_full (InPrefix lines line Started) e = omega arith
not_full (InPrefix lines line (Named name)) e = omega arith
not_full (InPrefix lines line (Equalled name)) e = omega arith
not_full (InPrefix lines line (Valued name iri)) e = omega arith
not_full (Root lines line text) e = omega arith
not_full (Body lines line text n p) e = omega (arith, below (nest_depth n) e)
not_full (Done lines line text args) e = omega arith

full : (s : State) → is_full s ≡ true → 16 ≤ depth_of s
full (Lines lines) e = absurd (false≢true e)
full (InPrefix lines line part) e = absurd (false≢true e)
full (Root lines line text) e = absurd (false≢true e)
full (Body lines line text n p) e = omega (arith, leb-true 15 (nest_depth n) e)
full (Done lines line text args) e = absurd (false≢true e)

-- a token that is not too deep
pub room : (s : State) (ts : List Token) (line : ℕ) (shape : Shape) → runs (Some (Lines [])) ts ≡ Some s → IsShallow ts → kind_in s shape ≢ TooDeep → IsShallow (ts ++ at line shape ∷ [])
room s ts line Open r h n = shallow_push ts (at line Open) h (on (is_full s) refl)
  where
    on : (b : Bool) → is_full s ≡ b → count_by is_open ts + opens (at line Open) ≤ 16 + (count_by is_close ts + closes (at line Open))
    on true e = absurd (n (ap (λ (b : Bool). cond b TooDeep Syntax) e))
    on false e = omega (arith, not_full s e, counted s ts r)
room s ts line shape r h n = shallow_push ts (at line shape) h (omega (arith, h ts [] (sym (append-nil ts))))

-- a token that is
pub too_deep : (s : State) (ts : List Token) (line : ℕ) (shape : Shape) → runs (Some (Lines [])) ts ≡ Some s → kind_in s shape ≡ TooDeep → ¬ IsShallow (ts ++ at line shape ∷ [])
too_deep s ts line Open r k h = on (is_full s) refl
  where
    on : (b : Bool) → is_full s ≡ b → ⊥
    on true e = omega (arith, full s e, counted s ts r, h (ts ++ at line Open ∷ []) [] (sym (append-nil (ts ++ at line Open ∷ []))), count_push is_open ts (at line Open), count_push is_close ts (at line Open))
    on false e = let same : Syntax ≡ TooDeep = ap (λ (b : Bool). cond b TooDeep Syntax) (sym e) ∙ k in cc
too_deep s ts line shape r k h = cc

same_test : (b : Bool) (m n : ℕ) → (b ≡ true → m ≡ n) → (b ≡ false → m < n) → b ≡ (m == n)
same_test true m n f g = sym (eq-eqb m n (f refl))
same_test false m n f g = on (m == n) refl
  where
    on : (b : Bool) → (m == n) ≡ b → false ≡ (m == n)
    on true e = let lt = g refl in let eq = eqb-true m n e in absurd (omega (arith, lt, eq))
    on false e = sym e

-- the kind of a refused token, by the tokens before it
pub kind_is : (s : State) (ts : List Token) (line : ℕ) (shape : Shape) → runs (Some (Lines [])) ts ≡ Some s → IsShallow ts → kind_in s shape ≡ kind_at ts (at line shape)
kind_is s ts line Open r h =
    ap (λ (b : Bool). cond b TooDeep Syntax) (same_test (is_full s) (count_by is_open ts) (16 + count_by is_close ts)
    (λ e. omega (arith, full s e, counted s ts r, h ts [] (sym (append-nil ts)))) (λ e. omega (arith, not_full s e, counted s ts r)))
kind_is s ts line shape r h = refl
