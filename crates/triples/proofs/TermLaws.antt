-- Terms by name.
use Rattle.std.proofs.Common.{◌≡◌, ◌≢◌, ℕ, zero, suc, ◌+◌, ◌<◌, Bool, true, false, cond, List, [], ◌∷◌, Some, None, refl, sym, ◌∙◌, ap, subst, arith}
use Rattle.std.specs.Prelude.{slice_get}
use Rattle.std.specs.Str.{bytes_eq}
use Rattle.std.specs.Cmp.Lexicographic.{same_text, other_text}
use Rattle.dl_base.specs.declared.terms.Kind.{Kind}
use Rattle.dl_base.specs.declared.terms.Term.{Term}
use Rattle.dl_base.specs.Ontologies.{Theory, IsTerm, AreNamedOnce}
use Rattle.dl_base.specs.Vocabularies.{HasNoTerm}
use Rattle.triples.specs.Meaning.{term_from, term_of}

some_is : {X : Type 0} (x y : X) → Some x ≡ Some y → x ≡ y
some_is x y e = cc

-- the test of two names is that they are one
is_same : (a b : List ℕ) → a ≡ b → bytes_eq a b ≡ true
is_same a b e = by (bytes_eq a b) refl
  where
    by : (v : Bool) → bytes_eq a b ≡ v → v ≡ true
    by true h = refl
    by false h = absurd (other_text a b (sym h) e)

is_other : (a b : List ℕ) → a ≢ b → bytes_eq a b ≡ false
is_other a b ne = by (bytes_eq a b) refl
  where
    by : (v : Bool) → bytes_eq a b ≡ v → v ≡ false
    by true h = absurd (ne (same_text a b (sym h)))
    by false h = refl

-- the term of this number and its kind
abbrev term_at : ℕ → Kind → Term × Kind
term_at n kind = (record { 0 = n }, kind)

numbered : (m n : ℕ) → m ≡ n → (kind : Kind) → Some (term_at m kind) ≡ Some (term_at n kind)
numbered m n e kind = ap (λ k. Some (term_at k kind)) e

-- the first term of a name is found at its place
from_place : (terms : List (List ℕ × Kind)) (n i : ℕ) (name : List ℕ) (kind : Kind)
    → ((j : ℕ) (t : List ℕ × Kind) → j < i → slice_get terms j ≡ Some t → t.0 ≢ name)
    → slice_get terms i ≡ Some (name, kind) → term_from n terms name ≡ Some (term_at (n + i) kind)
from_place [] n i name kind before e = cc
from_place (t ∷ terms) n zero name kind before e =
    let is = some_is t (name, kind) e in
    let same = is_same name t.0 (sym (ap (λ (x : List ℕ × Kind). x.0) is)) in
    ap (λ b. cond b (Some (term_at n t.1)) (term_from (n + 1) terms name)) same ∙ ap (λ (k : Kind). Some (term_at n k)) (ap (λ (x : List ℕ × Kind). x.1) is)
    ∙ numbered n (n + 0) (omega arith) kind
from_place (t ∷ terms) n (suc i) name kind before e =
    let other = is_other name t.0 (λ s. before 0 t (omega arith) refl (sym s)) in
    ap (λ b. cond b (Some (term_at n t.1)) (term_from (n + 1) terms name)) other
    ∙ from_place terms (n + 1) i name kind (λ j u l g. before (suc j) u (omega arith) g) e ∙ numbered (n + 1 + i) (n + suc i) (omega arith) kind

-- a name that no term has isn't found
from_nowhere : (terms : List (List ℕ × Kind)) (n : ℕ) (name : List ℕ) → HasNoTerm terms name → term_from n terms name ≡ None
from_nowhere [] n name none = refl
from_nowhere (t ∷ terms) n name none =
    ap (λ b. cond b (Some (term_at n t.1)) (term_from (n + 1) terms name)) (is_other name t.0 (λ s. none 0 t.1 (ap Some (λ i. (sym s i, t.1)))))
    ∙ from_nowhere terms (n + 1) name (λ i k e. none (suc i) k e)

-- what is found stands at its number
from_found : (terms : List (List ℕ × Kind)) (n : ℕ) (name : List ℕ) (term : Term) (kind : Kind)
    → term_from n terms name ≡ Some (term, kind) → (i : ℕ) × (term.0 ≡ n + i) × (slice_get terms i ≡ Some (name, kind))
from_found [] n name term kind e = cc
from_found (t ∷ terms) n name term kind e = by (bytes_eq name t.0) refl (from_found terms (n + 1) name term kind) e
  where
    by : (v : Bool) → bytes_eq name t.0 ≡ v
        → (term_from (n + 1) terms name ≡ Some (term, kind) → (i : ℕ) × (term.0 ≡ n + 1 + i) × (slice_get terms i ≡ Some (name, kind)))
        → cond v (Some (term_at n t.1)) (term_from (n + 1) terms name) ≡ Some (term, kind)
        → (i : ℕ) × (term.0 ≡ n + i) × (slice_get (t ∷ terms) i ≡ Some (name, kind))
    by true h rest e =
        let is = some_is (term_at n t.1) (term, kind) e in
        let number : term.0 ≡ n = sym (ap (λ (x : Term × Kind). x.0.0) is) in
        let named : t.0 ≡ name = sym (same_text name t.0 (sym h)) in
        let of_kind : t.1 ≡ kind = ap (λ (x : Term × Kind). x.1) is in
        (0, omega (arith, number), λ i. Some (named i, of_kind i))
    by false h rest e =
        let (i, number, at) = rest e in
        (suc i, omega (arith, number), at)

pub found_is : (theory : Theory) (name : List ℕ) (term : Term) (kind : Kind) → AreNamedOnce theory → slice_get theory.terms term.0 ≡ Some (name, kind)
    → term_of theory name ≡ Some (term, kind)
found_is theory name term kind once e =
    from_place theory.terms 0 term.0 name kind (λ j t l g s. once j term.0 t (name, kind) l g e s) e ∙ numbered (0 + term.0) term.0 (omega arith) kind

pub missing_is : (theory : Theory) (name : List ℕ) → HasNoTerm theory.terms name → term_of theory name ≡ None
missing_is theory name none = from_nowhere theory.terms 0 name none

-- a term that is found is one of its kind
pub term_is : (theory : Theory) (name : List ℕ) (term : Term) (kind : Kind) → term_of theory name ≡ Some (term, kind) → IsTerm theory term kind
term_is theory name term kind e =
    let (i, number, at) = from_found theory.terms 0 name term kind e in
    let place : i ≡ term.0 = omega (arith, number) in
    (name, subst (λ (j : ℕ). slice_get theory.terms j ≡ Some (name, kind)) place at)
