-- A fact beside the insertions of a well-formed change, and the first of several requests that it meets.
use Rattle.std.proofs.Common.{◌≡◌, ℕ, ◌<◌, ◌≤◌, ◌+◌, List, [], ◌∷◌, length, get_or, refl, sym, ◌∙◌, ap, subst, inl, inr, ◌⊎◌, ⊎_elim, arith}
use Rattle.std.specs.Prelude.{◌↔◌, Bool, Contains, IsTrue}
use Rattle.std.proofs.lemmas.Bool.{cases_lt}
use Rattle.std.proofs.lemmas.Option.{slice_get_read, get_or_from_slice_get}
use Rattle.dl_base.specs.declared.axioms.Axiom.{Axiom}
use Rattle.dl_base.specs.declared.requests.Request.{Request}
use Rattle.dl_base.specs.declared.requests.Request.TheVariants.{Change}
use Rattle.dl_base.specs.declared.statements.Fact.{Fact}
use Rattle.dl_base.specs.Clash.{HasClash}
use Rattle.dl_base.specs.Transactions.{IsMetBy, IsWell}
use Rattle.dl_base.specs.Updates.{IsWellFormed, Meets}
use Rattle.dl_base.proofs.ClashLaws.{clash_of_two, clash_more}
use Rattle.dl_base.proofs.Members.{here, there, among, beside, cons_cases}
use Rattle.read_patterns.specs.Meeting.{MeetsAt, MeetsNone}

module _ (axioms : List Axiom) (f : Fact) (inserts : List Fact) where
  abbrev pub ClashesWithOne : Type 0
  ClashesWithOne = (i : Fact) × Contains inserts i × HasClash axioms (f ∷ i ∷ [])

  -- a clash with one insertion is one with all of them
  pub from_one : ClashesWithOne → HasClash axioms (f ∷ inserts)
  from_one h = clash_more axioms (f ∷ h.0 ∷ []) (f ∷ inserts) (beside f (h.0 ∷ []) (f ∷ inserts) (here f inserts) (among h.0 (f ∷ inserts) (there f inserts h.0 h.1))) h.2

  module _ (none : ¬ HasClash axioms inserts) (own : ¬ HasClash axioms (f ∷ [])) where
    of_two : (x y : Fact) → (f ≡ x) ⊎ Contains inserts x → (f ≡ y) ⊎ Contains inserts y → HasClash axioms (x ∷ y ∷ []) → ClashesWithOne
    of_two x y (inl i) (inl j) h = absurd (own (clash_more axioms (x ∷ y ∷ []) (f ∷ []) (beside x (y ∷ []) (f ∷ []) (subst (Contains (f ∷ [])) i (here f [])) (among y (f ∷ []) (subst (Contains (f ∷ [])) j (here f [])))) h))
    of_two x y (inl i) (inr n) h = (y, n, subst (λ z. HasClash axioms (z ∷ y ∷ [])) (sym i) h)
    of_two x y (inr m) (inl j) h = (x, m, clash_more axioms (x ∷ y ∷ []) (f ∷ x ∷ []) (beside x (y ∷ []) (f ∷ x ∷ []) (there f (x ∷ []) x (here x [])) (among y (f ∷ x ∷ []) (subst (Contains (f ∷ x ∷ [])) j (here f (x ∷ []))))) h)
    of_two x y (inr m) (inr n) h = absurd (none (clash_more axioms (x ∷ y ∷ []) inserts (beside x (y ∷ []) inserts m (among y inserts n)) h))

    -- where neither clashes without the other, a clash with all insertions is one with one of them
    pub into_one : HasClash axioms (f ∷ inserts) → ClashesWithOne
    into_one h = let p = clash_of_two axioms (f ∷ inserts) h in of_two p.0 p.1 (cons_cases f inserts p.0 p.2) (cons_cases f inserts p.1 p.3) p.4

-- a fact of a list without a clash has none by itself
pub own_of : (axioms : List Axiom) (facts : List Fact) (i : Fact) → Contains facts i → ¬ HasClash axioms facts → ¬ HasClash axioms (i ∷ [])
own_of axioms facts i m none h = none (clash_more axioms (i ∷ []) facts (among i facts m) h)

module _ (axioms : List Axiom) (requests : List Request) (f : Fact) where
  pub meets_at : (i : ℕ) (r : Request) → i < length requests → r ≡ get_or requests i r → IsMetBy axioms f r → MeetsAt axioms requests f i
  meets_at i r l e h = (r, slice_get_read requests (length requests) i r refl l e, h)

  -- the request at a place is one
  pub not_at : (i : ℕ) (r : Request) → r ≡ get_or requests i r → ¬ IsMetBy axioms f r → ¬ MeetsAt axioms requests f i
  not_at i r e n h = n (subst (IsMetBy axioms f) (sym (e ∙ get_or_from_slice_get requests i h.0 r h.1)) h.2)

  -- one place more
  pub next_place : (n : ℕ) → ((k : ℕ) → k < n → ¬ MeetsAt axioms requests f k) → ¬ MeetsAt axioms requests f n → (k : ℕ) → k < n + 1 → ¬ MeetsAt axioms requests f k
  next_place n before at k l = ⊎_elim
      (λ m. before k m)
      (λ m. let e : n ≡ k = omega (arith, l, m) in subst (λ (z : ℕ). ¬ MeetsAt axioms requests f z) e at)
      (cases_lt k n)

  -- past all places
  pub none_at_all : (n : ℕ) → length requests ≤ n → ((k : ℕ) → k < n → ¬ MeetsAt axioms requests f k) → MeetsNone axioms requests f
  none_at_all n l none r m h = none m.0 (let w = m.1 in omega (arith, l, w)) (meets_at m.0 r m.1 (sym m.2) h)

-- a change, by its lists
module _ (axioms : List Axiom) (r : Request) (inserts deletes xs ys : List Fact) (is : r ≡ Change inserts deletes) (i : xs ≡ inserts) (d : ys ≡ deletes) where
  pub well_change : IsWell axioms r → IsWellFormed axioms xs ys
  well_change well =
      subst (λ (us : List Fact). IsWellFormed axioms us ys) (sym i) (subst (λ (vs : List Fact). IsWellFormed axioms inserts vs) (sym d) (subst (IsWell axioms) is well))

  pub met_change : (f : Fact) (b : Bool) → (IsTrue b ↔ Meets axioms xs ys f) → IsTrue b ↔ IsMetBy axioms f r
  met_change f b h = subst (λ (s : Request). IsTrue b ↔ IsMetBy axioms f s) (sym is)
      (subst (λ (us : List Fact). IsTrue b ↔ Meets axioms us deletes f) i (subst (λ (vs : List Fact). IsTrue b ↔ Meets axioms xs vs f) d h))

-- a place of a list that is read through another name
pub within_same : (xs ys : List Request) (i : ℕ) → ys ≡ xs → i < length ys → i < length xs
within_same xs ys i e l = subst (λ (rs : List Request). i < length rs) e l

pub at_same : (xs ys : List Request) (i : ℕ) (r : Request) → ys ≡ xs → r ≡ get_or ys i r → r ≡ get_or xs i r
at_same xs ys i r e is = is ∙ ap (λ (rs : List Request). get_or rs i r) e
