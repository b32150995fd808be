-- Changes of which the tests see that they are well-formed.
use Rattle.std.proofs.Common.{◌≡◌, List, [], ◌∷◌, length, get_or, refl, sym, ap, subst, arith, inl, inr}
use Rattle.dl_base.specs.declared.axioms.Axiom.{Axiom}
use Rattle.dl_base.specs.declared.requests.Request.{Request}
use Rattle.dl_base.specs.declared.requests.Request.TheVariants.{Change}
use Rattle.dl_base.specs.declared.statements.Fact.{Fact}
use Rattle.dl_base.specs.Clash.{HasClash}
use Rattle.dl_base.specs.Derivation.{row_of}
use Rattle.dl_base.specs.Transactions.{IsWell}
use Rattle.dl_base.specs.Updates.{IsIllFormed, IsWellFormed}
use Rattle.dl_base.proofs.ClashLaws.{clash_of_two}
use Rattle.dl_base.proofs.ClosureLaws.{from_one}
use Rattle.dl_base.proofs.Members.{nowhere}

nothing : (xs : List Fact) → length xs ≡ 0 → xs ≡ []
nothing [] e = refl
nothing (x ∷ xs) e = let no : ⊥ = omega (arith, e) in absurd no

single : (xs : List Fact) (x : Fact) → length xs ≡ 1 → x ≡ get_or xs 0 x → xs ≡ x ∷ []
single [] x l e = let no : ⊥ = omega (arith, l) in absurd no
single (y ∷ []) x l e = ap (λ (z : Fact). z ∷ []) (sym e)
single (y ∷ z ∷ xs) x l e = let no : ⊥ = omega (arith, l) in absurd no

module _ (axioms : List Axiom) where
  of_nothing : (deletes : List Fact) → ¬ IsIllFormed axioms [] deletes
  of_nothing deletes (inl clash) = let p = clash_of_two axioms [] clash in nowhere p.0 p.2
  of_nothing deletes (inr d) = let p = from_one axioms [] (row_of d.0) d.2 in nowhere p.0 p.1

  of_single : (x : Fact) → ¬ HasClash axioms (x ∷ []) → ¬ IsIllFormed axioms (x ∷ []) []
  of_single x own (inl clash) = own clash
  of_single x own (inr d) = nowhere d.0 d.1

  -- without insertions
  pub deletes_alone : (inserts deletes : List Fact) → length inserts ≡ 0 → IsWellFormed axioms inserts deletes
  deletes_alone inserts deletes e = subst (λ (us : List Fact). IsWellFormed axioms us deletes) (sym (nothing inserts e)) (of_nothing deletes)

  -- with one insertion and no deletion
  pub one_alone : (inserts deletes : List Fact) (x : Fact) → length inserts ≡ 1 → length deletes ≡ 0 → x ≡ get_or inserts 0 x → ¬ HasClash axioms (x ∷ []) → IsWellFormed axioms inserts deletes
  one_alone inserts deletes x l e is own =
      subst (λ (us : List Fact). IsWellFormed axioms us deletes) (sym (single inserts x l is)) (subst (λ (vs : List Fact). IsWellFormed axioms (x ∷ []) vs) (sym (nothing deletes e)) (of_single x own))

  pub well_of : (r : Request) (inserts deletes xs ys : List Fact) → r ≡ Change inserts deletes → xs ≡ inserts → ys ≡ deletes → IsWellFormed axioms xs ys → IsWell axioms r
  well_of r inserts deletes xs ys is i d h =
      subst (IsWell axioms) (sym is) (subst (λ (us : List Fact). IsWellFormed axioms us deletes) i (subst (λ (vs : List Fact). IsWellFormed axioms xs vs) d h))
