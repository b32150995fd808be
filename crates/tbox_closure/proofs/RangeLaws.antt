-- The list of ranges, and what is above an attribute in it.
use Rattle.std.proofs.Common.{◌≡◌, ℕ, ◌<◌, ◌+◌, List, [], ◌∷◌, ◌++◌, length, take, get_or, sym, ap, subst, ⊎_elim}
use Rattle.std.specs.Prelude.{Contains, ◌≢◌}
use Rattle.std.proofs.lemmas.List.Elements.{Contains-append_left, Contains-append_right, Contains-push_cases}
use Rattle.dl_base.specs.declared.axioms.Axiom.{Axiom}
use Rattle.dl_base.specs.declared.axioms.Axiom.TheVariants.{Range}
use Rattle.dl_base.specs.declared.terms.Term.{Term}
use Rattle.dl_base.proofs.Members.{here, nowhere}
use Rattle.tbox_closure.specs.Tables.{AreRanges}
use Rattle.tbox_closure.proofs.LoopLaws.{take_on}

abbrev pub range : Term → List ℕ → Term × List ℕ
range v d = (v, d)

pub ranges_none : AreRanges [] []
ranges_none v d = (λ m. absurd (nowhere (range v d) m), λ m. absurd (nowhere (Range v d) m))

abbrev pub Grown : List Axiom → Axiom → List (Term × List ℕ) → Type 0
Grown xs it ranges = AreRanges (xs ++ it ∷ []) ranges

grown_push : (xs : List Axiom) (w : Term) (e : List ℕ) (old : List (Term × List ℕ)) → AreRanges xs old → Grown xs (Range w e) (old ++ range w e ∷ [])
grown_push xs w e old before v d = (
  λ m. ⊎_elim
      (λ k. Contains-append_left xs (Range w e ∷ []) (Range v d) ((before v d).0 k))
      (λ k. let one : w ≡ v = ap (λ (z : Term × List ℕ). z.0) k in let two : e ≡ d = ap (λ (z : Term × List ℕ). z.1) k in
      subst (λ (z : Term). Contains (xs ++ Range w e ∷ []) (Range z d)) one (subst (λ (z : List ℕ). Contains (xs ++ Range w e ∷ []) (Range w z)) two (Contains-append_right xs (Range w e ∷ []) (Range w e) (here (Range w e) []))))
      (Contains-push_cases old (range w e) (range v d) m),
  λ m. ⊎_elim
      (λ k. Contains-append_left old (range w e ∷ []) (range v d) ((before v d).1 k))
      (λ (k : Range w e ≡ Range v d). let one : w ≡ v = cc in let two : e ≡ d = cc in
      subst (λ (z : Term). Contains (old ++ range w e ∷ []) (range z d)) one (subst (λ (z : List ℕ). Contains (old ++ range w e ∷ []) (range w z)) two (Contains-append_right old (range w e ∷ []) (range w e) (here (range w e) []))))
      (Contains-push_cases xs (Range w e) (Range v d) m),
)

grown_skip : (xs : List Axiom) (it : Axiom) (old : List (Term × List ℕ)) → AreRanges xs old → ((v : Term) (d : List ℕ) → it ≢ Range v d) → Grown xs it old
grown_skip xs it old before none v d = (
  λ m. Contains-append_left xs (it ∷ []) (Range v d) ((before v d).0 m),
  λ m. ⊎_elim (λ k. (before v d).1 k) (λ k. absurd (none v d k)) (Contains-push_cases xs it (Range v d) m),
)

pub ranges_push : (axioms : List Axiom) (i : ℕ) (it : Axiom) (w : Term) (e : List ℕ) (old new : List (Term × List ℕ)) → i < length axioms → it ≡ get_or axioms i it → it ≡ Range w e → new ≡ old ++ range w e ∷ []
    → AreRanges (take i axioms) old → AreRanges (take (i + 1) axioms) new
ranges_push axioms i it w e old new l same is grows before =
    subst (λ (xs : List Axiom). AreRanges xs new) (sym (take_on axioms i it l same))
    (subst (λ (x : Axiom). Grown (take i axioms) x new) (sym is) (subst (Grown (take i axioms) (Range w e)) (sym grows) (grown_push (take i axioms) w e old before)))

pub ranges_skip : (axioms : List Axiom) (i : ℕ) (it : Axiom) (old : List (Term × List ℕ)) → i < length axioms → it ≡ get_or axioms i it → ((v : Term) (d : List ℕ) → it ≢ Range v d)
    → AreRanges (take i axioms) old → AreRanges (take (i + 1) axioms) old
ranges_skip axioms i it old l same none before = subst (λ (xs : List Axiom). AreRanges xs old) (sym (take_on axioms i it l same)) (grown_skip (take i axioms) it old before none)
