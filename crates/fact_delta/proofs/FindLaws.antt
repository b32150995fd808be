-- What is found in a base with what came to it and what went from it.
use Rattle.std.proofs.Common.{◌≡◌, IsTrue, Bool, true, false, List, ◌++◌, refl, sym, subst, inl, inr, ⊎_elim}
use Rattle.std.specs.Prelude.{◌↔◌, Contains}
use Rattle.std.proofs.lemmas.Bool.{false≢true}
use Rattle.std.proofs.lemmas.List.Elements.{Contains-append_left, Contains-append_right, Contains-append_cases}
use Rattle.dl_base.specs.declared.patterns.Pattern.{Pattern}
use Rattle.dl_base.specs.declared.statements.Fact.{Fact}
use Rattle.dl_base.specs.FactOrder.{AreSorted}
use Rattle.dl_base.specs.Patterns.{Matches}
use Rattle.dl_base.specs.Picks.{Picks}
use Rattle.dl_base.specs.Updates.{Lists}
use Rattle.dl_base.proofs.PicksLaws.{from_picks, into_picks}
use Rattle.dl_base.proofs.SameFacts.{same_facts}
use Rattle.fact_delta.specs.Deltas.{Over, IsOver, standing}
use Rattle.fact_delta.proofs.ListLaws.{Missing}
use Rattle.fact_delta.proofs.StandingLaws.{stands, standing_sorted}

module _ (d : Over) (is : IsOver d) where
  module _ (f : Fact) where
    pub has_came : (came : List Fact) → came ≡ d.came → Contains came f → IsTrue true ↔ Contains (standing d) f
    has_came came e m = ((λ t. (stands d is f).1 (inr (subst (λ (fs : List Fact). Contains fs f) e m))), λ k. refl)

    pub has_gone : (came went : List Fact) → came ≡ d.came → went ≡ d.went → (¬ Contains came f) → Contains went f → IsTrue false ↔ Contains (standing d) f
    has_gone came went e h n m = (
      (λ t. absurd (false≢true t)),
      λ k. absurd (⊎_elim
          (λ b. b.1 (subst (λ (fs : List Fact). Contains fs f) h m))
          (λ c. n (subst (λ (fs : List Fact). Contains fs f) (sym e) c))
          ((stands d is f).0 k)),
    )

    pub has_held : (came went : List Fact) → came ≡ d.came → went ≡ d.went → (¬ Contains came f) → (¬ Contains went f) → (b : Bool) → IsTrue b ↔ Contains d.base f → IsTrue b ↔ Contains (standing d) f
    has_held came went e h n m b held = (
      (λ t. (stands d is f).1 (inl (held.0 t, λ k. m (subst (λ (fs : List Fact). Contains fs f) (sym h) k)))),
      λ k. held.1 (⊎_elim (λ b. b.0) (λ c. absurd (n (subst (λ (fs : List Fact). Contains fs f) (sym e) c))) ((stands d is f).0 k)),
    )

  -- what was found in the base without what went, and what of that which came matches
  pub found_is : (p : Pattern) (held kept more all found given went came : List Fact) → Lists (λ f. Contains d.base f × Matches p f) held → given ≡ held → went ≡ d.went → came ≡ d.came
      → Picks (Missing went) given kept → Picks (Matches p) came more → all ≡ kept ++ more → ((f : Fact) → Contains found f ↔ Contains all f) → AreSorted found
      → Lists (λ f. Contains (standing d) f × Matches p f) found
  found_is p held kept more all found given went came lists g w k left right joined same sorted = record {
    sorted = sorted;
    each = λ f. (
      (λ m. ⊎_elim
          (λ n.
          let r = from_picks (Missing went) given kept f left n in
          let h = (lists.each f).0 (subst (λ (fs : List Fact). Contains fs f) g r.0) in
          ((stands d is f).1 (inl (h.0, λ z. r.1 (subst (λ (fs : List Fact). Contains fs f) (sym w) z))), h.1))
          (λ n.
          let r = from_picks (Matches p) came more f right n in
          ((stands d is f).1 (inr (subst (λ (fs : List Fact). Contains fs f) k r.0)), r.1))
          (Contains-append_cases kept more f (subst (λ (fs : List Fact). Contains fs f) joined ((same f).0 m)))),
      λ h. (same f).1 (subst (λ (fs : List Fact). Contains fs f) (sym joined) (⊎_elim
          (λ b. Contains-append_left kept more f
          (into_picks (Missing went) given kept f left (subst (λ (fs : List Fact). Contains fs f) (sym g) ((lists.each f).1 (b.0, h.1))) (λ z. b.1 (subst (λ (fs : List Fact). Contains fs f) w z))))
          (λ c. Contains-append_right kept more f (into_picks (Matches p) came more f right (subst (λ (fs : List Fact). Contains fs f) (sym k) c) h.1))
          ((stands d is f).0 h.0))),
    );
  }

  -- the base without what went, and what came
  pub all_is : (base kept more all found went came : List Fact) → base ≡ d.base → went ≡ d.went → came ≡ d.came → Picks (Missing went) base kept → more ≡ came → all ≡ kept ++ more
      → ((f : Fact) → Contains found f ↔ Contains all f) → AreSorted found → found ≡ standing d
  all_is base kept more all found went came b w k left right joined same sorted = same_facts found (standing d) sorted (standing_sorted d is)
      (λ f m. (stands d is f).1 (⊎_elim
      (λ n. let r = from_picks (Missing went) base kept f left n in inl (subst (λ (fs : List Fact). Contains fs f) b r.0, λ z. r.1 (subst (λ (fs : List Fact). Contains fs f) (sym w) z)))
      (λ n. inr (subst (λ (fs : List Fact). Contains fs f) k (subst (λ (fs : List Fact). Contains fs f) right n)))
      (Contains-append_cases kept more f (subst (λ (fs : List Fact). Contains fs f) joined ((same f).0 m)))))
      (λ f m. (same f).1 (subst (λ (fs : List Fact). Contains fs f) (sym joined) (⊎_elim
      (λ h. Contains-append_left kept more f (into_picks (Missing went) base kept f left (subst (λ (fs : List Fact). Contains fs f) (sym b) h.0) (λ z. h.1 (subst (λ (fs : List Fact). Contains fs f) w z))))
      (λ h. Contains-append_right kept more f (subst (λ (fs : List Fact). Contains fs f) (sym right) (subst (λ (fs : List Fact). Contains fs f) (sym k) h)))
      ((stands d is f).0 m))))
