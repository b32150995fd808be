-- A change of what came and what went, and what stands after it.
use Rattle.std.proofs.Common.{List, inl, inr, ◌⊎◌, ⊎_elim}
use Rattle.std.specs.Prelude.{Contains}
use Rattle.dl_base.specs.declared.statements.Fact.{Fact}
use Rattle.dl_base.specs.Updates.{Lists}
use Rattle.dl_base.proofs.SameFacts.{fact_in_or_not}
use Rattle.fact_delta.specs.Deltas.{Over, IsOver, standing, Fits, IsApplied, IsExchanged}
use Rattle.fact_delta.proofs.StandingLaws.{stands}

module _ (d : Over) (is : IsOver d) (removed added came went : List Fact) (fits : Fits (standing d) removed added)
    (new_came : Lists (IsExchanged d.came removed added d.went) came) (new_went : Lists (IsExchanged d.went added removed d.came) went) where
  abbrev pub next : Over
  next = record { base = d.base; came = came; went = went }

  -- an added fact that didn't go isn't in the base
  added_new : (f : Fact) → Contains added f → ¬ Contains d.went f → ¬ Contains d.base f
  added_new f a n m = fits.come f a ((stands d is f).1 (inl (m, n)))

  -- a removed fact that hadn't come is in the base
  removed_old : (f : Fact) → Contains removed f → ¬ Contains d.came f → Contains d.base f
  removed_old f r n = ⊎_elim (λ k. k.0) (λ k. absurd (n k)) ((stands d is f).0 (fits.go f r))

  pub next_is : IsOver next
  next_is = record {
    base_sorted = is.base_sorted;
    came_sorted = new_came.sorted;
    went_sorted = new_went.sorted;
    new = λ f m. ⊎_elim (λ k. is.new f k.0) (λ k. added_new f k.0 k.1) ((new_came.each f).0 m);
    old = λ f m. ⊎_elim (λ k. is.old f k.0) (λ k. removed_old f k.0 k.1) ((new_went.each f).0 m);
  }

  abbrev Stays : Fact → Type 0
  Stays f = (Contains (standing d) f × ¬ Contains removed f) ⊎ Contains added f

  from_base : (f : Fact) → Contains d.base f → ¬ Contains went f → Stays f
  from_base f m n = ⊎_elim
      (λ w. ⊎_elim (λ a. inr a) (λ k. absurd (n ((new_went.each f).1 (inl (w, k))))) (fact_in_or_not added f))
      (λ w. inl ((stands d is f).1 (inl (m, w)), λ r. n ((new_went.each f).1 (inr (r, λ c. is.new f c m)))))
      (fact_in_or_not d.went f)

  from_came : (f : Fact) → Contains came f → Stays f
  from_came f m = ⊎_elim (λ k. inl ((stands d is f).1 (inr k.0), k.1)) (λ k. inr k.0) ((new_came.each f).0 m)

  into_held : (f : Fact) → Contains (standing d) f → ¬ Contains removed f → Contains (standing next) f
  into_held f m n = (stands next next_is f).1 (⊎_elim
      (λ k. inl (k.0, λ w. ⊎_elim (λ h. k.1 h.0) (λ h. n h.0) ((new_went.each f).0 w)))
      (λ k. inr ((new_came.each f).1 (inl (k, n))))
      ((stands d is f).0 m))

  into_added : (f : Fact) → Contains added f → Contains (standing next) f
  into_added f a = (stands next next_is f).1 (⊎_elim
      (λ w. inl (is.old f w, λ g. ⊎_elim (λ h. h.1 a) (λ h. fits.come f a (fits.go f h.0)) ((new_went.each f).0 g)))
      (λ w. inr ((new_came.each f).1 (inr (a, w))))
      (fact_in_or_not d.went f))

  pub applied : IsApplied (standing d) removed added (standing next)
  applied f = (
    (λ m. ⊎_elim (λ k. from_base f k.0 k.1) (from_came f) ((stands next next_is f).0 m)),
    λ h. ⊎_elim (λ k. into_held f k.0 k.1) (into_added f) h,
  )
