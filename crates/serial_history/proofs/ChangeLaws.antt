-- What the parts of a transaction change of the version that stands.
use Rattle.std.proofs.Common.{◌↔◌, List, inl, inr, ⊎_elim}
use Rattle.std.specs.Prelude.{Contains}
use Rattle.dl_base.specs.declared.requests.Changed.{Changed}
use Rattle.dl_base.specs.declared.statements.Fact.{Fact}
use Rattle.dl_base.specs.Changing.{Fits, IsChanged, added, removed}
use Rattle.dl_base.specs.Picks.{Picks}
use Rattle.dl_base.specs.Transactions.{IsChange}
use Rattle.dl_base.proofs.PicksLaws.{from_picks, into_picks}
use Rattle.dl_base.proofs.SameFacts.{fact_in_or_not}
use Rattle.serial_history.specs.Marks.{IsMarked}

module _ (version put taken come gone : List Fact) (changed : List Changed) (marked : IsMarked gone come changed)
    (comes : Picks (λ f. ¬ Contains version f) put come) (goes : Picks (Contains version) taken gone) where
  -- what comes was put and isn't held, and what goes was taken and is held
  pub come_is : (f : Fact) → Contains changed (added f) ↔ (Contains put f × ¬ Contains version f)
  come_is f = (
    (λ m. from_picks (λ (g : Fact). ¬ Contains version g) put come f comes ((marked.added f).0 m)),
    λ h. (marked.added f).1 (into_picks (λ (g : Fact). ¬ Contains version g) put come f comes h.0 h.1),
  )

  pub gone_is : (f : Fact) → Contains changed (removed f) ↔ (Contains taken f × Contains version f)
  gone_is f = (
    (λ m. from_picks (Contains version) taken gone f goes ((marked.removed f).0 m)),
    λ h. (marked.removed f).1 (into_picks (Contains version) taken gone f goes h.0 h.1),
  )

  pub fits : Fits version changed
  fits = record { come = λ f m. ((come_is f).0 m).1; go = λ f m. ((gone_is f).0 m).1 }

  -- the version after them
  pub change_is : (next : List Fact) → IsChanged version changed next → IsChange version next changed
  change_is next h = record {
    sorted = marked.sorted;
    added = λ f. ((λ m. ((h f).1 (inr m), ((come_is f).0 m).1)), λ k. ⊎_elim (λ o. absurd (k.1 o.0)) (λ c. c) ((h f).0 k.0));
    removed = λ f. (
      (λ m. (((gone_is f).0 m).1, λ n. ⊎_elim (λ o. o.1 m) (λ c. ((come_is f).0 c).1 ((gone_is f).0 m).1) ((h f).0 n))),
      λ k. ⊎_elim
          (λ g. (marked.removed f).1 g)
          (λ n. absurd (k.1 ((h f).1 (inl (k.0, λ m. n ((marked.removed f).0 m))))))
          (fact_in_or_not gone f),
    );
  }
