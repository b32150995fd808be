-- What the parts change of a version, as lists that are read through other names.
use Rattle.std.proofs.Common.{◌≡◌, List, sym, subst}
use Rattle.std.specs.Prelude.{true, false, Contains}
use Rattle.dl_base.specs.declared.requests.Changed.{Changed}
use Rattle.dl_base.specs.declared.statements.Fact.{Fact}
use Rattle.dl_base.specs.Changing.{Fits, IsChanged, IsTrimmed}
use Rattle.dl_base.specs.FactOrder.{AreSorted, fact_cmp}
use Rattle.dl_base.specs.Picks.{Picks}
use Rattle.dl_base.proofs.PicksLaws.{from_picks, picks_sorted}
use Rattle.serial_history.specs.Marks.{IsMarked}
use Rattle.read_patterns.specs.declared.parts.Parts.{Parts}
use Rattle.serial_history.specs.Changing.{IsHeldAs, IsUpdate}
use Rattle.serial_history.proofs.ChangeLaws.{fits}

module _ (version : List Fact) (put taken come gone back front : List Fact) (b : back ≡ come) (f : front ≡ gone)
    (comes : Picks (IsHeldAs false version) put come) (goes : Picks (IsHeldAs true version) taken gone) where
  pub apart_at : (x : Fact) → Contains front x → ¬ Contains back x
  apart_at x m n =
      let held = from_picks (IsHeldAs true version) taken gone x goes (subst (λ (fs : List Fact). Contains fs x) f m) in
      let lacked = from_picks (IsHeldAs false version) put come x comes (subst (λ (fs : List Fact). Contains fs x) b n) in
      lacked.1 held.1

  module _ (changed cs : List Changed) (c : cs ≡ changed) (marked : IsMarked front back changed) where
    marked_at : IsMarked gone come changed
    marked_at = subst (λ (fs : List Fact). IsMarked fs come changed) f (subst (λ (fs : List Fact). IsMarked front fs changed) b marked)

    pub fits_at : Fits version cs
    fits_at = subst (Fits version) (sym c) (fits version put taken come gone changed marked_at comes goes)

    pub update_at : (layers : List (List Fact)) (parts : Parts) (next : List Fact) (after : List (List Fact)) → put ≡ parts.added.items → taken ≡ parts.removed.items
        → IsChanged version cs next → AreSorted next → IsTrimmed layers next after → IsUpdate version layers parts changed next after
    update_at layers parts next after p t is sorted trimmed = record {
      marked = (
        come,
        gone,
        subst (λ (fs : List Fact). Picks (IsHeldAs false version) fs come) p comes,
        subst (λ (fs : List Fact). Picks (IsHeldAs true version) fs gone) t goes,
        marked_at,
      );
      changes = subst (λ (ds : List Changed). IsChanged version ds next) c is;
      sorted = sorted;
      trimmed = trimmed;
    }

pub sorted_at : (version taken all gone front : List Fact) → taken ≡ all → front ≡ gone → Picks (IsHeldAs true version) taken gone → AreSorted all → AreSorted front
sorted_at version taken all gone front t f goes sorted = subst AreSorted (sym f) (picks_sorted (IsHeldAs true version) fact_cmp taken gone goes (subst AreSorted (sym t) sorted))
