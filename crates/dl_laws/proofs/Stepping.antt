-- The stored step, without premises on what is told or listed.
use Rattle.std.specs.Prelude.{◌↔◌, List, Contains}
use Rattle.dl_base.specs.declared.axioms.Axiom.{Axiom}
use Rattle.dl_base.specs.declared.statements.Fact.{Fact}
use Rattle.dl_base.specs.Derivation.{InClosure}
use Rattle.dl_base.specs.Clash.{IsConsistent}
use Rattle.dl_base.specs.Updates.{IsWellFormed, IsStored, Updates, IsLost, Meets}
use Rattle.dl_base.proofs.UpdateLaws.{stored_updates, stored_consistent, lost_is}
use Rattle.dl_laws.proofs.ClashTelling.{told_meets}
use Rattle.dl_laws.proofs.Listing.{closure, lists_closure}

module _ (axioms : List Axiom) (old inserts deletes new : List Fact) (consistent : IsConsistent axioms old) (well : IsWellFormed axioms inserts deletes) (stored : (f : Fact) → Contains new f ↔ IsStored axioms old inserts deletes f) where
  pub step_updates : Updates axioms old inserts deletes new × IsConsistent axioms new
  step_updates = (
    stored_updates axioms old inserts deletes consistent well (λ f m. told_meets axioms inserts deletes f) (closure axioms old) (lists_closure axioms old) new stored,
    stored_consistent axioms old inserts deletes consistent well (λ f m. told_meets axioms inserts deletes f) (closure axioms old) (lists_closure axioms old) new stored,
  )

  pub step_loses : (f : Fact) → IsLost axioms old new f ↔ (InClosure axioms old f × Meets axioms inserts deletes f)
  step_loses = lost_is axioms old inserts deletes consistent well (λ f m. told_meets axioms inserts deletes f) (closure axioms old) (lists_closure axioms old) new stored
