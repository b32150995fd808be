use Rattle.std.proofs.Common.{[], ◌∷◌, List, refl, sym, ◌∙◌, ap, subst, arith}
use Rattle.std.specs.Prelude.{◌↔◌, Contains}
use Rattle.dl_base.specs.Changing.{IsChanged}
use Rattle.dl_base.specs.FactOrder.{AreSorted}
use Rattle.dl_base.specs.declared.statements.Fact.{Fact}
use Rattle.fact_delta.specs.Deltas.{standing, Over}
use Rattle.fact_index.specs.Keeping.{IsKept}
use Rattle.fact_index.proofs.WholeLaws.{changed_same}
use Rattle.fact_index.proofs.whole.WholeVersions.with_change.Goals as goal

pub changed_delta-requires : goal.changed_delta-requires
changed_delta-requires c = rw (c.deref.ensures, c.self.view_is) c.requires.fits

pub invariant_of-result : goal.invariant_of-result
invariant_of-result c = subst IsKept (sym c.in_ok-new.ensures.ok) (record { sorted = c.in_ok-next.ensures.sorted; room = c.if-is_small.ensures refl })

pub returns-then-is_small-clause-changed : goal.returns-then-is_small-clause-changed
returns-then-is_small-clause-changed c = λ f. rw (c.in_ok-new.ensures.ok, ← c.self.view_is) (rw c.deref.ensures at (c.in_ok-next.ensures.changed f))

pub returns-then-is_small-clause-sorted : goal.returns-then-is_small-clause-sorted
returns-then-is_small-clause-sorted c = rw c.in_ok-new.ensures.ok c.in_ok-next.ensures.sorted

pub returns-then-is_small-clause-trimmed : goal.returns-then-is_small-clause-trimmed
returns-then-is_small-clause-trimmed c = (c.args.self.now ∷ [], refl, omega arith)

pub returns-clause-changed : goal.returns-clause-changed
returns-clause-changed c =
    let change = rw (c.deref.ensures, c.self.view_is) at c.in_ok-next.ensures.changed in
    changed_same c.args.self.now c.args.changed.now (standing c.in_ok-next.next) c.in_ok-whole.whole change
    (λ f. subst (λ (fs : List Fact). Contains c.in_ok-whole.whole f ↔ Contains fs f) c.in_ok-all_of.ensures (c.in_ok-whole.ensures.same f))

pub returns-clause-trimmed : goal.returns-clause-trimmed
returns-clause-trimmed c = (c.args.self.now ∷ [], refl, omega arith)
