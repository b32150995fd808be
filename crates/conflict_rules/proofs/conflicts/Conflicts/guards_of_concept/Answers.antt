use Rattle.std.proofs.Common.{List, sym, subst}
use Rattle.dl_base.specs.declared.patterns.Pattern.{Pattern}
use Rattle.conflict_rules.specs.Counts.{AreGuardsBelow, IsGuardAt}
use Rattle.conflict_rules.proofs.Adding.{below_first, below_on}
use Rattle.conflict_rules.proofs.conflicts.Conflicts.guards_of_concept.Goals as goal

pub loop-place-init : goal.loop-place-init
loop-place-init c = (
  c.next_of_concept-place.ensures.within,
  subst (λ (xs : List Pattern). AreGuardsBelow (IsGuardAt c.args.self.now.axioms c.args.name.now c.args.concept) 4 c.next_of_concept-place.result xs) (sym c.new-guards.ensures.items)
      (below_first (IsGuardAt c.args.self.now.axioms c.args.name.now c.args.concept) 4 c.next_of_concept-place.result (c.next_of_concept-place.ensures.passed c.args.name.now)),
)

pub loop-place-preserved : goal.loop-place-preserved
loop-place-preserved c = (
  c.next_of_concept-place-in-loop-place.ensures.within,
  below_on (IsGuardAt c.args.self.now.axioms c.args.name.now c.args.concept) 4 c.loop-place.place c.next_of_concept-place-in-loop-place.result c.loop-place.guards.items c.add_all.new.guards.items
      c.loop-place.invariant.1 c.in_ok-add_all.ensures c.next_of_concept-place-in-loop-place.ensures.later (c.next_of_concept-place-in-loop-place.ensures.passed c.args.name.now),
)
