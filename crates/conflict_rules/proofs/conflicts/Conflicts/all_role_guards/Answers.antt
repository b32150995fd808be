use Rattle.std.proofs.Common.{List, sym, subst}
use Rattle.dl_base.specs.declared.patterns.Pattern.{Pattern}
use Rattle.conflict_rules.specs.Counts.{AreGuardsBelow}
use Rattle.conflict_rules.specs.RoleGuards.{IsKindGuardAt}
use Rattle.conflict_rules.proofs.Adding.{below_first, below_on}
use Rattle.conflict_rules.proofs.conflicts.Conflicts.all_role_guards.Goals as goal

pub loop-place-init : goal.loop-place-init
loop-place-init c = (
  c.next_of_role-place.ensures.within,
  subst (λ (xs : List Pattern). AreGuardsBelow (IsKindGuardAt c.args.self.now c.args.role c.args.from.now c.args.to.now) 8 c.next_of_role-place.result xs) (sym c.new-guards.ensures.items)
      (below_first (IsKindGuardAt c.args.self.now c.args.role c.args.from.now c.args.to.now) 8 c.next_of_role-place.result (c.next_of_role-place.ensures.passed c.args.from.now c.args.to.now)),
)

pub loop-place-preserved : goal.loop-place-preserved
loop-place-preserved c = (
  c.next_of_role-place-in-loop-place.ensures.within,
  below_on (IsKindGuardAt c.args.self.now c.args.role c.args.from.now c.args.to.now) 8 c.loop-place.place c.next_of_role-place-in-loop-place.result c.loop-place.guards.items c.add_at.new.guards.items
      c.loop-place.invariant.1 c.in_ok-add_at.ensures c.next_of_role-place-in-loop-place.ensures.later (c.next_of_role-place-in-loop-place.ensures.passed c.args.from.now c.args.to.now),
)
