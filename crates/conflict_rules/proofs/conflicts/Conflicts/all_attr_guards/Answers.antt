use Rattle.std.proofs.Common.{List, sym, subst}
use Rattle.dl_base.specs.declared.patterns.Pattern.{Pattern}
use Rattle.conflict_rules.specs.AttrGuards.{IsAttrGuardAt}
use Rattle.conflict_rules.specs.Counts.{AreGuardsBelow}
use Rattle.conflict_rules.proofs.Adding.{below_first, below_on}
use Rattle.conflict_rules.proofs.conflicts.Conflicts.all_attr_guards.Goals as goal

pub loop-place-init : goal.loop-place-init
loop-place-init c = (
  c.next_of_attr-place.ensures.within,
  subst (λ (xs : List Pattern). AreGuardsBelow (IsAttrGuardAt c.args.self.now.axioms c.args.attr c.args.name.now c.args.value.now) 6 c.next_of_attr-place.result xs) (sym c.new-guards.ensures.items)
      (below_first (IsAttrGuardAt c.args.self.now.axioms c.args.attr c.args.name.now c.args.value.now) 6 c.next_of_attr-place.result (c.next_of_attr-place.ensures.passed c.args.name.now c.args.value.now)),
)

pub loop-place-preserved : goal.loop-place-preserved
loop-place-preserved c = (
  c.next_of_attr-place-in-loop-place.ensures.within,
  below_on (IsAttrGuardAt c.args.self.now.axioms c.args.attr c.args.name.now c.args.value.now) 6 c.loop-place.place c.next_of_attr-place-in-loop-place.result c.loop-place.guards.items c.add_attr_guards.new.guards.items
      c.loop-place.invariant.1 c.in_ok-add_attr_guards.ensures c.next_of_attr-place-in-loop-place.ensures.later (c.next_of_attr-place-in-loop-place.ensures.passed c.args.name.now c.args.value.now),
)
