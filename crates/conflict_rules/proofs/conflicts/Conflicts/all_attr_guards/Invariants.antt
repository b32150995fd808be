use Rattle.std.specs.Prelude.{◌≤◌, ◌-◌, length}
use Rattle.conflict_rules.specs.AttrGuards.{IsAttrGuardAt}
use Rattle.conflict_rules.specs.Counts.{AreGuardsBelow}
use Rattle.conflict_rules.proofs.conflicts.Conflicts.all_attr_guards.Given as goal

abbrev pub invariant-loop-place : goal.invariant-loop-place
invariant-loop-place l = (l.place ≤ length l.self.terms) × AreGuardsBelow (IsAttrGuardAt l.self.axioms l.attr l.name l.value) 6 l.place l.guards.items

abbrev pub decreases-loop-place : goal.decreases-loop-place
decreases-loop-place l = length l.self.terms - l.place
