use Rattle.std.specs.Prelude.{◌≤◌, ◌-◌, length}
use Rattle.conflict_rules.specs.Counts.{AreGuardsBelow}
use Rattle.conflict_rules.specs.RoleGuards.{IsKindGuardAt}
use Rattle.conflict_rules.proofs.conflicts.Conflicts.all_role_guards.Given as goal

abbrev pub invariant-loop-place : goal.invariant-loop-place
invariant-loop-place l = (l.place ≤ length l.self.terms) × AreGuardsBelow (IsKindGuardAt l.self l.role l.from l.to) 8 l.place l.guards.items

abbrev pub decreases-loop-place : goal.decreases-loop-place
decreases-loop-place l = length l.self.terms - l.place
