use Rattle.std.specs.Prelude.{◌≤◌, ◌-◌, length}
use Rattle.conflict_rules.specs.Counts.{AreGuardsBelow, IsGuardAt}
use Rattle.conflict_rules.proofs.conflicts.Conflicts.guards_of_concept.Given as goal

abbrev pub invariant-loop-place : goal.invariant-loop-place
invariant-loop-place l = (l.place ≤ length l.self.terms) × AreGuardsBelow (IsGuardAt l.self.axioms l.name l.concept) 4 l.place l.guards.items

abbrev pub decreases-loop-place : goal.decreases-loop-place
decreases-loop-place l = length l.self.terms - l.place
