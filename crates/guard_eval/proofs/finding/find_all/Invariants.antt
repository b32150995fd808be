use Rattle.std.proofs.Common.{◌+◌, ◌≡◌, length, take}
use Rattle.guard_eval.specs.Finding.{AreFound}
use Rattle.guard_eval.proofs.FoundLaws.{AreFew}
use Rattle.guard_eval.proofs.finding.find_all.Given as goal

abbrev pub invariant-loop-pattern : goal.invariant-loop-pattern
invariant-loop-pattern g l = record {
  found : AreFound (take l.pattern-index l.patterns) (g.S.FactSet.facts l.set) l.facts.items;
  few : AreFew (take l.pattern-index l.patterns) l.facts.items;
  counted : l.steps ≡ l.fn.steps + l.pattern-index + length l.facts.items;
}
