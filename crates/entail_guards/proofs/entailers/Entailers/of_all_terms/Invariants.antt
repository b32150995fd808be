use Rattle.std.proofs.Common.{◌≤◌, ◌*◌, length}
use Rattle.entail_guards.specs.Asking.{AsksBelow}
use Rattle.entail_guards.proofs.FewLaws.{TwoBelow}
use Rattle.entail_guards.proofs.entailers.Entailers.of_all_terms.Given as goal

abbrev pub invariant-loop-number : goal.invariant-loop-number
invariant-loop-number l = record {
  asks : AsksBelow l.self l.pattern l.number l.patterns.items;
  few : length l.patterns.items ≤ 2 * l.number;
  each : TwoBelow l.number l.patterns.items;
}
