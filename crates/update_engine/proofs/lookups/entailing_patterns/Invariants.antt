use Rattle.std.proofs.Common.{length, take}
use Rattle.update_engine.specs.Lookups.{Entails, AskFor, AreFew}
use Rattle.update_engine.proofs.lookups.entailing_patterns.Given as goal

abbrev pub invariant-loop-deleted : goal.invariant-loop-deleted
invariant-loop-deleted l = record {
  asks : AskFor l.rules (Entails l.rules.axioms) (take l.deleted-index l.deletes) l.patterns.items;
  few : AreFew (length l.rules.terms) l.deleted-index l.patterns.items;
}
