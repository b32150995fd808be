use Rattle.std.proofs.Common.{length, take}
use Rattle.update_engine.specs.Lookups.{ClashesBeside, AskFor, AreFew}
use Rattle.update_engine.proofs.lookups.clashing_patterns.Given as goal

abbrev pub invariant-loop-inserted : goal.invariant-loop-inserted
invariant-loop-inserted l = record {
  asks : AskFor l.rules (ClashesBeside l.rules.axioms) (take l.inserted-index l.inserts) l.patterns.items;
  few : AreFew (length l.rules.terms) l.inserted-index l.patterns.items;
}
