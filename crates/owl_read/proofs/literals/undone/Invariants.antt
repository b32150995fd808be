use Rattle.std.proofs.Common.{◌≡◌, ◌++◌, drop, false}
use Rattle.owl_read.specs.Literals.{undone}
use Rattle.owl_read.proofs.literals.undone.Given as goal

abbrev pub invariant-loop-byte : goal.invariant-loop-byte
invariant-loop-byte l = l.text.items ++ undone l.escaped (drop l.byte-index l.raw) ≡ undone false l.raw
