use Rattle.std.proofs.Common.{◌≡◌, map, take}
use Rattle.owl_read.proofs.ScopeLaws.{term_of}
use Rattle.owl_read.proofs.scope.Scope.entries.Given as goal

abbrev pub invariant-loop-place : goal.invariant-loop-place
invariant-loop-place l = l.terms.items ≡ map term_of (take l.place l.self-inside.terms.entries)
