use Rattle.std.proofs.Common.{◌≡◌, map, take}
use Rattle.owl_read.proofs.ScopeLaws.{term_of}
use Rattle.owl_read.proofs.scope.copied.Given as goal

abbrev pub invariant-loop-name : goal.invariant-loop-name
invariant-loop-name l = map term_of l.terms.entries ≡ take l.name-index l.base
