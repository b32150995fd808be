use Rattle.std.proofs.Common.{◌↔◌, drop}
use Rattle.dl_text.specs.Iris.{HasScheme}
use Rattle.dl_text.proofs.iris.has_scheme.Given as goal

abbrev pub invariant-loop-b : goal.invariant-loop-b
invariant-loop-b l = HasScheme l.bytes ↔ HasScheme (drop l.b-index l.bytes)
