use Rattle.std.proofs.Common.{◌≡◌, ◌++◌, drop}
use Rattle.std.specs.List.{flat_map}
use Rattle.owl_read.specs.Table.{given}
use Rattle.owl_read.proofs.table.give_parts.Given as goal

abbrev pub invariant-loop-part : goal.invariant-loop-part
invariant-loop-part l = l.axioms.items ++ flat_map (given l.pass l.concept) (drop l.part-index l.parts) ≡ l.initial.axioms.items ++ flat_map (given l.pass l.concept) l.parts
