use Rattle.std.proofs.Common.{◌≡◌, ◌++◌, take}
use Rattle.dl_text.specs.Printing.{written}
use Rattle.ntriples.proofs.printing.push_written.Given as goal

abbrev pub invariant-loop-b : goal.invariant-loop-b
invariant-loop-b l = l.text.items ≡ l.fn.text.items ++ written (take l.b-index l.raw)
