use Rattle.std.proofs.Common.{◌≡◌, ◌≤◌, ◌*◌, length, take}
use Rattle.dl_text.specs.Printing.{written}
use Rattle.ntriples.proofs.measuring.written_length.Given as goal

abbrev pub invariant-loop-b : goal.invariant-loop-b
invariant-loop-b l = (l.count ≡ length (written (take l.b-index l.text))) × (l.count ≤ 2 * l.b-index)
