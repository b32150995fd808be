use Rattle.std.proofs.Common.{◌≡◌, take}
use Rattle.dl_text.specs.Printing.{written}
use Rattle.ntriples.proofs.writing.cut_escaped.Given as goal

abbrev pub invariant-loop-at : goal.invariant-loop-at
invariant-loop-at l = written (take l.at l.text) ≡ take l.at l.text
