use Rattle.std.proofs.Common.{◌≡◌, take}
use Rattle.ntriples.specs.Printing.{lines}
use Rattle.ntriples.proofs.printing.print_facts.Given as goal

abbrev pub invariant-loop-fact : goal.invariant-loop-fact
invariant-loop-fact l = l.text.items ≡ lines l.ontology (take l.fact-index l.facts)
