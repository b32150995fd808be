use Rattle.std.proofs.Common.{ap, sym, List}
use Rattle.std.specs.Prelude.{Some}
use Rattle.owl_syntax.specs.declared.nodes.PrefixLine.{PrefixLine}
use Rattle.owl_syntax.specs.Reading.{Lines}
use Rattle.owl_syntax.proofs.DepthLaws.{shallow_none}
use Rattle.owl_syntax.proofs.parsing.Progress.new.Goals as goal

pub returns : goal.returns
returns c = (ap (λ (l : List PrefixLine). Some (Lines l)) (sym c.new.ensures), shallow_none)
