use Rattle.std.proofs.Common.{subst}
use Rattle.ntriples.specs.declared.grammar.Progress.{Progress}
use Rattle.ntriples.specs.Grammar.{Fits}
use Rattle.ntriples.proofs.grammar.finish.Goals as goal

pub returns-in-Going : goal.returns-in-Going
returns-in-Going c tokens f = c.whole.ensures tokens (subst (λ (p : Progress). Fits p tokens) c.in-Going.is f)
