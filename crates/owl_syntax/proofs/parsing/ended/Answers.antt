use Rattle.std.proofs.Common.{subst, inr, refl}
use Rattle.owl_syntax.specs.declared.states.Phase.{Phase}
use Rattle.owl_syntax.specs.Trees.{forest_of}
use Rattle.owl_syntax.specs.Reading.{state_in, state_of}
use Rattle.owl_syntax.proofs.StopLaws.{IsGoing, ends_early, ends_well, unfinished}
use Rattle.owl_syntax.proofs.parsing.ended.Goals as goal

pub returns-in-Done : goal.returns-in-Done
returns-in-Done c tokens g =
    let s = c.args.state in
    ends_well s.prefixes.lines.items s.line s.text.now (forest_of s.nest.since.items) _ tokens
    (subst (λ (p : Phase). IsGoing (state_in p s.prefixes.lines.items s.line s.text.now s.nest) tokens) c.in-Done.is g) c.document_of.ensures.prefixes c.document_of.ensures.root

pub returns : goal.returns
returns c tokens g =
    let s = c.args.state in
    inr (ends_early (state_of s) tokens g (unfinished s.phase s.prefixes.lines.items s.line s.text.now s.nest c.in_default.not-Done), refl, refl)
