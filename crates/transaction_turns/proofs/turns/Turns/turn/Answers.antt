use Rattle.std.proofs.Common.{sym, ◌∙◌, ap, subst}
use Rattle.dl_base.specs.Ontologies.{Theory, KnowsPattern}
use Rattle.transaction.specs.Serving.{Open}
use Rattle.transaction_turns.proofs.turns.Turns.turn.Goals as goal

pub ask-requires : goal.ask-requires
ask-requires c =
    let same = ap (λ (x : Open). x.ontology) c.in_ok-change.ensures.ok.recorded in
    record { known = subst (λ (t : Theory). KnowsPattern t c.self.inside.pattern) (sym (same ∙ c.in_ok-transaction.ensures)) c.self.invariant.1 }
