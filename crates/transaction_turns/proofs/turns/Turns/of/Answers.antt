use Rattle.std.proofs.Common.{sym, ◌∙◌, subst}
use Rattle.dl_base.specs.Clash.{IsConsistent}
use Rattle.dl_base.specs.Ontologies.{Theory, KnowsPattern}
use Rattle.update_read.specs.Outcomes.{KnowsUpdate}
use Rattle.transaction_turns.proofs.turns.Turns.of.Goals as goal

pub of-requires-clause-consistent : goal.of-requires-clause-consistent
of-requires-clause-consistent c = subst (λ (t : Theory). IsConsistent t.axioms c.args.opened.facts.items) (sym c.requires.rules) c.requires.consistent

pub invariant_of-result : goal.invariant_of-result
invariant_of-result c =
    let known = c.in-Ok.ensures.known in
    let same = sym (c.in-Ok-of.ensures ∙ c.requires.rules) in (
      subst (λ (t : Theory). KnowsUpdate t c.in-Ok.update) same known,
      subst (λ (t : Theory). KnowsPattern t c.in_ok-pattern.pattern) same (c.in_ok-pattern.ensures c.args.opened.ontology (subst (λ fs. Rattle.std.specs.Prelude.All (Rattle.dl_base.specs.Ontologies.Knows c.args.opened.ontology) fs) (sym c.as_slice.ensures) known.0)),
    )
