use Rattle.std.proofs.Common.{◌∙◌, subst}
use Rattle.std.specs.Arc.{arc_value}
use Rattle.dl_base.specs.Validity.{IsOntology}
use Rattle.transaction.proofs.ServeLaws.{begun_at, standing_base}
use Rattle.transaction.proofs.transactions.Transaction.at.Goals as goal

pub invariant_of-result : goal.invariant_of-result
invariant_of-result g c =
    let theory : IsOntology (arc_value c.args.rules) = subst IsOntology (c.ontology.ensures ∙ c.deref.ensures) c.terms-terms.ensures.sound in
    begun_at (arc_value c.args.rules) c.over.result (g.V.FactSet.facts c.args.version) c.new.result c.new-2.result.items c.new-3.result.items theory c.requires.consistent c.requires.known
    c.over.ensures.base c.over.ensures.nothing.0 c.over.ensures.nothing.1 c.new.ensures c.new-2.ensures.items c.new-3.ensures.items

pub returns : goal.returns
returns g c =
    let stands = standing_base c.over.result c.over.ensures.nothing.0 c.over.ensures.nothing.1 ∙ c.over.ensures.base in
    λ i. record { ontology = arc_value c.args.rules; number = c.args.base; base = c.over.ensures.base i; requests = c.new.ensures i; stored = stands i }
