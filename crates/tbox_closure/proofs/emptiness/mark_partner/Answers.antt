use Rattle.std.proofs.Common.{ap, sym, ◌∙◌}
use Rattle.std.proofs.lemmas.Bool.{false≢true}
use Rattle.dl_base.specs.declared.terms.Basic.TheVariants as basic
use Rattle.tbox_closure.proofs.EmptyLaws.{partner_one, partner_none}
use Rattle.tbox_closure.proofs.emptiness.mark_partner.Goals as goal

pub returns-then-are_disjoint_among-clause-wide : goal.returns-then-are_disjoint_among-clause-wide
returns-then-are_disjoint_among-clause-wide c = c.mark_at.ensures.wide 1 c.requires.wide

pub returns-then-are_disjoint_among-clause-noted : goal.returns-then-are_disjoint_among-clause-noted
returns-then-are_disjoint_among-clause-noted c =
    partner_one c.args.tables.now.axioms c.args.it.now c.in-ConceptSome.b c.in-ConceptSome.q c.in-ConceptSome.c (basic.Exists c.turned.result) c.merged_number.result c.args.rows.now c.mark_at.new.rows
    c.in-ConceptSome.is (ap basic.Exists c.turned.ensures) (c.are_disjoint_among.ensures.0 c.if-are_disjoint_among.true) c.merged_number.ensures c.mark_at.ensures.marked

pub returns-else-are_disjoint_among-clause-noted : goal.returns-else-are_disjoint_among-clause-noted
returns-else-are_disjoint_among-clause-noted c =
    partner_none c.args.tables.now.axioms c.args.it.now c.in-ConceptSome.b c.in-ConceptSome.q c.in-ConceptSome.c (basic.Exists c.turned.result) c.args.rows.now
    c.in-ConceptSome.is (ap basic.Exists c.turned.ensures) (λ h. false≢true (sym c.if-are_disjoint_among.false ∙ c.are_disjoint_among.ensures.1 h))
