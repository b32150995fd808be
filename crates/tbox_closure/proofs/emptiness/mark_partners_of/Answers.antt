use Rattle.std.proofs.Common.{◌≡◌, ◌<◌, ◌∙◌, List, length, take, sym, ap, subst, arith}
use Rattle.std.specs.Prelude.{Contains}
use Rattle.std.proofs.Math.Seq.{take-length}
use Rattle.std.proofs.lemmas.List.Elements.{All-contains, Contains-get_or}
use Rattle.dl_base.specs.declared.axioms.Axiom.{Axiom}
use Rattle.dl_base.specs.Ontologies.{KnowsAxiom}
use Rattle.tbox_closure.specs.Tables.{HasPartnerNode, Notes}
use Rattle.tbox_closure.proofs.EmptyLaws.{partners_none, partners_more}
use Rattle.tbox_closure.proofs.emptiness.mark_partners_of.Goals as goal

pub mark_partner-requires-clause-known : goal.mark_partner-requires-clause-known
mark_partner-requires-clause-known c =
    let within : c.loop-it.it-index < length c.args.axioms.now = omega arith in
    let member : Contains c.args.axioms.now c.it-item.result = subst (Contains c.args.axioms.now) (sym c.it-item.is) (Contains-get_or c.args.axioms.now c.loop-it.it-index c.it-item.result within) in
    All-contains (KnowsAxiom c.args.tables.now) c.args.tables.now.axioms c.it-item.result c.terms-terms.ensures.sound.known (subst (λ (xs : List Axiom). Contains xs c.it-item.result) c.requires.axioms member)

pub loop-it-init : goal.loop-it-init
loop-it-init c = record { wide = c.requires.wide; noted = partners_none c.args.tables.now.axioms c.args.rows.now }

pub loop-it-preserved : goal.loop-it-preserved
loop-it-preserved c =
    let within : c.loop-it.it-index < length c.args.axioms.now = omega arith in
    record {
      wide = c.mark_partner.ensures.wide;
      noted = partners_more c.args.tables.now.axioms c.args.axioms.now c.loop-it.it-index c.it-item.result c.args.rows.now c.loop-it.rows c.mark_partner.new.rows within c.it-item.is c.loop-it.invariant.noted c.mark_partner.ensures.noted;
    }

pub returns-clause-noted : goal.returns-clause-noted
returns-clause-noted c =
    let all : c.loop-it.it-index ≡ length c.args.axioms.now = omega arith in
    subst (λ (xs : List Axiom). Notes (HasPartnerNode c.args.tables.now.axioms xs) c.args.rows.now c.loop-it.rows) (ap (λ n. take n c.args.axioms.now) all ∙ take-length c.args.axioms.now) c.loop-it.invariant.noted
