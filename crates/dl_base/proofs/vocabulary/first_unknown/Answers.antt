use Rattle.std.proofs.Common.{◌≡◌, ◌<◌, length, take, arith, ap, subst, List, ◌∙◌}
use Rattle.std.specs.Prelude.{All}
use Rattle.std.proofs.lemmas.List.Elements.{All-more}
use Rattle.std.proofs.Math.Seq.{take-length}
use Rattle.dl_base.specs.declared.axioms.Axiom.{Axiom}
use Rattle.dl_base.specs.Ontologies.{KnowsAxiom}
use Rattle.dl_base.specs.Vocabularies.{bare}
use Rattle.dl_base.proofs.vocabulary.first_unknown.Goals as goal

pub loop-place-preserved : goal.loop-place-preserved
loop-place-preserved c =
    let P = KnowsAxiom (bare c.args.terms.now) in
    let within : c.loop-place.place < length c.args.axioms.now = omega (arith, c.loop-place-test.true) in
    let x = c.index-axioms-place.result in
    All-more P c.args.axioms.now c.loop-place.place x within c.loop-place.invariant (subst P c.index-axioms-place.is (c.if-not-knows_axiom.ensures.0 (let f = c.if-not-knows_axiom.false in cc)))

pub returns : goal.returns
returns c =
    let P = KnowsAxiom (bare c.args.terms.now) in
    let all : c.loop-place.place ≡ length c.args.axioms.now = omega (arith, c.loop-place-test.false, c.loop-place.auto.place-end) in
    subst (λ (zs : List Axiom). All P zs) (ap (λ k. take k c.args.axioms.now) all ∙ take-length c.args.axioms.now) c.loop-place.invariant
