use Rattle.std.proofs.Common.{◌≡◌, ◌<◌, List, length, take, refl, sym, ◌∙◌, ap, subst, ⊎_elim, arith}
use Rattle.std.specs.Prelude.{Contains}
use Rattle.std.proofs.Math.Seq.{take-length}
use Rattle.std.proofs.lemmas.List.Elements.{Contains-push_cases}
use Rattle.dl_base.specs.Ontologies.{Theory, Knows}
use Rattle.dl_base.specs.declared.statements.Fact.{Fact}
use Rattle.tbox_closure.proofs.LoopLaws.{take_on}
use Rattle.update_engine.proofs.rules.Rules.knows_all.Goals as goal

pub loop-fact-preserved : goal.loop-fact-preserved
loop-fact-preserved c f m =
    let facts = c.args.facts.now in
    let at = c.loop-fact.fact-index in
    let within : at < length facts = omega arith in
    let known = subst (λ (t : Theory). Knows t c.fact-item.result) c.ontology.ensures (c.knows.ensures.0 c.if-not-knows.false) in
    ⊎_elim
    (c.loop-fact.invariant f)
    (λ e. subst (Knows c.args.self.now) e known)
    (Contains-push_cases (take at facts) c.fact-item.result f (subst (λ (fs : List Fact). Contains fs f) (take_on facts at c.fact-item.result within c.fact-item.is) m))

pub returns : goal.returns
returns c =
    let facts = c.args.facts.now in
    let all : c.loop-fact.fact-index ≡ length facts = omega arith in
    (λ t f m. c.loop-fact.invariant f (subst (λ (fs : List Fact). Contains fs f) (sym (ap (λ n. take n facts) all ∙ take-length facts)) m), λ h. refl)
