use Rattle.std.proofs.Common.{◌<◌, List, length, take, sym, subst, ⊎_elim, arith}
use Rattle.std.specs.Prelude.{Contains}
use Rattle.std.proofs.lemmas.Bool.{false≢true}
use Rattle.std.proofs.lemmas.List.{take_all}
use Rattle.std.proofs.lemmas.List.Elements.{Contains-push_cases}
use Rattle.dl_base.specs.declared.statements.Fact.{Fact}
use Rattle.dl_base.proofs.VocabularyLaws.{take_on}
use Rattle.fact_delta.proofs.tests.has_none.Goals as goal

pub loop-fact-preserved : goal.loop-fact-preserved
loop-fact-preserved c f m =
    let facts = c.args.facts.now in
    let at = c.loop-fact.fact-index in
    let within : at < length facts = omega arith in
    ⊎_elim
    (c.loop-fact.invariant f)
    (λ e. subst (λ (x : Fact). ¬ Contains c.args.held.now x) e ((λ m. false≢true (c.if-is_among.ensures.1 m))))
    (Contains-push_cases (take at facts) c.fact-item.result f (subst (λ (fs : List Fact). Contains fs f) (take_on facts at c.fact-item.result within c.fact-item.is) m))

pub returns : goal.returns
returns c = λ t f m. c.loop-fact.invariant f (subst (λ (fs : List Fact). Contains fs f) (sym (take_all c.loop-fact.fact-index c.args.facts.now c.loop-fact-test.false)) m)
