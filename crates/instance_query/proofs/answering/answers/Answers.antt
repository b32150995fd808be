use Rattle.std.proofs.Common.{List, subst}
use Rattle.std.specs.Prelude.{Contains}
use Rattle.dl_base.specs.declared.statements.Fact.{Fact}
use Rattle.instance_query.proofs.AnswerLaws.{answered, counted}
use Rattle.instance_query.proofs.answering.answers.Goals as goal

pub followers-requires : goal.followers-requires
followers-requires g c = λ f m. c.requires f ((c.in_ok-met.ensures.found.each f).0 (subst (λ (us : List Fact). Contains us f) c.as_slice-2.ensures.value m)).0

pub returns-in_err-met-clause-counted : goal.returns-in_err-met-clause-counted
returns-in_err-met-clause-counted g c =
    counted c.args.entailers.now (g.S.FactSet.facts c.args.set.now) c.args.pattern.now c.in_ok-patterns.patterns.items c.requires c.in_ok-patterns.ensures.sound c.in_ok-patterns.ensures.complete c.in_ok-patterns.ensures.each c.in_ok-patterns.ensures.few _ _
    (rw c.as_slice.ensures.value at c.found.ensures.counted)

pub returns-in_err-entailed-clause-counted : goal.returns-in_err-entailed-clause-counted
returns-in_err-entailed-clause-counted g c =
    counted c.args.entailers.now (g.S.FactSet.facts c.args.set.now) c.args.pattern.now c.in_ok-patterns.patterns.items c.requires c.in_ok-patterns.ensures.sound c.in_ok-patterns.ensures.complete c.in_ok-patterns.ensures.each c.in_ok-patterns.ensures.few _ _
    (rw c.as_slice.ensures.value at c.found.ensures.counted)

pub returns-in_err-matched-clause-counted : goal.returns-in_err-matched-clause-counted
returns-in_err-matched-clause-counted g c =
    counted c.args.entailers.now (g.S.FactSet.facts c.args.set.now) c.args.pattern.now c.in_ok-patterns.patterns.items c.requires c.in_ok-patterns.ensures.sound c.in_ok-patterns.ensures.complete c.in_ok-patterns.ensures.each c.in_ok-patterns.ensures.few _ _
    (rw c.as_slice.ensures.value at c.found.ensures.counted)

pub returns-in_err-answers-clause-counted : goal.returns-in_err-answers-clause-counted
returns-in_err-answers-clause-counted g c =
    counted c.args.entailers.now (g.S.FactSet.facts c.args.set.now) c.args.pattern.now c.in_ok-patterns.patterns.items c.requires c.in_ok-patterns.ensures.sound c.in_ok-patterns.ensures.complete c.in_ok-patterns.ensures.each c.in_ok-patterns.ensures.few _ _
    (rw c.as_slice.ensures.value at c.found.ensures.counted)

pub returns-clause-counted : goal.returns-clause-counted
returns-clause-counted g c =
    counted c.args.entailers.now (g.S.FactSet.facts c.args.set.now) c.args.pattern.now c.in_ok-patterns.patterns.items c.requires c.in_ok-patterns.ensures.sound c.in_ok-patterns.ensures.complete c.in_ok-patterns.ensures.each c.in_ok-patterns.ensures.few _ _
    (rw c.as_slice.ensures.value at c.found.ensures.counted)

pub returns-clause-answers : goal.returns-clause-answers
returns-clause-answers g c =
    answered c.args.entailers.now (g.S.FactSet.facts c.args.set.now) c.args.pattern.now c.in_ok-patterns.patterns.items c.requires c.in_ok-patterns.ensures.sound c.in_ok-patterns.ensures.complete c.in_ok-met.met.items c.in_ok-entailed.entailed.items c.in_ok-matched.matched.items c.in_ok-answers.answers.items
    (rw c.as_slice.ensures.value at c.in_ok-met.ensures.found) (rw c.as_slice-2.ensures.value at c.in_ok-entailed.ensures) (rw c.as_slice-3.ensures.value at c.in_ok-matched.ensures) c.in_ok-answers.ensures.sorted c.in_ok-answers.ensures.same
