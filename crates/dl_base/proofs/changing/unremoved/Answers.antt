use Rattle.std.proofs.Common.{◌<◌, length, arith, refl}
use Rattle.std.proofs.lemmas.Bool.{false≢true}
use Rattle.std.specs.Prelude.{Contains}
use Rattle.dl_base.specs.declared.statements.Fact.{Fact}
use Rattle.dl_base.proofs.PicksLaws.{picks_more, picks_less}
use Rattle.dl_base.specs.Changing.{removed}
use Rattle.dl_base.proofs.changing.unremoved.Goals as goal
use Rattle.dl_base.proofs.changing.unremoved.Goals.{then-not-is_removed+in_ok-copy+in_ok-push, else-not-is_removed}

pub loop-fact-preserved : goal.loop-fact-preserved
loop-fact-preserved c =
    let within : c.loop-fact.fact-index < length c.args.facts.now = omega (arith, c.loop-fact-test.true) in
    elim c.if-not-is_removed.branch [
      | then-not-is_removed+in_ok-copy+in_ok-push w ↦
          rw (w.left-is, w.in_ok-push.ensures.items, w.in_ok-copy.ensures)
          (picks_more (λ (f : Fact). ¬ Contains c.args.changed.now (removed f)) c.args.facts.now c.loop-fact.left.items c.loop-fact.fact-index c.fact-item.result within c.fact-item.is c.loop-fact.invariant (λ m. false≢true (w.if-not-is_removed.ensures.1 m)))
      | else-not-is_removed w ↦
          rw w.left-is
          (picks_less (λ (f : Fact). ¬ Contains c.args.changed.now (removed f)) c.args.facts.now c.loop-fact.left.items c.loop-fact.fact-index c.fact-item.result within c.fact-item.is c.loop-fact.invariant (λ n. n (w.if-not-is_removed.ensures.0 refl)))
    ]
