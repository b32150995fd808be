use Rattle.std.proofs.Common.{◌<◌, length, refl, arith}
use Rattle.std.specs.Prelude.{Contains}
use Rattle.std.proofs.lemmas.Bool.{false≢true}
use Rattle.dl_base.proofs.PicksLaws.{picks_more, picks_less}
use Rattle.fact_delta.proofs.lists.absent.Goals as goal
use Rattle.fact_delta.proofs.lists.absent.Goals.{then-not-is_in_order+in_ok-copy+in_ok-push, else-not-is_in_order}

pub loop-fact-preserved : goal.loop-fact-preserved
loop-fact-preserved c =
    let within : c.loop-fact.fact-index < length c.args.facts.now = omega arith in
    elim c.if-not-is_in_order.branch [
      | then-not-is_in_order+in_ok-copy+in_ok-push w ↦
          rw (w.absent-is, w.in_ok-push.ensures.items, w.in_ok-copy.ensures)
          (picks_more (λ f. ¬ Contains c.args.others.now f) c.args.facts.now c.loop-fact.absent.items c.loop-fact.fact-index c.fact-item.result within c.fact-item.is c.loop-fact.invariant (λ m. false≢true (w.if-not-is_in_order.ensures.1 m)))
      | else-not-is_in_order w ↦
          rw w.absent-is
          (picks_less (λ f. ¬ Contains c.args.others.now f) c.args.facts.now c.loop-fact.absent.items c.loop-fact.fact-index c.fact-item.result within c.fact-item.is c.loop-fact.invariant (λ n. n (w.if-not-is_in_order.ensures.0 refl)))
    ]
