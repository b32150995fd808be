use Rattle.std.proofs.Common.{◌<◌, length, refl, sym, arith}
use Rattle.std.proofs.lemmas.Bool.{false≢true}
use Rattle.dl_base.specs.Updates.{Meets}
use Rattle.dl_base.proofs.PicksLaws.{picks_more, picks_less}
use Rattle.update_engine.proofs.picking.staying.Goals as goal
use Rattle.update_engine.proofs.picking.staying.Goals.{then-not-meets+in_ok-copy+in_ok-push, else-not-meets}

pub meets-requires-clause-alone : goal.meets-requires-clause-alone
meets-requires-clause-alone c =
    let within : c.loop-fact.fact-index < length c.args.facts.now = omega arith in
    c.requires.alone c.fact-item.result (c.loop-fact.fact-index, within, sym c.fact-item.is)

pub loop-fact-preserved : goal.loop-fact-preserved
loop-fact-preserved c =
    let within : c.loop-fact.fact-index < length c.args.facts.now = omega arith in
    elim c.if-not-meets.branch [
      | then-not-meets+in_ok-copy+in_ok-push w ↦
          rw (w.picked-is, w.in_ok-push.ensures.items, w.in_ok-copy.ensures)
          (picks_more (λ f. ¬ Meets c.args.rules.now.axioms c.args.inserts.now c.args.deletes.now f) c.args.facts.now c.loop-fact.picked.items c.loop-fact.fact-index c.fact-item.result within c.fact-item.is c.loop-fact.invariant (λ m. false≢true (w.if-not-meets.ensures.1 m)))
      | else-not-meets w ↦
          rw w.picked-is
          (picks_less (λ f. ¬ Meets c.args.rules.now.axioms c.args.inserts.now c.args.deletes.now f) c.args.facts.now c.loop-fact.picked.items c.loop-fact.fact-index c.fact-item.result within c.fact-item.is c.loop-fact.invariant (λ n. n (w.if-not-meets.ensures.0 refl)))
    ]
