use Rattle.std.proofs.Common.{◌<◌, length, refl, sym, arith}
use Rattle.std.proofs.lemmas.Bool.{false≢true}
use Rattle.dl_base.specs.Updates.{Meets}
use Rattle.dl_base.proofs.PicksLaws.{picks_more, picks_less}
use Rattle.update_engine.proofs.picking.meeting.Goals as goal
use Rattle.update_engine.proofs.picking.meeting.Goals.{then-meets+in_ok-copy+in_ok-push, else-meets}

pub meets-requires-clause-alone : goal.meets-requires-clause-alone
meets-requires-clause-alone c =
    let within : c.loop-fact.fact-index < length c.args.facts.now = omega arith in
    c.requires.alone c.fact-item.result (c.loop-fact.fact-index, within, sym c.fact-item.is)

pub loop-fact-preserved : goal.loop-fact-preserved
loop-fact-preserved c =
    let within : c.loop-fact.fact-index < length c.args.facts.now = omega arith in
    elim c.if-meets.branch [
      | then-meets+in_ok-copy+in_ok-push w ↦
          rw (w.picked-is, w.in_ok-push.ensures.items, w.in_ok-copy.ensures)
          (picks_more (Meets c.args.rules.now.axioms c.args.inserts.now c.args.deletes.now) c.args.facts.now c.loop-fact.picked.items c.loop-fact.fact-index c.fact-item.result within c.fact-item.is c.loop-fact.invariant (w.if-meets.ensures.0 refl))
      | else-meets w ↦
          rw w.picked-is
          (picks_less (Meets c.args.rules.now.axioms c.args.inserts.now c.args.deletes.now) c.args.facts.now c.loop-fact.picked.items c.loop-fact.fact-index c.fact-item.result within c.fact-item.is c.loop-fact.invariant (λ m. false≢true (w.if-meets.ensures.1 m)))
    ]
