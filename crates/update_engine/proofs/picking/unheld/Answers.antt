use Rattle.std.proofs.Common.{◌<◌, length, refl, arith}
use Rattle.std.specs.Prelude.{Contains}
use Rattle.std.proofs.lemmas.Bool.{false≢true}
use Rattle.dl_base.proofs.PicksLaws.{picks_more, picks_less}
use Rattle.update_engine.proofs.picking.unheld.Goals as goal
use Rattle.update_engine.proofs.picking.unheld.Goals.{then-not-has+in_ok-copy+in_ok-push, else-not-has}

pub loop-fact-preserved : goal.loop-fact-preserved
loop-fact-preserved g c =
    let within : c.loop-fact.fact-index < length c.args.facts.now = omega arith in
    elim c.if-not-has.branch [
      | then-not-has+in_ok-copy+in_ok-push w ↦
          record {
            found = rw (w.picked-is, w.in_ok-push.ensures.items, w.in_ok-copy.ensures)
                (picks_more (λ f. ¬ Contains (g.S.FactSet.facts c.args.set.now) f) c.args.facts.now c.loop-fact.picked.items c.loop-fact.fact-index c.fact-item.result within c.fact-item.is c.loop-fact.invariant.found (λ m. false≢true (w.if-not-has.ensures.member.1 m)));
            counted = omega (arith, c.loop-fact.invariant.counted, c.has.ensures.counted);
          }
      | else-not-has w ↦
          record {
            found = rw w.picked-is
                (picks_less (λ f. ¬ Contains (g.S.FactSet.facts c.args.set.now) f) c.args.facts.now c.loop-fact.picked.items c.loop-fact.fact-index c.fact-item.result within c.fact-item.is c.loop-fact.invariant.found (λ n. n (w.if-not-has.ensures.member.0 refl)));
            counted = omega (arith, c.loop-fact.invariant.counted, c.has.ensures.counted);
          }
    ]
