use Rattle.fact_delta.specs.Deltas.{standing}
use Rattle.transaction.proofs.EffectLaws.{fits, effect_is}
use Rattle.transaction.proofs.effects.effect_of.Goals as goal

pub made-requires-clause-fits : goal.made-requires-clause-fits
made-requires-clause-fits g c = fits c.args.rules.now.axioms (standing c.args.stored.now) c.args.inserts.now c.args.deletes.now c.in_ok-step.step c.in_ok-step.ensures.ok

pub returns-clause-ok : goal.returns-clause-ok
returns-clause-ok g c = effect_is c.args.rules.now.axioms c.args.stored.now c.args.put.now c.args.taken.now c.args.inserts.now c.args.deletes.now c.in_ok-step.step c.in-Ok.effect c.in_ok-step.ensures.ok c.in-Ok.ensures
