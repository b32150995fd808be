use Rattle.std.proofs.Common.{[], ◌∷◌, IsTrue, subst, sym}
use Rattle.std.specs.Prelude.{◌↔◌}
use Rattle.dl_base.specs.Clash.{HasClash}
use Rattle.dl_base.specs.Ontologies.{Theory}
use Rattle.update_engine.proofs.rules.Rules.pair.Goals as goal

pub pair-requires-clause-first : goal.pair-requires-clause-first
pair-requires-clause-first c = subst (λ (t : Theory). ¬ HasClash t.axioms (c.args.first.now ∷ [])) (sym c.conflicts.ensures) c.requires.first

pub pair-requires-clause-second : goal.pair-requires-clause-second
pair-requires-clause-second c = subst (λ (t : Theory). ¬ HasClash t.axioms (c.args.second.now ∷ [])) (sym c.conflicts.ensures) c.requires.second

pub returns : goal.returns
returns c = subst (λ (t : Theory). IsTrue c.pair.result ↔ HasClash t.axioms (c.args.first.now ∷ c.args.second.now ∷ [])) c.conflicts.ensures c.pair.ensures
