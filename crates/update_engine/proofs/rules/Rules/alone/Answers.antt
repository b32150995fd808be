use Rattle.std.proofs.Common.{[], ◌∷◌, IsTrue, subst}
use Rattle.std.specs.Prelude.{◌↔◌}
use Rattle.dl_base.specs.Clash.{HasClash}
use Rattle.dl_base.specs.Ontologies.{Theory}
use Rattle.update_engine.proofs.rules.Rules.alone.Goals as goal

pub returns : goal.returns
returns c = subst (λ (t : Theory). IsTrue c.alone.result ↔ HasClash t.axioms (c.args.given.now ∷ [])) c.conflicts.ensures c.alone.ensures
