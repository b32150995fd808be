use Rattle.std.proofs.Common.{[], ◌∷◌, ◌≤◌, ◌*◌, length, subst, sym}
use Rattle.dl_base.specs.Derivation.{InClosure}
use Rattle.dl_base.specs.Ontologies.{Theory, Knows}
use Rattle.dl_base.specs.Updates.{Lists}
use Rattle.update_engine.proofs.rules.Rules.follows.Goals as goal

pub follows-requires : goal.follows-requires
follows-requires c = subst (λ (t : Theory). Knows t c.args.given.now) (sym c.entailers.ensures) c.requires

pub returns-clause-ok : goal.returns-clause-ok
returns-clause-ok c = subst (λ (t : Theory). Lists (InClosure t.axioms (c.args.given.now ∷ [])) c.in_ok-facts.facts.items) c.entailers.ensures c.in_ok-facts.ensures.ok

pub returns-clause-few : goal.returns-clause-few
returns-clause-few c = subst (λ (t : Theory). length c.in_ok-facts.facts.items ≤ 2 * length t.terms) c.entailers.ensures c.in_ok-facts.ensures.few
