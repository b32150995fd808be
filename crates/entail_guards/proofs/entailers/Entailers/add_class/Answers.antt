use Rattle.std.proofs.Common.{◌≡◌, List, [], ◌∷◌, ℕ, subst}
use Rattle.dl_base.specs.Derivation.{InClosure}
use Rattle.dl_base.specs.declared.statements.Fact.TheVariants as fact
use Rattle.entail_guards.specs.Following.{Gains}
use Rattle.entail_guards.proofs.entailers.Entailers.add_class.Goals as goal

pub returns-clause-gains : goal.returns-clause-gains
returns-clause-gains c = subst (λ (a : List ℕ). Gains (λ g. (g ≡ fact.Class c.args.term a) × InClosure c.args.self.now.axioms (c.args.given.now ∷ []) g) c.args.facts.now.items c.add.new.facts.items) c.in_ok-copy.ensures c.in_ok-add.ensures.gains
