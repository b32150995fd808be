use Rattle.std.proofs.Common.{◌≡◌, List, [], ◌∷◌, ℕ, subst}
use Rattle.dl_base.specs.declared.names.Value.{Value}
use Rattle.dl_base.specs.Derivation.{InClosure}
use Rattle.dl_base.specs.declared.statements.Fact.TheVariants as fact
use Rattle.entail_guards.specs.Following.{Gains}
use Rattle.entail_guards.proofs.entailers.Entailers.add_attr.Goals as goal

pub returns-clause-gains : goal.returns-clause-gains
returns-clause-gains c = subst (λ (b : Value). Gains (λ g. (g ≡ fact.Attr c.args.term c.args.from.now b) × InClosure c.args.self.now.axioms (c.args.given.now ∷ []) g) c.args.facts.now.items c.add.new.facts.items) c.in_ok-copy-2.ensures
    (subst (λ (a : List ℕ). Gains (λ g. (g ≡ fact.Attr c.args.term a c.in_ok-copy-2.field-0) × InClosure c.args.self.now.axioms (c.args.given.now ∷ []) g) c.args.facts.now.items c.add.new.facts.items) c.in_ok-copy.ensures c.in_ok-add.ensures.gains)
