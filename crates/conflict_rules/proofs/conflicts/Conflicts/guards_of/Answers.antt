use Rattle.std.proofs.Common.{[], ◌∷◌, sym, subst}
use Rattle.std.specs.Prelude.{Contains, ◌↔◌}
use Rattle.dl_base.specs.Clash.{HasClash}
use Rattle.dl_base.specs.Ontologies.{Knows}
use Rattle.dl_base.specs.Patterns.{Matches}
use Rattle.dl_base.specs.declared.patterns.Pattern.{Pattern}
use Rattle.dl_base.specs.declared.statements.Fact.{Fact}
use Rattle.conflict_rules.proofs.conflicts.Conflicts.guards_of.Goals as goal

pub guards_of_class-requires : goal.guards_of_class-requires
guards_of_class-requires c = subst (λ (z : Fact). ¬ HasClash c.args.self.now.axioms (z ∷ [])) c.in-Class.is c.requires

pub guards_of_role-requires : goal.guards_of_role-requires
guards_of_role-requires c = subst (λ (z : Fact). ¬ HasClash c.args.self.now.axioms (z ∷ [])) c.in-Role.is c.requires

pub guards_of_attr-requires : goal.guards_of_attr-requires
guards_of_attr-requires c = subst (λ (z : Fact). ¬ HasClash c.args.self.now.axioms (z ∷ [])) c.in-Attr.is c.requires

pub returns-in_ok-guards-in-Class-clause-exact : goal.returns-in_ok-guards-in-Class-clause-exact
returns-in_ok-guards-in-Class-clause-exact c = subst (λ (f : Fact). (g : Fact) → Knows c.args.self.now g → ¬ HasClash c.args.self.now.axioms (g ∷ []) → ((p : Pattern) × Contains c.in_ok-guards-in-Class.guards.items p × Matches p g) ↔ HasClash c.args.self.now.axioms (f ∷ g ∷ [])) (sym c.in-Class.is) c.in_ok-guards-in-Class.ensures.exact

pub returns-in_ok-guards-in-Role-clause-exact : goal.returns-in_ok-guards-in-Role-clause-exact
returns-in_ok-guards-in-Role-clause-exact c = subst (λ (f : Fact). (g : Fact) → Knows c.args.self.now g → ¬ HasClash c.args.self.now.axioms (g ∷ []) → ((p : Pattern) × Contains c.in_ok-guards-in-Role.guards.items p × Matches p g) ↔ HasClash c.args.self.now.axioms (f ∷ g ∷ [])) (sym c.in-Role.is) c.in_ok-guards-in-Role.ensures.exact

pub returns-in_ok-guards-in-Attr-clause-exact : goal.returns-in_ok-guards-in-Attr-clause-exact
returns-in_ok-guards-in-Attr-clause-exact c = subst (λ (f : Fact). (g : Fact) → Knows c.args.self.now g → ¬ HasClash c.args.self.now.axioms (g ∷ []) → ((p : Pattern) × Contains c.in_ok-guards-in-Attr.guards.items p × Matches p g) ↔ HasClash c.args.self.now.axioms (f ∷ g ∷ [])) (sym c.in-Attr.is) c.in_ok-guards-in-Attr.ensures.exact
