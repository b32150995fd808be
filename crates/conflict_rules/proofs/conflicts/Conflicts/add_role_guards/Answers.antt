use Rattle.std.proofs.Common.{◌≡◌, ◌⊎◌}
use Rattle.dl_base.specs.declared.terms.RoleSide.TheVariants.{Direct, Inverse}
use Rattle.dl_base.specs.declared.terms.Basic.TheVariants as basic
use Rattle.dl_base.specs.declared.patterns.Pattern.{Pattern}
use Rattle.dl_base.specs.declared.patterns.Pattern.TheVariants as asked
use Rattle.dl_laws.specs.Meeting.{AreDisjointConcepts, AreDisjointRoles, ShareFunctionalRole}
use Rattle.conflict_rules.proofs.Adding.{added_both}
use Rattle.conflict_rules.proofs.conflicts.Conflicts.add_role_guards.Goals as goal

pub returns : goal.returns
returns c = added_both (λ (x : Pattern). (x ≡ asked.RoleFrom c.args.term c.args.from.now) × AreDisjointConcepts c.args.self.now.axioms (basic.Exists (Direct c.args.role)) (basic.Exists (Direct c.args.term))) (λ (x : Pattern). (((x ≡ asked.RoleTo c.args.term c.args.from.now) × AreDisjointConcepts c.args.self.now.axioms (basic.Exists (Direct c.args.role)) (basic.Exists (Inverse c.args.term))) ⊎ (((x ≡ asked.RoleFrom c.args.term c.args.to.now) × AreDisjointConcepts c.args.self.now.axioms (basic.Exists (Inverse c.args.role)) (basic.Exists (Direct c.args.term))) ⊎ (((x ≡ asked.RoleTo c.args.term c.args.to.now) × AreDisjointConcepts c.args.self.now.axioms (basic.Exists (Inverse c.args.role)) (basic.Exists (Inverse c.args.term))) ⊎ (((x ≡ asked.RoleBoth c.args.term c.args.from.now c.args.to.now) × (AreDisjointRoles c.args.self.now.axioms (Direct c.args.role) (Direct c.args.term) ⊎ AreDisjointRoles c.args.self.now.axioms (Inverse c.args.role) (Inverse c.args.term))) ⊎ (((x ≡ asked.RoleBoth c.args.term c.args.to.now c.args.from.now) × (AreDisjointRoles c.args.self.now.axioms (Direct c.args.role) (Inverse c.args.term) ⊎ AreDisjointRoles c.args.self.now.axioms (Inverse c.args.role) (Direct c.args.term))) ⊎ (((x ≡ asked.RoleFromExcept c.args.term c.args.from.now c.args.to.now) × ShareFunctionalRole c.args.self.now.axioms (Direct c.args.role) (Direct c.args.term)) ⊎ ((x ≡ asked.RoleToExcept c.args.term c.args.to.now c.args.from.now) × ShareFunctionalRole c.args.self.now.axioms (Inverse c.args.role) (Inverse c.args.term))))))))) c.args.term.0 1 7 c.args.guards.now.items c.add_from.new.guards.items c.add_to_except.new.guards.items c.in_ok-add_from.ensures
    (added_both (λ (x : Pattern). (x ≡ asked.RoleTo c.args.term c.args.from.now) × AreDisjointConcepts c.args.self.now.axioms (basic.Exists (Direct c.args.role)) (basic.Exists (Inverse c.args.term))) (λ (x : Pattern). (((x ≡ asked.RoleFrom c.args.term c.args.to.now) × AreDisjointConcepts c.args.self.now.axioms (basic.Exists (Inverse c.args.role)) (basic.Exists (Direct c.args.term))) ⊎ (((x ≡ asked.RoleTo c.args.term c.args.to.now) × AreDisjointConcepts c.args.self.now.axioms (basic.Exists (Inverse c.args.role)) (basic.Exists (Inverse c.args.term))) ⊎ (((x ≡ asked.RoleBoth c.args.term c.args.from.now c.args.to.now) × (AreDisjointRoles c.args.self.now.axioms (Direct c.args.role) (Direct c.args.term) ⊎ AreDisjointRoles c.args.self.now.axioms (Inverse c.args.role) (Inverse c.args.term))) ⊎ (((x ≡ asked.RoleBoth c.args.term c.args.to.now c.args.from.now) × (AreDisjointRoles c.args.self.now.axioms (Direct c.args.role) (Inverse c.args.term) ⊎ AreDisjointRoles c.args.self.now.axioms (Inverse c.args.role) (Direct c.args.term))) ⊎ (((x ≡ asked.RoleFromExcept c.args.term c.args.from.now c.args.to.now) × ShareFunctionalRole c.args.self.now.axioms (Direct c.args.role) (Direct c.args.term)) ⊎ ((x ≡ asked.RoleToExcept c.args.term c.args.to.now c.args.from.now) × ShareFunctionalRole c.args.self.now.axioms (Inverse c.args.role) (Inverse c.args.term)))))))) c.args.term.0 1 6 c.add_from.new.guards.items c.add_to.new.guards.items c.add_to_except.new.guards.items c.in_ok-add_to.ensures
    (added_both (λ (x : Pattern). (x ≡ asked.RoleFrom c.args.term c.args.to.now) × AreDisjointConcepts c.args.self.now.axioms (basic.Exists (Inverse c.args.role)) (basic.Exists (Direct c.args.term))) (λ (x : Pattern). (((x ≡ asked.RoleTo c.args.term c.args.to.now) × AreDisjointConcepts c.args.self.now.axioms (basic.Exists (Inverse c.args.role)) (basic.Exists (Inverse c.args.term))) ⊎ (((x ≡ asked.RoleBoth c.args.term c.args.from.now c.args.to.now) × (AreDisjointRoles c.args.self.now.axioms (Direct c.args.role) (Direct c.args.term) ⊎ AreDisjointRoles c.args.self.now.axioms (Inverse c.args.role) (Inverse c.args.term))) ⊎ (((x ≡ asked.RoleBoth c.args.term c.args.to.now c.args.from.now) × (AreDisjointRoles c.args.self.now.axioms (Direct c.args.role) (Inverse c.args.term) ⊎ AreDisjointRoles c.args.self.now.axioms (Inverse c.args.role) (Direct c.args.term))) ⊎ (((x ≡ asked.RoleFromExcept c.args.term c.args.from.now c.args.to.now) × ShareFunctionalRole c.args.self.now.axioms (Direct c.args.role) (Direct c.args.term)) ⊎ ((x ≡ asked.RoleToExcept c.args.term c.args.to.now c.args.from.now) × ShareFunctionalRole c.args.self.now.axioms (Inverse c.args.role) (Inverse c.args.term))))))) c.args.term.0 1 5 c.add_to.new.guards.items c.add_from-2.new.guards.items c.add_to_except.new.guards.items c.in_ok-add_from-2.ensures
    (added_both (λ (x : Pattern). (x ≡ asked.RoleTo c.args.term c.args.to.now) × AreDisjointConcepts c.args.self.now.axioms (basic.Exists (Inverse c.args.role)) (basic.Exists (Inverse c.args.term))) (λ (x : Pattern). (((x ≡ asked.RoleBoth c.args.term c.args.from.now c.args.to.now) × (AreDisjointRoles c.args.self.now.axioms (Direct c.args.role) (Direct c.args.term) ⊎ AreDisjointRoles c.args.self.now.axioms (Inverse c.args.role) (Inverse c.args.term))) ⊎ (((x ≡ asked.RoleBoth c.args.term c.args.to.now c.args.from.now) × (AreDisjointRoles c.args.self.now.axioms (Direct c.args.role) (Inverse c.args.term) ⊎ AreDisjointRoles c.args.self.now.axioms (Inverse c.args.role) (Direct c.args.term))) ⊎ (((x ≡ asked.RoleFromExcept c.args.term c.args.from.now c.args.to.now) × ShareFunctionalRole c.args.self.now.axioms (Direct c.args.role) (Direct c.args.term)) ⊎ ((x ≡ asked.RoleToExcept c.args.term c.args.to.now c.args.from.now) × ShareFunctionalRole c.args.self.now.axioms (Inverse c.args.role) (Inverse c.args.term)))))) c.args.term.0 1 4 c.add_from-2.new.guards.items c.add_to-2.new.guards.items c.add_to_except.new.guards.items c.in_ok-add_to-2.ensures
    (added_both (λ (x : Pattern). (x ≡ asked.RoleBoth c.args.term c.args.from.now c.args.to.now) × (AreDisjointRoles c.args.self.now.axioms (Direct c.args.role) (Direct c.args.term) ⊎ AreDisjointRoles c.args.self.now.axioms (Inverse c.args.role) (Inverse c.args.term))) (λ (x : Pattern). (((x ≡ asked.RoleBoth c.args.term c.args.to.now c.args.from.now) × (AreDisjointRoles c.args.self.now.axioms (Direct c.args.role) (Inverse c.args.term) ⊎ AreDisjointRoles c.args.self.now.axioms (Inverse c.args.role) (Direct c.args.term))) ⊎ (((x ≡ asked.RoleFromExcept c.args.term c.args.from.now c.args.to.now) × ShareFunctionalRole c.args.self.now.axioms (Direct c.args.role) (Direct c.args.term)) ⊎ ((x ≡ asked.RoleToExcept c.args.term c.args.to.now c.args.from.now) × ShareFunctionalRole c.args.self.now.axioms (Inverse c.args.role) (Inverse c.args.term))))) c.args.term.0 1 3 c.add_to-2.new.guards.items c.add_both.new.guards.items c.add_to_except.new.guards.items c.in_ok-add_both.ensures
    (added_both (λ (x : Pattern). (x ≡ asked.RoleBoth c.args.term c.args.to.now c.args.from.now) × (AreDisjointRoles c.args.self.now.axioms (Direct c.args.role) (Inverse c.args.term) ⊎ AreDisjointRoles c.args.self.now.axioms (Inverse c.args.role) (Direct c.args.term))) (λ (x : Pattern). (((x ≡ asked.RoleFromExcept c.args.term c.args.from.now c.args.to.now) × ShareFunctionalRole c.args.self.now.axioms (Direct c.args.role) (Direct c.args.term)) ⊎ ((x ≡ asked.RoleToExcept c.args.term c.args.to.now c.args.from.now) × ShareFunctionalRole c.args.self.now.axioms (Inverse c.args.role) (Inverse c.args.term)))) c.args.term.0 1 2 c.add_both.new.guards.items c.add_both-2.new.guards.items c.add_to_except.new.guards.items c.in_ok-add_both-2.ensures
    (added_both (λ (x : Pattern). (x ≡ asked.RoleFromExcept c.args.term c.args.from.now c.args.to.now) × ShareFunctionalRole c.args.self.now.axioms (Direct c.args.role) (Direct c.args.term)) (λ (x : Pattern). (x ≡ asked.RoleToExcept c.args.term c.args.to.now c.args.from.now) × ShareFunctionalRole c.args.self.now.axioms (Inverse c.args.role) (Inverse c.args.term)) c.args.term.0 1 1 c.add_both-2.new.guards.items c.add_from_except.new.guards.items c.add_to_except.new.guards.items c.in_ok-add_from_except.ensures
    c.in_ok-add_to_except.ensures))))))
