use Rattle.std.proofs.Common.{◌≡◌, ◌⊎◌}
use Rattle.dl_base.specs.declared.terms.RoleSide.TheVariants.{Direct, Inverse}
use Rattle.dl_base.specs.declared.terms.Basic.TheVariants as basic
use Rattle.dl_base.specs.declared.patterns.Pattern.{Pattern}
use Rattle.dl_base.specs.declared.patterns.Pattern.TheVariants as asked
use Rattle.dl_laws.specs.Meeting.{AreDisjointConcepts, AreDisjointAttrs, ShareFunctionalAttr}
use Rattle.conflict_rules.proofs.Adding.{added_both}
use Rattle.conflict_rules.proofs.conflicts.Conflicts.add_attr_guards.Goals as goal

pub returns : goal.returns
returns c = added_both (λ (x : Pattern). (x ≡ asked.ClassOf c.args.term c.args.name.now) × AreDisjointConcepts c.args.self.now.axioms (basic.Domain c.args.attr) (basic.Class c.args.term)) (λ (x : Pattern). (((x ≡ asked.RoleFrom c.args.term c.args.name.now) × AreDisjointConcepts c.args.self.now.axioms (basic.Domain c.args.attr) (basic.Exists (Direct c.args.term))) ⊎ (((x ≡ asked.RoleTo c.args.term c.args.name.now) × AreDisjointConcepts c.args.self.now.axioms (basic.Domain c.args.attr) (basic.Exists (Inverse c.args.term))) ⊎ (((x ≡ asked.AttrOf c.args.term c.args.name.now) × AreDisjointConcepts c.args.self.now.axioms (basic.Domain c.args.attr) (basic.Domain c.args.term)) ⊎ (((x ≡ asked.AttrBoth c.args.term c.args.name.now c.args.value.now) × AreDisjointAttrs c.args.self.now.axioms c.args.attr c.args.term) ⊎ ((x ≡ asked.AttrOfExcept c.args.term c.args.name.now c.args.value.now) × ShareFunctionalAttr c.args.self.now.axioms c.args.attr c.args.term)))))) c.args.term.0 1 5 c.args.guards.now.items c.add_class.new.guards.items c.add_attr_except.new.guards.items c.in_ok-add_class.ensures
    (added_both (λ (x : Pattern). (x ≡ asked.RoleFrom c.args.term c.args.name.now) × AreDisjointConcepts c.args.self.now.axioms (basic.Domain c.args.attr) (basic.Exists (Direct c.args.term))) (λ (x : Pattern). (((x ≡ asked.RoleTo c.args.term c.args.name.now) × AreDisjointConcepts c.args.self.now.axioms (basic.Domain c.args.attr) (basic.Exists (Inverse c.args.term))) ⊎ (((x ≡ asked.AttrOf c.args.term c.args.name.now) × AreDisjointConcepts c.args.self.now.axioms (basic.Domain c.args.attr) (basic.Domain c.args.term)) ⊎ (((x ≡ asked.AttrBoth c.args.term c.args.name.now c.args.value.now) × AreDisjointAttrs c.args.self.now.axioms c.args.attr c.args.term) ⊎ ((x ≡ asked.AttrOfExcept c.args.term c.args.name.now c.args.value.now) × ShareFunctionalAttr c.args.self.now.axioms c.args.attr c.args.term))))) c.args.term.0 1 4 c.add_class.new.guards.items c.add_from.new.guards.items c.add_attr_except.new.guards.items c.in_ok-add_from.ensures
    (added_both (λ (x : Pattern). (x ≡ asked.RoleTo c.args.term c.args.name.now) × AreDisjointConcepts c.args.self.now.axioms (basic.Domain c.args.attr) (basic.Exists (Inverse c.args.term))) (λ (x : Pattern). (((x ≡ asked.AttrOf c.args.term c.args.name.now) × AreDisjointConcepts c.args.self.now.axioms (basic.Domain c.args.attr) (basic.Domain c.args.term)) ⊎ (((x ≡ asked.AttrBoth c.args.term c.args.name.now c.args.value.now) × AreDisjointAttrs c.args.self.now.axioms c.args.attr c.args.term) ⊎ ((x ≡ asked.AttrOfExcept c.args.term c.args.name.now c.args.value.now) × ShareFunctionalAttr c.args.self.now.axioms c.args.attr c.args.term)))) c.args.term.0 1 3 c.add_from.new.guards.items c.add_to.new.guards.items c.add_attr_except.new.guards.items c.in_ok-add_to.ensures
    (added_both (λ (x : Pattern). (x ≡ asked.AttrOf c.args.term c.args.name.now) × AreDisjointConcepts c.args.self.now.axioms (basic.Domain c.args.attr) (basic.Domain c.args.term)) (λ (x : Pattern). (((x ≡ asked.AttrBoth c.args.term c.args.name.now c.args.value.now) × AreDisjointAttrs c.args.self.now.axioms c.args.attr c.args.term) ⊎ ((x ≡ asked.AttrOfExcept c.args.term c.args.name.now c.args.value.now) × ShareFunctionalAttr c.args.self.now.axioms c.args.attr c.args.term))) c.args.term.0 1 2 c.add_to.new.guards.items c.add_attr.new.guards.items c.add_attr_except.new.guards.items c.in_ok-add_attr.ensures
    (added_both (λ (x : Pattern). (x ≡ asked.AttrBoth c.args.term c.args.name.now c.args.value.now) × AreDisjointAttrs c.args.self.now.axioms c.args.attr c.args.term) (λ (x : Pattern). (x ≡ asked.AttrOfExcept c.args.term c.args.name.now c.args.value.now) × ShareFunctionalAttr c.args.self.now.axioms c.args.attr c.args.term) c.args.term.0 1 1 c.add_attr.new.guards.items c.add_attr_both.new.guards.items c.add_attr_except.new.guards.items c.in_ok-add_attr_both.ensures
    c.in_ok-add_attr_except.ensures))))
