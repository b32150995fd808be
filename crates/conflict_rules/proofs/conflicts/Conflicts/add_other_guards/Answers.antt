use Rattle.std.proofs.Common.{◌≡◌, ◌⊎◌}
use Rattle.dl_base.specs.declared.terms.RoleSide.TheVariants.{Direct, Inverse}
use Rattle.dl_base.specs.declared.terms.Basic.TheVariants as basic
use Rattle.dl_base.specs.declared.patterns.Pattern.{Pattern}
use Rattle.dl_base.specs.declared.patterns.Pattern.TheVariants as asked
use Rattle.dl_laws.specs.Meeting.{AreDisjointConcepts}
use Rattle.conflict_rules.proofs.Adding.{added_both}
use Rattle.conflict_rules.proofs.conflicts.Conflicts.add_other_guards.Goals as goal

pub returns : goal.returns
returns c = added_both (λ (x : Pattern). (x ≡ asked.ClassOf c.args.term c.args.from.now) × AreDisjointConcepts c.args.self.now.axioms (basic.Exists (Direct c.args.role)) (basic.Class c.args.term)) (λ (x : Pattern). (((x ≡ asked.AttrOf c.args.term c.args.from.now) × AreDisjointConcepts c.args.self.now.axioms (basic.Exists (Direct c.args.role)) (basic.Domain c.args.term)) ⊎ (((x ≡ asked.ClassOf c.args.term c.args.to.now) × AreDisjointConcepts c.args.self.now.axioms (basic.Exists (Inverse c.args.role)) (basic.Class c.args.term)) ⊎ ((x ≡ asked.AttrOf c.args.term c.args.to.now) × AreDisjointConcepts c.args.self.now.axioms (basic.Exists (Inverse c.args.role)) (basic.Domain c.args.term))))) c.args.term.0 1 3 c.args.guards.now.items c.add_class.new.guards.items c.add_attr-2.new.guards.items c.in_ok-add_class.ensures
    (added_both (λ (x : Pattern). (x ≡ asked.AttrOf c.args.term c.args.from.now) × AreDisjointConcepts c.args.self.now.axioms (basic.Exists (Direct c.args.role)) (basic.Domain c.args.term)) (λ (x : Pattern). (((x ≡ asked.ClassOf c.args.term c.args.to.now) × AreDisjointConcepts c.args.self.now.axioms (basic.Exists (Inverse c.args.role)) (basic.Class c.args.term)) ⊎ ((x ≡ asked.AttrOf c.args.term c.args.to.now) × AreDisjointConcepts c.args.self.now.axioms (basic.Exists (Inverse c.args.role)) (basic.Domain c.args.term)))) c.args.term.0 1 2 c.add_class.new.guards.items c.add_attr.new.guards.items c.add_attr-2.new.guards.items c.in_ok-add_attr.ensures
    (added_both (λ (x : Pattern). (x ≡ asked.ClassOf c.args.term c.args.to.now) × AreDisjointConcepts c.args.self.now.axioms (basic.Exists (Inverse c.args.role)) (basic.Class c.args.term)) (λ (x : Pattern). (x ≡ asked.AttrOf c.args.term c.args.to.now) × AreDisjointConcepts c.args.self.now.axioms (basic.Exists (Inverse c.args.role)) (basic.Domain c.args.term)) c.args.term.0 1 1 c.add_attr.new.guards.items c.add_class-2.new.guards.items c.add_attr-2.new.guards.items c.in_ok-add_class-2.ensures
    c.in_ok-add_attr-2.ensures))
