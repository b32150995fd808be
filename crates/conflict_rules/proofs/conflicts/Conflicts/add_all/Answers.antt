use Rattle.std.proofs.Common.{◌⊎◌}
use Rattle.dl_base.specs.declared.terms.RoleSide.TheVariants.{Direct, Inverse}
use Rattle.dl_base.specs.declared.terms.Basic.TheVariants as basic
use Rattle.dl_base.specs.declared.patterns.Pattern.TheVariants as asked
use Rattle.conflict_rules.specs.Counts.{IsWhere}
use Rattle.conflict_rules.proofs.Adding.{added_both}
use Rattle.conflict_rules.proofs.conflicts.Conflicts.add_all.Goals as goal

pub returns : goal.returns
returns c =
    let m = c.args.term.0 in
    added_both (IsWhere c.args.self.now.axioms c.args.concept (basic.Class c.args.term) (asked.ClassOf c.args.term c.args.name.now)) (λ p. (IsWhere c.args.self.now.axioms c.args.concept (basic.Exists (Direct c.args.term)) (asked.RoleFrom c.args.term c.args.name.now)) p ⊎ ((IsWhere c.args.self.now.axioms c.args.concept (basic.Exists (Inverse c.args.term)) (asked.RoleTo c.args.term c.args.name.now)) p ⊎ (IsWhere c.args.self.now.axioms c.args.concept (basic.Domain c.args.term) (asked.AttrOf c.args.term c.args.name.now)) p)) m 1 3 c.args.guards.now.items c.add_class.new.guards.items c.add_attr.new.guards.items c.in_ok-add_class.ensures
    (added_both (IsWhere c.args.self.now.axioms c.args.concept (basic.Exists (Direct c.args.term)) (asked.RoleFrom c.args.term c.args.name.now)) (λ p. (IsWhere c.args.self.now.axioms c.args.concept (basic.Exists (Inverse c.args.term)) (asked.RoleTo c.args.term c.args.name.now)) p ⊎ (IsWhere c.args.self.now.axioms c.args.concept (basic.Domain c.args.term) (asked.AttrOf c.args.term c.args.name.now)) p) m 1 2 c.add_class.new.guards.items c.add_from.new.guards.items c.add_attr.new.guards.items c.in_ok-add_from.ensures
    (added_both (IsWhere c.args.self.now.axioms c.args.concept (basic.Exists (Inverse c.args.term)) (asked.RoleTo c.args.term c.args.name.now)) (IsWhere c.args.self.now.axioms c.args.concept (basic.Domain c.args.term) (asked.AttrOf c.args.term c.args.name.now)) m 1 1 c.add_from.new.guards.items c.add_to.new.guards.items c.add_attr.new.guards.items c.in_ok-add_to.ensures c.in_ok-add_attr.ensures))
