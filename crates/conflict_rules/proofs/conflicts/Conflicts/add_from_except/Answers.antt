use Rattle.std.proofs.Common.{refl, ◌≡◌}
use Rattle.dl_base.specs.declared.terms.RoleSide.TheVariants.{Direct}
use Rattle.dl_base.specs.declared.patterns.Pattern.{Pattern}
use Rattle.dl_base.specs.declared.patterns.Pattern.TheVariants as asked
use Rattle.dl_laws.specs.Meeting.{ShareFunctionalRole}
use Rattle.conflict_rules.proofs.Adding.{added_one}
use Rattle.conflict_rules.proofs.conflicts.Conflicts.add_from_except.Goals as goal

pub returns : goal.returns
returns c = rw (c.in_ok-push.ensures.items, c.in_ok-copy.ensures, c.in_ok-copy-2.ensures)
    (added_one (λ (p : Pattern). (p ≡ asked.RoleFromExcept c.args.term c.args.from.now c.args.to.now) × ShareFunctionalRole c.args.self.now.axioms (Direct c.args.role) (Direct c.args.term)) (asked.RoleFromExcept c.args.term c.args.from.now c.args.to.now) c.args.guards.now.items (refl, c.share_functional_role.ensures.0 c.if-not-share_functional_role.false) (λ p h. h.0))
