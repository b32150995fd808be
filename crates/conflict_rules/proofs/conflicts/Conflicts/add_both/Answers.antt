use Rattle.std.proofs.Common.{refl, ◌≡◌, ◌⊎◌}
use Rattle.dl_base.specs.declared.terms.RoleSide.TheVariants.{Direct, Inverse}
use Rattle.dl_base.specs.declared.patterns.Pattern.{Pattern}
use Rattle.dl_base.specs.declared.patterns.Pattern.TheVariants as asked
use Rattle.dl_laws.specs.Meeting.{AreDisjointRoles}
use Rattle.conflict_rules.proofs.Adding.{added_one}
use Rattle.conflict_rules.proofs.conflicts.Conflicts.add_both.Goals as goal

pub returns : goal.returns
returns c = rw (c.in_ok-push.ensures.items, c.in_ok-copy.ensures, c.in_ok-copy-2.ensures)
    (added_one (λ (p : Pattern). (p ≡ asked.RoleBoth c.args.term c.args.from.now c.args.to.now) × (AreDisjointRoles c.args.self.now.axioms (Direct c.args.role) c.args.one ⊎ AreDisjointRoles c.args.self.now.axioms (Inverse c.args.role) c.args.other)) (asked.RoleBoth c.args.term c.args.from.now c.args.to.now) c.args.guards.now.items (refl, c.either_disjoint.ensures.0 c.if-not-either_disjoint.false) (λ p h. h.0))
