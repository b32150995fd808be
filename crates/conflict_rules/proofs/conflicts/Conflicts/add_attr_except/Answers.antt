use Rattle.std.proofs.Common.{refl, ◌≡◌}
use Rattle.dl_base.specs.declared.patterns.Pattern.{Pattern}
use Rattle.dl_base.specs.declared.patterns.Pattern.TheVariants as asked
use Rattle.dl_laws.specs.Meeting.{ShareFunctionalAttr}
use Rattle.conflict_rules.proofs.Adding.{added_one}
use Rattle.conflict_rules.proofs.conflicts.Conflicts.add_attr_except.Goals as goal

pub returns : goal.returns
returns c = rw (c.in_ok-push.ensures.items, c.in_ok-copy.ensures, c.in_ok-copy-2.ensures)
    (added_one (λ (p : Pattern). (p ≡ asked.AttrOfExcept c.args.term c.args.name.now c.args.value.now) × ShareFunctionalAttr c.args.self.now.axioms c.args.attr c.args.term) (asked.AttrOfExcept c.args.term c.args.name.now c.args.value.now) c.args.guards.now.items (refl, c.share_functional_attr.ensures.0 c.if-not-share_functional_attr.false) (λ p h. h.0))
