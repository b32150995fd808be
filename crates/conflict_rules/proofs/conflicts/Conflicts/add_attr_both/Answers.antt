use Rattle.std.proofs.Common.{refl, ◌≡◌}
use Rattle.dl_base.specs.declared.patterns.Pattern.{Pattern}
use Rattle.dl_base.specs.declared.patterns.Pattern.TheVariants as asked
use Rattle.dl_laws.specs.Meeting.{AreDisjointAttrs}
use Rattle.conflict_rules.proofs.Adding.{added_one}
use Rattle.conflict_rules.proofs.conflicts.Conflicts.add_attr_both.Goals as goal

pub returns : goal.returns
returns c = rw (c.in_ok-push.ensures.items, c.in_ok-copy.ensures, c.in_ok-copy-2.ensures)
    (added_one (λ (p : Pattern). (p ≡ asked.AttrBoth c.args.term c.args.name.now c.args.value.now) × AreDisjointAttrs c.args.self.now.axioms c.args.attr c.args.term) (asked.AttrBoth c.args.term c.args.name.now c.args.value.now) c.args.guards.now.items (refl, c.disjoint_attrs.ensures.0 c.if-not-disjoint_attrs.false) (λ p h. h.0))
