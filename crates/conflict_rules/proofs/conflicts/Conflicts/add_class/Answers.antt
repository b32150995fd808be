use Rattle.std.proofs.Common.{refl}
use Rattle.dl_base.specs.declared.terms.Basic.TheVariants as basic
use Rattle.dl_base.specs.declared.patterns.Pattern.TheVariants as asked
use Rattle.conflict_rules.specs.Counts.{IsWhere}
use Rattle.conflict_rules.proofs.Adding.{added_one}
use Rattle.conflict_rules.proofs.conflicts.Conflicts.add_class.Goals as goal

pub returns : goal.returns
returns c = rw (c.in_ok-push.ensures.items, c.in_ok-copy.ensures)
    (added_one (IsWhere c.args.self.now.axioms c.args.concept (basic.Class c.args.term) (asked.ClassOf c.args.term c.args.name.now)) (asked.ClassOf c.args.term c.args.name.now) c.args.guards.now.items (refl, c.disjoint_concepts.ensures.0 c.if-not-disjoint_concepts.false) (λ p h. h.0))
