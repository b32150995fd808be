use Rattle.std.proofs.Common.{arith}
use Rattle.conflict_rules.proofs.Passing.{attr_passed}
use Rattle.conflict_rules.proofs.conflicts.Conflicts.next_of_attr.Goals as goal

pub returns-clause-passed : goal.returns-clause-passed
returns-clause-passed c a v = attr_passed c.args.self.now.axioms c.args.from c.nearest.result c.terms-terms.ensures.sound.valid c.args.attr a v
    (λ t low high p. c.next_of_concept-subjects.ensures.passed a t low (omega (arith, high, c.nearest.ensures.within, c.min.ensures)) p)
    (λ w low high. c.next_disjoint_attr.ensures.passed w low (omega (arith, high, c.nearest.ensures.within, c.min.ensures)))
    c.nearest.ensures.passed
