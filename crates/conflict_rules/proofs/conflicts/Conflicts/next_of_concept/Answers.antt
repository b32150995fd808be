use Rattle.std.proofs.Common.{arith}
use Rattle.conflict_rules.proofs.Passing.{concept_passed}
use Rattle.conflict_rules.proofs.conflicts.Conflicts.next_of_concept.Goals as goal

pub returns-clause-passed : goal.returns-clause-passed
returns-clause-passed c a = concept_passed c.args.self.now.axioms c.args.from c.min.result a c.args.concept
    (λ b low high. c.next_disjoint.ensures.passed b low (omega (arith, high, c.min.ensures)))
