use Rattle.std.proofs.Common.{arith}
use Rattle.conflict_rules.proofs.Passing.{role_passed}
use Rattle.conflict_rules.proofs.conflicts.Conflicts.next_of_role.Goals as goal

pub returns-clause-passed : goal.returns-clause-passed
returns-clause-passed c a b = role_passed c.args.self.now c.terms-terms.ensures.sound.valid c.args.from c.nearest.result c.args.role a b
    (λ t low high p. c.next_of_concept-starts.ensures.passed a t low (omega (arith, high, c.nearest.ensures.within, c.min.ensures, c.min-2.ensures, c.min-3.ensures)) p)
    (λ t low high p. c.next_of_concept-ends.ensures.passed b t low (omega (arith, high, c.nearest.ensures.within, c.min.ensures, c.min-2.ensures, c.min-3.ensures)) p)
    (λ q low high. c.next_disjoint_role-forward.ensures.passed q low (omega (arith, high, c.nearest.ensures.within, c.min.ensures, c.min-2.ensures, c.min-3.ensures)))
    (λ q low high. c.next_disjoint_role-backward.ensures.passed q low (omega (arith, high, c.nearest.ensures.within, c.min.ensures, c.min-2.ensures, c.min-3.ensures)))
    c.nearest.ensures.passed
