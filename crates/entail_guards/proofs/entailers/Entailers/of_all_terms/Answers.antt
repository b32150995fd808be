use Rattle.std.proofs.Common.{◌≡◌, length, arith, subst}
use Rattle.entail_guards.specs.Asking.{AsksBelow}
use Rattle.entail_guards.proofs.AskLaws.{asks_next}
use Rattle.entail_guards.proofs.FewLaws.{two_next}
use Rattle.entail_guards.proofs.entailers.Entailers.of_all_terms.Goals as goal

pub loop-number-preserved : goal.loop-number-preserved
loop-number-preserved c = record {
  asks = asks_next c.args.self.now c.args.pattern.now c.loop-number.number c.loop-number.patterns.items c.add_of_term.new.patterns.items c.loop-number.invariant.asks c.in_ok-add_of_term.ensures.asks;
  few = omega (arith, c.loop-number.invariant.few, c.in_ok-add_of_term.ensures.few);
  each = two_next c.loop-number.number c.loop-number.patterns.items c.add_of_term.new.patterns.items c.loop-number.invariant.each c.in_ok-add_of_term.ensures.each;
}

pub returns-clause-asks : goal.returns-clause-asks
returns-clause-asks c = let all : c.loop-number.number ≡ length c.args.self.now.terms = omega (arith, c.terms-number-end.ensures.count) in subst (λ (n : _). AsksBelow c.args.self.now c.args.pattern.now n c.loop-number.patterns.items) all c.loop-number.invariant.asks
