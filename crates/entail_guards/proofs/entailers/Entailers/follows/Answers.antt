use Rattle.std.proofs.Common.{length, arith}
use Rattle.entail_guards.proofs.OnceLaws.{no_longer}
use Rattle.entail_guards.proofs.FollowLaws.{collected, closure_number}
use Rattle.entail_guards.proofs.entailers.Entailers.follows.Goals as goal

pub returns-clause-ok : goal.returns-clause-ok
returns-clause-ok c =
    let theory = c.args.self.now in
    let same = collected theory.axioms (length theory.terms) c.args.given.now c.in_ok-facts.facts.items c.in_ok-facts.ensures.found (closure_number theory c.args.given.now c.in_ok-facts.ensures.known c.requires) in
    record {
      sorted = c.in_ok-sorted_once.ensures.sorted;
      each = λ g. ((λ m. (same g).0 ((c.in_ok-sorted_once.ensures.same g).0 m)), λ h. (c.in_ok-sorted_once.ensures.same g).1 ((same g).1 h));
    }

pub returns-clause-few : goal.returns-clause-few
returns-clause-few c =
    let fewer = no_longer c.in_ok-sorted_once.field-0.items c.in_ok-facts.facts.items c.in_ok-sorted_once.ensures.sorted (λ f m. (c.in_ok-sorted_once.ensures.same f).0 m) in
    omega (arith, fewer, c.in_ok-facts.ensures.few)
