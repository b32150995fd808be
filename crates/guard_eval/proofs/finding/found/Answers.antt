use Rattle.guard_eval.proofs.finding.found.Goals as goal

pub returns-clause-found : goal.returns-clause-found
returns-clause-found g c = record {
  sorted = c.in_ok-ordered.ensures.sorted;
  each = λ f. ((λ m. (c.in_ok-facts.ensures.found f).0 ((c.in_ok-ordered.ensures.same f).0 m)), λ h. (c.in_ok-ordered.ensures.same f).1 ((c.in_ok-facts.ensures.found f).1 h));
}
