use Rattle.dl_laws.proofs.Emptying.{empty_concept_is}
use Rattle.tbox_closure.proofs.implied.Implied.empty_concept.Goals as goal

pub returns : goal.returns
returns c =
    let law = empty_concept_is c.args.self.now.axioms c.args.concept in
    (λ h. law.1 (c.is_unsatisfiable.ensures.0 h), λ e. c.is_unsatisfiable.ensures.1 (law.0 e))
