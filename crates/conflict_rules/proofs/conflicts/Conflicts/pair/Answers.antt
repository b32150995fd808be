use Rattle.conflict_rules.proofs.Guarding.{clash_of_pair}
use Rattle.conflict_rules.proofs.conflicts.Conflicts.pair.Goals as goal

pub returns : goal.returns
returns c =
    let law = clash_of_pair c.args.self.now.axioms c.args.first.now c.args.second.now c.requires.first c.requires.second in
    (λ h. law.0 (c.facts_clash.ensures.0 h), λ k. c.facts_clash.ensures.1 (law.1 k))
