use Rattle.std.proofs.Common.{subst}
use Rattle.dl_base.specs.Ontologies.{Theory}
use Rattle.dl_laws.specs.Meeting.{AreDisjointAttrs}
use Rattle.conflict_rules.proofs.conflicts.Conflicts.next_disjoint_attr.Goals as goal

pub returns-clause-passed : goal.returns-clause-passed
returns-clause-passed c u low high =
    subst (λ (t : Theory). ¬ AreDisjointAttrs t.axioms c.args.attr u) c.implied.ensures (c.next_disjoint_attr.ensures.passed u low high)
