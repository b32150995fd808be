use Rattle.std.proofs.Common.{subst}
use Rattle.dl_base.specs.Ontologies.{Theory}
use Rattle.dl_laws.specs.Meeting.{AreDisjointAttrs}
use Rattle.tbox_closure.proofs.implied.Implied.next_disjoint_attr.Goals as goal

pub returns-clause-passed : goal.returns-clause-passed
returns-clause-passed c u low high =
    subst (λ (t : Theory). ¬ AreDisjointAttrs t.axioms c.args.attr u) c.tables.ensures (c.next_disjoint_attr.ensures.passed u low high)
