use Rattle.std.proofs.Common.{◌∷◌, [], subst}
use Rattle.update_read.specs.declared.lists.Gathered.{Gathered}
use Rattle.update_read.specs.Taking.{Gathers}
use Rattle.update_read.proofs.MeaningLaws.{refused_more}
use Rattle.update_read.proofs.lists.Gathered.take.Goals as goal

pub returns-in-Refused : goal.returns-in-Refused
returns-in-Refused c ts g =
    refused_more c.args.ontology.now ts _ c.in-Refused.line c.in-Refused.kind (subst (λ (z : Gathered). Gathers c.args.ontology.now ts z) c.in-Refused.is g)
