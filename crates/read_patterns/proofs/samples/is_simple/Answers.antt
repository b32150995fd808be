use Rattle.read_patterns.proofs.SampleLaws.{well_of}
use Rattle.read_patterns.proofs.samples.is_simple.Goals as goal

pub returns-in-Change : goal.returns-in-Change
returns-in-Change c h =
    well_of c.args.conflicts.now.axioms c.args.request.now c.in-Change.inserts c.in-Change.deletes c.as_slice.result.now c.as_slice-in-Change.result.now c.in-Change.is c.as_slice.ensures c.as_slice-in-Change.ensures (c.is_one_sided.ensures h)
