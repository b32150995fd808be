use Rattle.read_patterns.proofs.RequestLaws.{well_change, met_change}
use Rattle.read_patterns.proofs.meeting.is_met.Goals as goal

pub meets_change-requires-clause-well : goal.meets_change-requires-clause-well
meets_change-requires-clause-well c =
    well_change c.args.conflicts.now.axioms c.args.request.now c.in-Change.inserts c.in-Change.deletes c.as_slice.result.now c.as_slice-in-Change.result.now c.in-Change.is c.as_slice.ensures c.as_slice-in-Change.ensures c.requires.well

pub returns-in-Change : goal.returns-in-Change
returns-in-Change c =
    met_change c.args.conflicts.now.axioms c.args.request.now c.in-Change.inserts c.in-Change.deletes c.as_slice.result.now c.as_slice-in-Change.result.now c.in-Change.is c.as_slice.ensures c.as_slice-in-Change.ensures c.args.fact.now c.meets_change.result c.meets_change.ensures
