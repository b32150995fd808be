use Rattle.ntriples.proofs.MeasureLaws.{type_short}
use Rattle.ntriples.proofs.measuring.line_length.Goals as goal

pub triple_length-requires-clause-predicate : goal.triple_length-requires-clause-predicate
triple_length-requires-clause-predicate c = type_short c.rdf_type.result.now c.rdf_type.ensures
