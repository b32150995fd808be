use Rattle.std.proofs.Common.{[], refl}
use Rattle.ntriples.specs.Cutting.{shape_of}
use Rattle.ntriples.proofs.LineLaws.{lexes_none, parsed_more, shorter}
use Rattle.ntriples.proofs.lines.parse_line.Goals as goal

pub loop-rest-init : goal.loop-rest-init
loop-rest-init c = record { tokens = []; lexes = lexes_none c.args.line.now; fits = refl }

pub loop-rest-smaller : goal.loop-rest-smaller
loop-rest-smaller c = shorter c.loop-rest.rest.now (shape_of c.in-Some.piece) c.in-Some.behind.now c.in-Some.ensures

pub loop-rest-preserved : goal.loop-rest-preserved
loop-rest-preserved c = parsed_more c.args.line.now c.loop-rest.progress c.in-Ok.then c.loop-rest.rest.now (shape_of c.in-Some.piece) c.in-Some.behind.now c.loop-rest.invariant c.in-Some.ensures c.in-Ok.ensures
