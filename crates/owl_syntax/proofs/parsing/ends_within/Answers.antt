use Rattle.std.proofs.Common.{arith}
use Rattle.owl_syntax.specs.Shapes.{shape_of}
use Rattle.owl_syntax.proofs.ParseLaws.{HasFront, front_of_piece}
use Rattle.owl_syntax.proofs.LineLaws.{no_ends}
use Rattle.owl_syntax.proofs.parsing.ends_within.Goals as goal

pub slice_bounds-line_ends-count : goal.slice_bounds-line_ends-count
slice_bounds-line_ends-count c =
    let h : HasFront c.args.here.now c.args.behind.now = front_of_piece c.args.here.now c.args.behind.now (shape_of c.args.piece) c.requires.cuts in omega (arith, h.some)

pub returns-in_default : goal.returns-in_default
returns-in_default c = no_ends c.args.piece c.args.here.now c.args.behind.now c.in_default.not-Text c.requires.cuts c.requires.no_blank c.requires.sound
