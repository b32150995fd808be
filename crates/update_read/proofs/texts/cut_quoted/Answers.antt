use Rattle.std.proofs.Common.{[]}
use Rattle.dl_text.specs.Going.{stop}
use Rattle.update_read.proofs.TextLaws.{inside_more, inside_within, quoted_at, never_quoted, quote_is, piece_shorter}
use Rattle.update_read.proofs.texts.cut_quoted.Goals as goal

pub loop-rest-init : goal.loop-rest-init
loop-rest-init c = ([], stop c.args.after.now)

pub slice_bounds-result-count : goal.slice_bounds-result-count
slice_bounds-result-count c = inside_within c.args.quote c.args.kind c.args.after.now c.loop-rest.here.now c.loop-rest.invariant

pub returns-in-Some : goal.returns-in-Some
returns-in-Some c = quoted_at c.args.quote c.args.kind c.args.after.now c.loop-rest.here.now c.in-Some.rest.now c.loop-rest.invariant c.in-Some.ensures

pub returns-in_default-behind_piece : goal.returns-in_default-behind_piece
returns-in_default-behind_piece c inner rest =
    never_quoted c.args.quote c.args.kind (quote_is c.args.quote c.requires) c.args.after.now c.loop-rest.here.now inner rest c.loop-rest.invariant c.in_default.ensures c.in_default-behind_piece.ensures

pub loop-rest-preserved : goal.loop-rest-preserved
loop-rest-preserved c =
    inside_more c.args.quote c.args.kind c.args.after.now c.loop-rest.here.now c.in-Some-behind_piece.behind.now c.in-Some-behind_piece.ensures.0 c.loop-rest.invariant c.in-Some-behind_piece.ensures.1
