use Rattle.std.proofs.Common.{sym, ◌∙◌}
use Rattle.update_read.proofs.FinishLaws.{ends_well, ends_early}
use Rattle.update_read.proofs.reading.ended.Goals as goal

pub returns-then-may_end : goal.returns-then-may_end
returns-then-may_end c theory b all h = ends_well theory b c.args.gathered all c.args.end c.told.result c.told.ensures c.args.spot.now (sym c.may_end.ensures ∙ c.if-may_end.true) h

pub returns : goal.returns
returns c theory b all h =
    ends_early theory b c.args.gathered all c.args.end c.args.spot.now c.refused_at-line.result.0 c.refused_at-line.result.1 (sym c.may_end.ensures ∙ c.if-may_end.false) c.refused_at-line.ensures h
