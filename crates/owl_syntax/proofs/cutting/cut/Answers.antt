use Rattle.std.proofs.Common.{sym, ◌∙◌}
use Rattle.owl_syntax.proofs.PieceLaws.{cut_digits}
use Rattle.owl_syntax.proofs.cutting.cut.Goals as goal

pub returns-then-is_ascii_digit : goal.returns-then-is_ascii_digit
returns-then-is_ascii_digit c =
    cut_digits c.args.here.now c.in-Some.behind.now c.run.result.0.now c.run.result.1.now c.in-Some.first.now c.in-Some.ensures.cases.0 (sym c.is_ascii_digit.ensures.value ∙ c.if-is_ascii_digit.true) c.run.ensures
