use Rattle.std.proofs.Common.{subst, Err}
use Rattle.dl_text.specs.Outcomes.{rule_of, IsUndone}
use Rattle.dl_text.specs.declared.escapes.Escapes.{Escapes}
use Rattle.dl_text.proofs.ReadingLaws.{string_not_undone}
use Rattle.dl_text.proofs.reading.read_string.Goals as goal

pub returns-in-Err : goal.returns-in-Err
returns-in-Err c = string_not_undone (rule_of c.args.rule) c.args.bytes.now c.in-Err.fault (subst (λ (r : Escapes). IsUndone r c.args.bytes.now (Err c.in-Err.fault)) c.rule_of.ensures c.in-Err.ensures)
