use Rattle.std.proofs.Common.{sym, ◌∙◌}
use Rattle.owl_syntax.proofs.QuoteLaws.{escape_at, no_escape, no_byte_after, not_escaped}
use Rattle.owl_syntax.proofs.texts.behind_escape.Goals as goal

pub returns-in-None : goal.returns-in-None
returns-in-None c = no_escape c.args.after.now (no_byte_after c.args.after.now c.in-None.ensures.cases)

pub returns-then-is_escaped : goal.returns-then-is_escaped
returns-then-is_escaped c = escape_at c.args.after.now c.in-Some.behind.now c.in-Some.escaped.now c.in-Some.ensures.cases.0 (c.is_escaped.ensures.0 c.if-is_escaped.true)

pub returns-else-is_escaped : goal.returns-else-is_escaped
returns-else-is_escaped c =
    not_escaped c.args.after.now c.in-Some.behind.now c.in-Some.escaped.now c.in-Some.ensures.cases.0 (λ h. Rattle.std.proofs.lemmas.Bool.false≢true (sym c.if-is_escaped.false ∙ c.is_escaped.ensures.1 h))
