use Rattle.std.proofs.Common.{sym, ◌∙◌, subst, ap, ◌++◌, ◌∷◌, []}
use Rattle.std.specs.Prelude.{Bool}
use Rattle.dl_text.specs.declared.kinds.ReadKind.{ReadKind}
use Rattle.owl_syntax.specs.Grammar.{StopsAtToken}
use Rattle.owl_syntax.specs.Shapes.{shape_of, at}
use Rattle.owl_syntax.specs.Reading.{state_of, onward}
use Rattle.owl_syntax.proofs.StopLaws.{going_more, stops_deep, stops_here}
use Rattle.owl_syntax.proofs.parsing.taken.Goals as goal

pub returns-in-TooDeep : goal.returns-in-TooDeep
returns-in-TooDeep c tokens g =
    subst (λ (k : ReadKind). StopsAtToken (tokens ++ at c.args.line (shape_of c.args.piece) ∷ []) c.args.line k) (sym c.kind_at-kind.ensures)
    (stops_deep (state_of c.args.state.now) tokens c.args.line (shape_of c.args.piece) g (sym c.kind_at-kind.ensures ∙ c.in-TooDeep.is))

pub returns-then-branch : goal.returns-then-branch
returns-then-branch c tokens g =
    going_more (state_of c.args.state.now) (state_of c.next.new.state) tokens c.args.line (shape_of c.args.piece) g (λ e. c.in_default.not-TooDeep (c.kind_at-kind.ensures ∙ e))
    (sym c.in_ok-next.ensures ∙ ap (λ (b : Bool). onward (state_of c.next.new.state) b) c.if-branch.true)

pub returns-else-branch : goal.returns-else-branch
returns-else-branch c tokens g =
    subst (λ (k : ReadKind). StopsAtToken (tokens ++ at c.args.line (shape_of c.args.piece) ∷ []) c.args.line k) (sym c.kind_at-kind.ensures)
    (stops_here (state_of c.args.state.now) tokens c.args.line (shape_of c.args.piece) g
    (sym c.in_ok-next.ensures ∙ ap (λ (b : Bool). onward (state_of c.next.new.state) b) c.if-branch.false))
