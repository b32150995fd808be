use Rattle.std.proofs.Common.{◌≡◌, sym, ◌∙◌, subst}
use Rattle.std.specs.Arc.{arc_value}
use Rattle.transaction.specs.Worlds.{State, Begun, Has, HasNone, theory_of}
use Rattle.transaction.proofs.WorldLaws.{rules_at, not_none}
use Rattle.transaction.proofs.worlds.World.rules.Goals as goal

pub returns-in-Some-clause-own : goal.returns-in-Some-clause-own
returns-in-Some-clause-own g c =
    let w = c.self.inside in
    subst (λ (s : State). (b : Begun) → Has s c.args.editor b → arc_value c.rules.result.now ≡ theory_of s b) c.self.view_is
    (λ b has. c.rules.ensures ∙ rules_at w.history w.begun c.self.invariant c.args.editor c.in-Some.place c.in-Some.ensures.found c.at.result.now c.at.ensures b has)

pub returns-in-Some-clause-now : goal.returns-in-Some-clause-now
returns-in-Some-clause-now g c = λ none.
    let w = c.self.inside in
    absurd (not_none w.history w.begun c.self.invariant c.args.editor c.in-Some.place c.in-Some.ensures.found (subst (λ (s : State). HasNone s c.args.editor) (sym c.self.view_is) none))
