use Rattle.std.proofs.Common.{◌≡◌, ℕ, [], ◌∷◌, ◌++◌, Some, None, Ok, sym, ap, subst, ◌∙◌}
use Rattle.std.specs.Prelude.{Option}
use Rattle.dl_text.specs.Prefixes.{Bindings}
use Rattle.dl_text.specs.declared.kinds.ReadKind.{ReadKind}
use Rattle.update_read.specs.declared.lists.Gathered.{Gathered}
use Rattle.update_read.specs.declared.spots.Spot.{Spot}
use Rattle.update_read.specs.declared.spots.Step.{Step}
use Rattle.update_read.specs.Tokens.{at}
use Rattle.update_read.specs.Running.{applied, start}
use Rattle.update_read.specs.Going.{refused_at, run_of, IsApplied}
use Rattle.update_read.specs.Stopping.{StopsAtToken}
use Rattle.update_read.proofs.RunLaws.{runs_push}
use Rattle.update_read.proofs.StopLaws.{stops_here}
use Rattle.update_read.proofs.progress.taken.Goals as goal

pub returns-in-Some : goal.returns-in-Some
returns-in-Some c all (out, g, h) =
    let at_all = subst (λ (o : Option (Spot × Bindings × Gathered)). IsApplied c.args.ontology.now c.args.prefixes c.args.gathered c.in_ok-step.step (Ok o)) c.in-Some.is c.in_ok-spot.ensures in
    let next = at_all out h in
    (next.0, runs_push (Some start) all (run_of c.args.spot c.args.prefixes out) (at c.args.line c.args.token.now) g ∙ ap (applied c.args.prefixes out) (sym c.in_ok-step.ensures) ∙ next.1, next.2)

pub returns-in-None : goal.returns-in-None
returns-in-None c all (out, g, h) =
    let at_all = subst (λ (o : Option (Spot × Bindings × Gathered)). IsApplied c.args.ontology.now c.args.prefixes c.args.gathered c.in_ok-step.step (Ok o)) c.in-None.is c.in_ok-spot.ensures in
    subst (λ (p : ℕ × ReadKind). StopsAtToken (all ++ at c.args.line c.args.token.now ∷ []) p.0 p.1)
    (sym (c.refused_at-place.ensures ∙ ap (λ (k : ReadKind). refused_at c.args.spot c.args.line k) c.kind_in.ensures))
    (stops_here c.args.prefixes out all c.args.spot c.args.line c.args.token.now g (sym c.in_ok-step.ensures ∙ at_all))
