use Rattle.std.proofs.Common.{◌≡◌, refl, subst}
use Rattle.transaction.specs.Worlds.{State, HasOne, ended}
use Rattle.transaction.proofs.WorldLaws.{state_of, aborted, began_removed}
use Rattle.transaction.proofs.worlds.World.abort.Goals as goal

pub invariant_of-self : goal.invariant_of-self
invariant_of-self g c =
    let w = c.self.inside in
    began_removed w.history w.begun c.self.invariant c.args.editor c.in-Some.place c.in-Some.ensures.found w.history (refl, refl, refl) c.remove-ended.new.self c.remove-ended.ensures.others

pub returns : goal.returns
returns g c =
    let w = c.self.inside in
    subst (λ (s : State). HasOne s c.args.editor × (state_of w.history c.remove-ended.new.self ≡ ended s c.args.editor s.entries)) c.self.view_is
    (aborted w.history w.begun c.self.invariant c.args.editor c.in-Some.place c.in-Some.ensures.found c.remove-ended.new.self c.remove-ended.ensures.others)
