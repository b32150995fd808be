use Rattle.std.proofs.Common.{◌≡◌, Err, List, refl, sym, ◌∙◌, ap, subst}
use Rattle.dl_base.specs.declared.requests.Request.TheVariants as asked
use Rattle.dl_base.specs.declared.statements.Fact.{Fact}
use Rattle.transaction.specs.Holding.{AllBeganIn}
use Rattle.transaction.specs.Worlds.{State, HasSpace, IsAnswered, IsFilled, IsIllFormed, KnowsEvent}
use Rattle.transaction.specs.declared.events.Event.TheVariants as event
use Rattle.transaction.proofs.WorldLaws.{state_of, knows_at, answered, began_served, filled, space}
use Rattle.transaction.proofs.worlds.World.ask.Goals as goal

pub ask-requires-clause-known : goal.ask-requires-clause-known
ask-requires-clause-known g c =
    let w = c.self.inside in
    knows_at w.history w.begun c.self.invariant c.args.editor c.in-Some.place c.in-Some.ensures.found (asked.Ask c.args.pattern)
    (subst (λ (s : State). KnowsEvent s (event.Ask c.args.editor c.args.pattern)) (sym c.self.view_is) c.requires)

pub invariant_of-self : goal.invariant_of-self
invariant_of-self g c =
    let w = c.self.inside in
    began_served w.history w.begun c.self.invariant c.args.editor c.in-Some.place c.in-Some.ensures.found (asked.Ask c.args.pattern) c.in-Ok.answers.items c.ask.new.self c.in-Ok.ensures.ok

pub returns-in-Ok-clause-ok : goal.returns-in-Ok-clause-ok
returns-in-Ok-clause-ok g c =
    let w = c.self.inside in
    let told : List Fact = c.of.result in
    let is = answered w.history w.begun c.self.invariant c.args.editor c.in-Some.place c.in-Some.ensures.found (asked.Ask c.args.pattern) c.in-Ok.answers.items c.ask.new.self c.in-Ok.ensures.ok in
    subst (λ (s : State). IsAnswered s c.args.editor (asked.Ask c.args.pattern) told (state_of w.history c.ask.new.self)) c.self.view_is
    (subst (λ (fs : List Fact). IsAnswered (state_of w.history w.begun) c.args.editor (asked.Ask c.args.pattern) fs (state_of w.history c.ask.new.self)) (sym c.of.ensures) is)

pub invariant_of-self-in-Err-TooManyRequests : goal.invariant_of-self-in-Err-TooManyRequests
invariant_of-self-in-Err-TooManyRequests g c = subst (AllBeganIn c.self.inside.history) (sym c.in-Err-TooManyRequests.ensures.refused) c.self.invariant

pub returns-in-Err-TooManyRequests-clause-ok : goal.returns-in-Err-TooManyRequests-clause-ok
returns-in-Err-TooManyRequests-clause-ok g c =
    let w = c.self.inside in
    let full = filled w.history w.begun c.self.invariant c.args.editor c.in-Some.place c.in-Some.ensures.found (λ h e. c.in-Err-TooManyRequests.ensures.too_many h e (ap Err c.in-Err-TooManyRequests.field-0-is)) in
    (subst (λ (s : State). IsFilled s c.args.editor) c.self.view_is full, ap (state_of w.history) c.in-Err-TooManyRequests.ensures.refused ∙ c.self.view_is)

pub invariant_of-self-in-Err-IllFormed : goal.invariant_of-self-in-Err-IllFormed
invariant_of-self-in-Err-IllFormed g c = subst (AllBeganIn c.self.inside.history) (sym c.in-Err-IllFormed.ensures.refused) c.self.invariant

pub invariant_of-self-2 : goal.invariant_of-self-2
invariant_of-self-2 g c = subst (AllBeganIn c.self.inside.history) (sym c.in-Err-OutOfMemory.ensures.refused) c.self.invariant

pub returns-clause-memory : goal.returns-clause-memory
returns-clause-memory g c =
    let w = c.self.inside in
    let room = space w.history w.begun c.self.invariant c.args.editor c.in-Some.place c.in-Some.ensures.found (λ h e. c.in-Err-OutOfMemory.ensures.memory h e (ap Err c.in-Err-OutOfMemory.field-0-is)) in
    subst (λ (s : State). HasSpace s c.args.editor (λ b. Unit {0})) c.self.view_is room
