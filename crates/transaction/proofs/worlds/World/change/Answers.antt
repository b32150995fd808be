use Rattle.std.proofs.Common.{◌≡◌, Err, List, refl, sym, ◌∙◌, ap, subst}
use Rattle.std.specs.Prelude.{All}
use Rattle.dl_base.specs.Ontologies.{Knows}
use Rattle.dl_base.specs.Updates.{IsWellFormed}
use Rattle.dl_base.specs.declared.requests.Request.{Request}
use Rattle.dl_base.specs.declared.requests.Request.TheVariants as asked
use Rattle.dl_base.specs.declared.statements.Fact.{Fact}
use Rattle.transaction.specs.Holding.{AllBeganIn}
use Rattle.transaction.specs.Worlds.{State, HasSpace, IsAnswered, IsFilled, IsIllFormed, KnowsEvent, theory_of}
use Rattle.transaction.specs.declared.events.Event.TheVariants as event
use Rattle.transaction.proofs.WorldLaws.{state_of, knows_at, answered, began_served, filled, ill_formed, space_for}
use Rattle.transaction.proofs.worlds.World.change.Goals as goal

pub change-requires-clause-known : goal.change-requires-clause-known
change-requires-clause-known g c = λ h e.
    let w = c.self.inside in
    let known = knows_at w.history w.begun c.self.invariant c.args.editor c.in-Some.place c.in-Some.ensures.found (asked.Change c.args.inserts c.args.deletes)
    (subst (λ (s : State). KnowsEvent s (event.Change c.args.editor c.args.inserts c.args.deletes)) (sym c.self.view_is) c.requires) h e in
    subst (λ (fs : List Fact). All (Knows h.transaction.ontology) fs × All (Knows h.transaction.ontology) c.as_slice-2.result.now) (sym c.as_slice.ensures)
    (subst (λ (fs : List Fact). All (Knows h.transaction.ontology) c.args.inserts × All (Knows h.transaction.ontology) fs) (sym c.as_slice-2.ensures) known)

pub invariant_of-self : goal.invariant_of-self
invariant_of-self g c =
    let w = c.self.inside in
    began_served w.history w.begun c.self.invariant c.args.editor c.in-Some.place c.in-Some.ensures.found (asked.Change c.as_slice.result.now c.as_slice-2.result.now) c.in-Ok.lost.items c.change.new.self c.in-Ok.ensures.ok

pub returns-in-Ok-clause-ok : goal.returns-in-Ok-clause-ok
returns-in-Ok-clause-ok g c =
    let w = c.self.inside in
    let told : List Fact = c.of.result in
    let after = state_of w.history c.change.new.self in
    let is = answered w.history w.begun c.self.invariant c.args.editor c.in-Some.place c.in-Some.ensures.found (asked.Change c.as_slice.result.now c.as_slice-2.result.now) c.in-Ok.lost.items c.change.new.self c.in-Ok.ensures.ok in
    let same : asked.Change c.as_slice.result.now c.as_slice-2.result.now ≡ asked.Change c.args.inserts c.args.deletes = λ i. asked.Change (c.as_slice.ensures i) (c.as_slice-2.ensures i) in
    subst (λ (s : State). IsAnswered s c.args.editor (asked.Change c.args.inserts c.args.deletes) told after) c.self.view_is
    (subst (λ (r : Request). IsAnswered (state_of w.history w.begun) c.args.editor r told after) same
    (subst (λ (fs : List Fact). IsAnswered (state_of w.history w.begun) c.args.editor (asked.Change c.as_slice.result.now c.as_slice-2.result.now) fs after) (sym c.of.ensures) is))

pub invariant_of-self-in-Err-TooManyRequests : goal.invariant_of-self-in-Err-TooManyRequests
invariant_of-self-in-Err-TooManyRequests g c = subst (AllBeganIn c.self.inside.history) (sym c.in-Err-TooManyRequests.ensures.refused) c.self.invariant

pub returns-in-Err-TooManyRequests-clause-ok : goal.returns-in-Err-TooManyRequests-clause-ok
returns-in-Err-TooManyRequests-clause-ok g c =
    let w = c.self.inside in
    let full = filled w.history w.begun c.self.invariant c.args.editor c.in-Some.place c.in-Some.ensures.found (λ h e. c.in-Err-TooManyRequests.ensures.too_many h e (ap Err c.in-Err-TooManyRequests.field-0-is)) in
    (subst (λ (s : State). IsFilled s c.args.editor) c.self.view_is full, ap (state_of w.history) c.in-Err-TooManyRequests.ensures.refused ∙ c.self.view_is)

pub invariant_of-self-in-Err-IllFormed : goal.invariant_of-self-in-Err-IllFormed
invariant_of-self-in-Err-IllFormed g c = subst (AllBeganIn c.self.inside.history) (sym c.in-Err-IllFormed.ensures.refused) c.self.invariant

pub returns-in-Err-IllFormed-clause-ok : goal.returns-in-Err-IllFormed-clause-ok
returns-in-Err-IllFormed-clause-ok g c =
    let w = c.self.inside in
    let name = c.in-Err-IllFormed.name in
    let is = ill_formed w.history w.begun c.self.invariant c.args.editor c.in-Some.place c.in-Some.ensures.found c.as_slice.result.now c.as_slice-2.result.now name
    (λ h e. c.in-Err-IllFormed.ensures.ill_formed h name e (ap Err c.in-Err-IllFormed.field-0-is)) in (
      subst (λ (s : State). IsIllFormed s c.args.editor c.args.inserts c.args.deletes name) c.self.view_is
          (subst (λ (fs : List Fact). IsIllFormed (state_of w.history w.begun) c.args.editor fs c.args.deletes name) c.as_slice.ensures
          (subst (λ (fs : List Fact). IsIllFormed (state_of w.history w.begun) c.args.editor c.as_slice.result.now fs name) c.as_slice-2.ensures is)),
      ap (state_of w.history) c.in-Err-IllFormed.ensures.refused ∙ c.self.view_is,
    )

pub invariant_of-self-2 : goal.invariant_of-self-2
invariant_of-self-2 g c = subst (AllBeganIn c.self.inside.history) (sym c.in-Err-OutOfMemory.ensures.refused) c.self.invariant

pub returns-clause-memory : goal.returns-clause-memory
returns-clause-memory g c =
    let w = c.self.inside in
    let seen = state_of w.history w.begun in
    let room = space_for w.history w.begun c.self.invariant c.args.editor c.in-Some.place c.in-Some.ensures.found c.as_slice.result.now c.as_slice-2.result.now
    (λ h e. c.in-Err-OutOfMemory.ensures.memory h e (ap Err c.in-Err-OutOfMemory.field-0-is)) in
    subst (λ (s : State). HasSpace s c.args.editor (λ b. IsWellFormed (theory_of s b).axioms c.args.inserts c.args.deletes)) c.self.view_is
    (subst (λ (fs : List Fact). HasSpace seen c.args.editor (λ b. IsWellFormed (theory_of seen b).axioms fs c.args.deletes)) c.as_slice.ensures
    (subst (λ (fs : List Fact). HasSpace seen c.args.editor (λ b. IsWellFormed (theory_of seen b).axioms c.as_slice.result.now fs)) c.as_slice-2.ensures room))
