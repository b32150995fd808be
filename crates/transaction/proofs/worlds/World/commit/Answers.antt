use Rattle.std.proofs.Common.{◌≡◌, ◌≤◌, ◌<◌, length, refl, sym, ◌∙◌, ap, subst, ⊎_elim}
use Rattle.std.specs.Prelude.{IfOk}
use Rattle.std.proofs.lemmas.Bool.{cases_lt, false≢true}
use Rattle.dl_base.specs.Commits as outcome
use Rattle.dl_base.specs.Histories.{HasChange}
use Rattle.transaction.specs.Worlds.{Begun, State, Ends, Has, TakesMemory, Waits, StepsTo}
use Rattle.transaction.specs.declared.events.Event.TheVariants as event
use Rattle.transaction.proofs.WorldLaws.{state_of, began_removed, changing, on_err, read_only, full, within, changes_at, began_after, stepped_after}
use Rattle.transaction.proofs.worlds.World.commit.Goals as goal

pub invariant_of-self : goal.invariant_of-self
invariant_of-self g c =
    let w = c.self.inside in
    began_removed w.history w.begun c.self.invariant c.args.editor c.in-Some.place c.in-Some.ensures.found w.history (refl, refl, refl) c.remove.new.self c.remove.ensures.others

pub returns-then-not-has_change-clause-ok : goal.returns-then-not-has_change-clause-ok
returns-then-not-has_change-clause-ok g c =
    let w = c.self.inside in
    let none : HasChange c.at.result.now.requests → ⊥ = λ h. false≢true (sym c.if-not-has_change.true ∙ c.has_change.ensures.1 h) in
    subst (λ (s : State). Ends s c.args.editor (outcome.ReadOnly c.finish-base.result) (state_of w.history c.remove.new.self)) c.self.view_is
    (read_only w.history w.begun c.self.invariant c.args.editor c.in-Some.place c.in-Some.ensures.found c.at.result.now c.at.ensures none c.remove.result c.remove.ensures.taken c.finish-base.result c.finish-base.ensures c.remove.new.self c.remove.ensures.others)

pub returns-then-is_full-clause-ok : goal.returns-then-is_full-clause-ok
returns-then-is_full-clause-ok g c =
    let w = c.self.inside in
    let change : HasChange c.at.result.now.requests = c.has_change.ensures.0 c.if-not-has_change.false in
    let room : w.history.limit ≤ length w.history.entries = subst (λ (s : State). s.limit ≤ length s.entries) (sym c.self.view_is) (c.if-is_full.ensures.0 refl) in
    let waits = full w.history w.begun c.self.invariant c.args.editor c.in-Some.place c.in-Some.ensures.found c.at.result.now c.at.ensures change room in
    (subst (λ (s : State). Waits s c.args.editor outcome.HistoryFull s) c.self.view_is waits, c.limit.ensures ∙ ap (λ (s : State). s.limit) c.self.view_is)

pub commit-requires-clause-place : goal.commit-requires-clause-place
commit-requires-clause-place g c = within c.self.inside.history c.self.inside.begun c.self.invariant c.args.editor c.in-Some.place c.in-Some.ensures.found

pub invariant_of-self-2 : goal.invariant_of-self-2
invariant_of-self-2 g c =
    let w = c.self.inside in
    began_after w.history w.begun c.self.invariant c.args.editor c.in-Some.place c.in-Some.ensures.found c.commit.new.history c.commit.new.self c.commit.result c.commit.ensures.ok c.commit.ensures.refused

pub returns-clause-ok : goal.returns-clause-ok
returns-clause-ok g c =
    let w = c.self.inside in
    let u = c.commit.new.history in
    let new = c.commit.new.self in
    subst (λ (s : State). IfOk c.commit.result (λ answer. StepsTo s (event.Commit c.args.editor) answer (state_of u new))) c.self.view_is
    (stepped_after w.history w.begun c.self.invariant c.args.editor c.in-Some.place c.in-Some.ensures.found u new c.commit.result c.commit.ensures.ok)

pub returns-clause-memory : goal.returns-clause-memory
returns-clause-memory g c =
    let w = c.self.inside in
    let change : HasChange c.at.result.now.requests = c.has_change.ensures.0 c.if-not-has_change.false in
    let room : length c.args.self.now.entries < c.args.self.now.limit = ⊎_elim (λ l. l) (λ l. absurd (false≢true (sym c.if-is_full.false ∙ c.is_full.ensures.1 l))) (cases_lt (length c.args.self.now.entries) c.args.self.now.limit) in
    let begun = changing w.history w.begun c.self.invariant c.args.editor c.in-Some.place c.in-Some.ensures.found c.at.result.now c.at.ensures change in
    let own = subst (λ (s : State). (b : Begun) × Has s c.args.editor b × HasChange b.requests) c.self.view_is begun in
    on_err c.commit.result (TakesMemory c.args.self.now (event.Commit c.args.editor)) (own, room)
