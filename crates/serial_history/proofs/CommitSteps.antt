-- A commit that nothing stands in the way of: what the state is afterwards.
use Rattle.std.proofs.Common.{◌≡◌, ◌<◌, ◌+◌, ◌++◌, ◌∷◌, ℕ, List, [], None, length, refl, sym, ◌∙◌, ap, subst}
use Rattle.std.proofs.lemmas.List.{length-append}
use Rattle.dl_base.specs.declared.requests.Changed.{Changed}
use Rattle.dl_base.specs.declared.requests.Entry.{Entry}
use Rattle.dl_base.specs.declared.statements.Fact.{Fact}
use Rattle.dl_base.specs.Histories.{in_force_at, own}
use Rattle.dl_base.specs.Ontologies.{Theory}
use Rattle.dl_base.specs.Staleness.{IsStale}
use Rattle.read_patterns.specs.declared.parts.Parts.{Parts}
use Rattle.serial_history.specs.Changing.{IsUpdate}
use Rattle.serial_history.specs.Committing.{Commits}
use Rattle.serial_history.specs.States.{Seen, Logged, IsKept, AreAsked, AreTaken}
use Rattle.serial_history.proofs.PublishLaws.{committed, kept_next, stands_next}

module _ (opening : Theory) (facts : List Fact) (limit : ℕ) (entries : List Entry) (version : List Fact) (layers : List (List Fact)) (kept : IsKept opening facts limit entries version layers) where
  abbrev pub seen : List Entry → List (List Fact) → Seen
  seen es ls = record { opening = opening; facts = facts; limit = limit; entries = es; layers = ls }

  module _ (editor : ℕ) (parts : Parts) (asked : AreAsked (seen entries layers) parts.base parts.recorded) (taken : AreTaken (seen entries layers) parts) (room : length entries < limit)
      (fresh : ¬ IsStale (in_force_at opening entries parts.base).axioms entries parts.base parts.recorded)
      (changed : List Changed) (next : List Fact) (after : List (List Fact)) (update : IsUpdate version layers parts changed next after)
      (e : Entry) (editor_is : e.editor ≡ editor) (number_is : e.number ≡ length (own editor entries)) (requests_are : e.requests ≡ parts.recorded) (changed_are : e.changed ≡ changed) (none : e.replaced ≡ None)
      (log : Logged) (pushed : log ≡ record { opening = opening; entries = entries ++ e ∷ [] }) where
    pub keeps : IsKept log.opening facts limit log.entries next after
    keeps = subst (λ (l : Logged). IsKept l.opening facts limit l.entries next after) (sym pushed)
        (kept_next opening facts limit entries version layers kept editor parts.base parts.recorded asked.some asked.well asked.known fresh parts.added.items parts.removed.items update.marked.0 update.marked.1 taken.0 taken.1 taken.2 changed
        update.marked.4 update.marked.2 update.marked.3 e editor_is number_is requests_are changed_are none room asked.change next update.sorted update.changes after update.trimmed)

    pub commits : (n : ℕ) → n ≡ length log.entries → Commits (seen entries layers) editor parts n (record { opening = log.opening; facts = facts; limit = limit; entries = log.entries; layers = after })
    commits n count =
        let number : n ≡ length entries + 1 = count ∙ ap (λ (l : Logged). length l.entries) pushed ∙ length-append entries (e ∷ []) in
        let done = committed opening facts limit entries version layers kept editor parts.base parts.recorded asked.some asked.well asked.known fresh parts.added.items parts.removed.items update.marked.0 update.marked.1 taken.0 taken.1 taken.2 changed
        update.marked.4 update.marked.2 update.marked.3 e editor_is number_is requests_are changed_are none room asked.change in
        let stands = stands_next opening facts limit entries version layers kept editor parts.base parts.recorded asked.some asked.well asked.known fresh parts.added.items parts.removed.items update.marked.0 update.marked.1 taken.0 taken.1 taken.2 changed
        update.marked.4 update.marked.2 update.marked.3 e editor_is number_is requests_are changed_are none room asked.change next update.sorted update.changes in
        subst (λ (l : Logged). Commits (seen entries layers) editor parts n (record { opening = l.opening; facts = facts; limit = limit; entries = l.entries; layers = after })) (sym pushed)
        (subst (λ (k : ℕ). Commits (seen entries layers) editor parts k (seen (entries ++ e ∷ []) after)) (sym number) (done, (next, stands, update.trimmed, refl)))
