-- What a replacement of the ontology does to the core.
use Rattle.std.proofs.Common.{◌≡◌, ℕ, List, [], ◌∷◌, ◌++◌, None, sym, ◌∙◌, subst}
use Rattle.std.specs.Prelude.{map}
use Rattle.std.proofs.lemmas.List.{append-nil}
use Rattle.dl_base.specs.Commits.{Replaced}
use Rattle.dl_base.specs.Commits as outcome
use Rattle.dl_base.specs.Ontologies.{Theory}
use Rattle.serial_history.specs.Replacing.{HasReplaced, ReplacesBy}
use Rattle.serial_history.specs.declared.replacing.Replacing.{Replacing}
use Rattle.serial_history.specs.declared.replacing.Replacing.TheVariants as answer
use Rattle.serial_history.specs.States.{Seen}
use Rattle.transaction.specs.Holding.{Held, AllBeganIn, IsSameOpening, begun_of}
use Rattle.transaction.specs.Worlds.{Replaces, of_editor}
use Rattle.transaction.proofs.WorldLaws.{state_of, all_grown, continued, same_opening}

module _ (s : Seen) (helds : List Held) (editor : ℕ) (theory : Theory) (u : Seen) (so : IsSameOpening s u) where
  -- by an editor without a transaction
  pub replaces : of_editor editor (map begun_of helds) ≡ None → (o : Replaced) → HasReplaced s editor theory o u → Replaces (state_of s helds) editor theory o (state_of u helds)
  replaces none o h = (none, (u.entries, h, λ i. record { opening = so.0 i; facts = so.1 i; limit = so.2 i; entries = u.entries; begun = map begun_of helds }))

  -- each transaction has begun at a version still
  pub began_replaced : AllBeganIn s helds → (o : Replaced) → HasReplaced s editor theory o u → AllBeganIn u helds
  began_replaced began outcome.NoRoom h = all_grown s u so [] (h.1 ∙ sym (append-nil s.entries)) helds began
  began_replaced began (outcome.Alone f) h = all_grown s u so [] (h.2 ∙ sym (append-nil s.entries)) helds began
  began_replaced began (outcome.Pair f k) h = all_grown s u so [] (h.2 ∙ sym (append-nil s.entries)) helds began
  began_replaced began (outcome.InForce m) h = all_grown s u so (h.3.0 ∷ []) h.3.2 helds began

-- what holds of a history holds of one that goes on or stays
pub stays : (s u : Seen) (editor : ℕ) (theory : Theory) (r : Replacing) → ReplacesBy s editor theory r u → IsSameOpening s u
stays s u editor theory (answer.Replaced n) h = continued s u h.1
stays s u editor theory answer.Full h = same_opening s u h.1
stays s u editor theory (answer.Alone f) h = same_opening s u h.1
stays s u editor theory (answer.Pair f k) h = same_opening s u h.1
stays s u editor theory answer.OutOfMemory h = same_opening s u h.1

-- whatever the answer, each transaction has begun at a version still
pub began_answered : (s u : Seen) (helds : List Held) (editor : ℕ) (theory : Theory) (r : Replacing) → AllBeganIn s helds → ReplacesBy s editor theory r u → AllBeganIn u helds
began_answered s u helds editor theory (answer.Replaced n) began h = began_replaced s helds editor theory u (continued s u h.1) began (outcome.InForce n) h.0
began_answered s u helds editor theory answer.Full began h = subst (λ (x : Seen). AllBeganIn x helds) (sym h.1) began
began_answered s u helds editor theory (answer.Alone f) began h = subst (λ (x : Seen). AllBeganIn x helds) (sym h.1) began
began_answered s u helds editor theory (answer.Pair f k) began h = subst (λ (x : Seen). AllBeganIn x helds) (sym h.1) began
began_answered s u helds editor theory answer.OutOfMemory began h = subst (λ (x : Seen). AllBeganIn x helds) (sym h.1) began
