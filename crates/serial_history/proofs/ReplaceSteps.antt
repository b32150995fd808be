-- A replacement under which the stored facts stay consistent: what the history is afterwards.
use Rattle.std.proofs.Common.{◌≡◌, ◌<◌, ◌+◌, ◌++◌, ◌∷◌, ℕ, List, [], length, refl, sym, ◌∙◌, ap, subst, arith, inl, ⊎_elim}
use Rattle.std.proofs.lemmas.List.{length-append}
use Rattle.dl_base.specs.declared.requests.Entry.{Entry}
use Rattle.dl_base.specs.declared.statements.Fact.{Fact}
use Rattle.dl_base.specs.Changing.{IsChanged, IsTrimmed, added, removed}
use Rattle.dl_base.specs.Clash.{IsConsistent}
use Rattle.dl_base.specs.Commits.{InForce, IsReplaced, IsReplacement}
use Rattle.dl_base.specs.FactOrder.{AreSorted}
use Rattle.dl_base.specs.Histories.{in_force}
use Rattle.dl_base.specs.Ontologies.{Theory, Extends}
use Rattle.dl_base.specs.Transactions.{IsAfter, IsChange}
use Rattle.dl_base.specs.Validity.{IsOntology}
use Rattle.dl_base.proofs.CommitLaws.{legal_after_replacement}
use Rattle.dl_base.proofs.Members.{nowhere}
use Rattle.dl_base.proofs.SameFacts.{in_order_is}
use Rattle.serial_history.specs.Committing.{Continues}
use Rattle.serial_history.specs.Replacing.{HasReplaced}
use Rattle.serial_history.specs.States.{Seen, Logged, IsKept}
use Rattle.serial_history.proofs.VersionSteps.{version_push, last_versions_push}

-- where nothing is changed, nothing comes or goes
unchanged : (old new : List Fact) → IsChanged old [] new → IsChange old new []
unchanged old new h = record {
  sorted = in_order_is [];
  added = λ f. ((λ m. absurd (nowhere (added f) m)), λ k. ⊎_elim (λ o. absurd (k.1 o.0)) (λ m. m) ((h f).0 k.0));
  removed = λ f. ((λ m. absurd (nowhere (removed f) m)), λ k. absurd (k.1 ((h f).1 (inl (k.0, nowhere (removed f))))));
}

module _ (opening : Theory) (facts : List Fact) (limit : ℕ) (entries : List Entry) (version : List Fact) (layers : List (List Fact)) (kept : IsKept opening facts limit entries version layers)
    (editor : ℕ) (theory : Theory) (room : length entries < limit) (ontology : IsOntology theory) (extends : Extends theory (in_force opening entries)) (consistent : IsConsistent theory.axioms version)
    (next : List Fact) (after : List (List Fact)) (changed : IsChanged version [] next) (sorted : AreSorted next) (trimmed : IsTrimmed layers next after)
    (e : Entry) (is : IsReplacement entries editor theory e) where
  replaced_here : IsReplaced opening facts limit entries editor theory (InForce (length entries + 1)) (entries ++ e ∷ [])
  replaced_here = (room, (version, kept.stands, consistent), refl, (e, is, refl))

  same_facts_after : IsAfter version e.changed next
  same_facts_after = (sorted, subst (IsChange version next) (sym is.silent.1) (unchanged version next changed))

  kept_here : IsKept opening facts limit (entries ++ e ∷ []) next after
  kept_here = record {
    legal = legal_after_replacement opening facts limit entries editor theory (InForce (length entries + 1)) (entries ++ e ∷ []) kept.legal ontology extends replaced_here;
    within = (let long = length-append entries (e ∷ []) in omega (arith, long, room));
    stands = version_push facts entries e version next kept.stands same_facts_after;
    layered = last_versions_push facts entries e layers after version next kept.layered kept.stands same_facts_after trimmed;
  }

  abbrev before : Seen
  before = record { opening = opening; facts = facts; limit = limit; entries = entries; layers = layers }

  abbrev then : Logged → Seen
  then l = record { opening = l.opening; facts = facts; limit = limit; entries = l.entries; layers = after }

  module _ (log : Logged) (pushed : log ≡ record { opening = opening; entries = entries ++ e ∷ [] }) where
    pub keeps : IsKept log.opening facts limit log.entries next after
    keeps = subst (λ (l : Logged). IsKept l.opening facts limit l.entries next after) (sym pushed) kept_here

    pub replaced : (n : ℕ) → n ≡ length log.entries → HasReplaced before editor theory (InForce n) (then log)
    replaced n count =
        let number : n ≡ length entries + 1 = count ∙ ap (λ (l : Logged). length l.entries) pushed ∙ length-append entries (e ∷ []) in
        subst (λ (l : Logged). HasReplaced before editor theory (InForce n) (then l)) (sym pushed)
        (subst (λ (k : ℕ). IsReplaced opening facts limit entries editor theory (InForce k) (entries ++ e ∷ [])) (sym number) replaced_here)

    pub continues : Continues before (then log)
    continues = subst (λ (l : Logged). Continues before (then l)) (sym pushed) (next, kept_here.stands, trimmed, refl)
