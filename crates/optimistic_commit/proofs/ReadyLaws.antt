-- Parts of a transaction of one change, and parts while others commit.
use Rattle.std.proofs.Common.{◌≡◌, ◌≤◌, ◌<◌, ◌++◌, ◌∷◌, ℕ, List, [], length, take, sym, ◌∙◌, ap, subst, inr, ⊎_elim, arith}
use Rattle.std.specs.Prelude.{All, Contains}
use Rattle.std.proofs.Math.Seq.{take-length}
use Rattle.std.proofs.lemmas.List.{take-append-le, length-append}
use Rattle.std.proofs.lemmas.List.Elements.{All-from_recursion, All-cons, All-nil}
use Rattle.dl_base.specs.declared.axioms.Axiom.{Axiom}
use Rattle.dl_base.specs.declared.requests.Entry.{Entry}
use Rattle.dl_base.specs.declared.requests.Request.{Request}
use Rattle.dl_base.specs.declared.requests.Request.TheVariants.{Change}
use Rattle.dl_base.specs.declared.statements.Fact.{Fact}
use Rattle.dl_base.specs.Histories.{HasChange, IsVersion, in_force, in_force_at}
use Rattle.dl_base.specs.Ontologies.{Theory, Knows, KnowsRequest}
use Rattle.dl_base.specs.Transactions.{Runs, done, then, IsWell}
use Rattle.dl_base.specs.Updates.{Lists, IsStored, IsWellFormed}
use Rattle.dl_base.proofs.Members.{here}
use Rattle.dl_base.proofs.SortedLaws.{all_of}
use Rattle.update_engine.specs.declared.answers.Step.{Step}
use Rattle.update_engine.specs.Stepping.{IsStep}
use Rattle.read_patterns.specs.declared.parts.Parts.{Parts}
use Rattle.read_patterns.specs.Effects.{AreEffects}
use Rattle.optimistic_commit.specs.Publishing.{Publishes}
use Rattle.serial_history.specs.Committing.{Continues}
use Rattle.serial_history.specs.Replacing.{ReplacesBy}
use Rattle.serial_history.specs.States.{Seen, IsReady}
use Rattle.serial_history.specs.declared.replacing.Replacing.{Replacing}
use Rattle.serial_history.specs.declared.replacing.Replacing.TheVariants as replacing
use Rattle.optimistic_commit.specs.declared.publishing.Published.{Published}
use Rattle.optimistic_commit.specs.declared.publishing.Published.TheVariants as published

module _ (axioms : List Axiom) (old inserts deletes stored : List Fact) (step : Step) (is : IsStep axioms old inserts deletes step) (after : Lists (IsStored axioms old inserts deletes) stored) where
  -- the run of the one change
  abbrev run : Runs axioms old (Change inserts deletes ∷ []) (step.lost.items ∷ []) stored
  run = then old stored stored (Change inserts deletes) [] step.lost.items [] (after, is.lost stored after.each) (done stored)

  pub effects_of_one : AreEffects axioms old (Change inserts deletes ∷ []) step.put.items step.removed.items
  effects_of_one = (
    stored,
    step.lost.items ∷ [],
    run,
    record { sorted = is.put.sorted; each = λ f. ((λ m. inr ((is.put.each f).0 m, λ h. h)), λ s. ⊎_elim (λ k. absurd k) (λ k. (is.put.each f).1 k.0) s) },
    record { sorted = is.removed.sorted; each = λ f. ((λ m. inr ((is.removed.each f).0 m, λ h. h)), λ s. ⊎_elim (λ k. absurd k) (λ k. (is.removed.each f).1 k.0) s) },
  )

module _ (s : Seen) (version : List Fact) (stands : IsVersion s.facts s.entries version) (inserts deletes : List Fact) where
  abbrev theory : Theory
  theory = in_force s.opening s.entries

  now : (n : ℕ) → n ≡ length s.entries → take n s.entries ≡ s.entries
  now n e = ap (λ (k : ℕ). take k s.entries) e ∙ take-length s.entries

  -- the parts of one change at the version that stands
  pub ready_of_one : ((f : Fact) → Contains inserts f → Knows theory f) → ((f : Fact) → Contains deletes f → Knows theory f) → IsWellFormed theory.axioms inserts deletes
      → (parts : Parts) → parts.base ≡ length s.entries → parts.recorded ≡ Change inserts deletes ∷ []
      → AreEffects theory.axioms version (Change inserts deletes ∷ []) parts.added.items parts.removed.items → IsReady s parts
  ready_of_one ins dels well parts base recorded effects =
      let back = sym (now parts.base base) in
      let force : theory ≡ in_force_at s.opening s.entries parts.base = ap (in_force s.opening) back in
      let listed = sym recorded in
      let change : HasChange (Change inserts deletes ∷ []) = (inserts, deletes, here (Change inserts deletes) []) in
      record {
        base = omega (arith, base);
        asked = record {
          some = subst (λ (rs : List Request). (0 < length rs) × (length rs ≤ 10000)) listed (omega arith, omega arith);
          change = subst HasChange listed change;
          well = subst (λ (t : Theory). All (IsWell t.axioms) parts.recorded) force (subst (All (IsWell theory.axioms)) listed (All-cons (IsWell theory.axioms) (Change inserts deletes) [] well (All-nil (IsWell theory.axioms))));
          known = subst (λ (t : Theory). All (KnowsRequest t) parts.recorded) force (subst (All (KnowsRequest theory)) listed
              (All-cons (KnowsRequest theory) (Change inserts deletes) [] (All-from_recursion (Knows theory) inserts (all_of (Knows theory) inserts ins), All-from_recursion (Knows theory) deletes (all_of (Knows theory) deletes dels)) (All-nil (KnowsRequest theory))));
        };
        taken = (
          version,
          subst (λ (es : List Entry). IsVersion s.facts es version) back stands,
          subst (λ (t : Theory). AreEffects t.axioms version parts.recorded parts.added.items parts.removed.items) force
              (subst (λ (rs : List Request). AreEffects theory.axioms version rs parts.added.items parts.removed.items) listed effects),
        );
      }

module _ (s : Seen) (parts : Parts) (ready : IsReady s parts) where
  abbrev grown : List Entry → List (List Fact) → Seen
  grown more layers = record { opening = s.opening; facts = s.facts; limit = s.limit; entries = s.entries ++ more; layers = layers }

  ready_grown : (more : List Entry) (layers : List (List Fact)) → IsReady (grown more layers) parts
  ready_grown more layers =
      let front : take parts.base s.entries ≡ take parts.base (s.entries ++ more) = sym (take-append-le parts.base s.entries more ready.base) in
      let force : in_force_at s.opening s.entries parts.base ≡ in_force_at s.opening (s.entries ++ more) parts.base = ap (in_force s.opening) front in
      let long = length-append s.entries more in
      record {
        base = (let within = ready.base in omega (arith, within, long));
        asked = record {
          some = ready.asked.some;
          change = ready.asked.change;
          well = subst (λ (t : Theory). All (IsWell t.axioms) parts.recorded) force ready.asked.well;
          known = subst (λ (t : Theory). All (KnowsRequest t) parts.recorded) force ready.asked.known;
        };
        taken = (
          ready.taken.0,
          subst (λ (es : List Entry). IsVersion s.facts es ready.taken.0) front ready.taken.1,
          subst (λ (t : Theory). AreEffects t.axioms ready.taken.0 parts.recorded parts.added.items parts.removed.items) force ready.taken.2,
        );
      }

  ready_next : (e : Entry) (t : Seen) → t.entries ≡ s.entries ++ e ∷ [] → Continues s t → IsReady t parts
  ready_next e t grew h =
      subst (λ (u : Seen). IsReady u parts) (sym (h.3 ∙ ap (λ (es : List Entry). let u : Seen = record { opening = s.opening; facts = s.facts; limit = s.limit; entries = es; layers = t.layers } in u) grew)) (ready_grown (e ∷ []) t.layers)

  -- parts stay ready while another commit is answered
  pub ready_after : (editor : ℕ) (others : Parts) (answer : Published) (t : Seen) → Publishes s editor others answer t → IsReady t parts
  ready_after editor others (published.Committed n) t h = ready_next h.0.4.0 t h.0.4.2 h.1
  ready_after editor others (published.Conflict met entry) t h = subst (λ (u : Seen). IsReady u parts) (sym h.2) ready
  ready_after editor others (published.Full given) t h = subst (λ (u : Seen). IsReady u parts) (sym h.2) ready
  ready_after editor others (published.OutOfMemory given) t h = subst (λ (u : Seen). IsReady u parts) (sym h.2) ready

  -- parts stay ready while a replacement is answered
  pub ready_replaced : (editor : ℕ) (theory : Theory) (answer : Replacing) (t : Seen) → ReplacesBy s editor theory answer t → IsReady t parts
  ready_replaced editor theory (replacing.Replaced n) t h = ready_next h.0.3.0 t h.0.3.2 h.1
  ready_replaced editor theory replacing.Full t h = subst (λ (u : Seen). IsReady u parts) (sym h.1) ready
  ready_replaced editor theory (replacing.Alone f) t h = subst (λ (u : Seen). IsReady u parts) (sym h.1) ready
  ready_replaced editor theory (replacing.Pair f g) t h = subst (λ (u : Seen). IsReady u parts) (sym h.1) ready
  ready_replaced editor theory replacing.OutOfMemory t h = subst (λ (u : Seen). IsReady u parts) (sym h.1) ready
