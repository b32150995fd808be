-- A transaction that isn't stale commits, and the state keeps what it keeps.
use Rattle.std.proofs.Common.{◌≡◌, ◌<◌, ◌≤◌, ◌+◌, ◌++◌, ◌∷◌, ℕ, List, [], None, length, take, refl, sym, ap, subst, arith}
use Rattle.std.specs.Prelude.{All, Contains}
use Rattle.std.proofs.lemmas.List.{length-append}
use Rattle.std.proofs.lemmas.List.Elements.{All-contains}
use Rattle.dl_base.specs.declared.requests.Changed.{Changed}
use Rattle.dl_base.specs.declared.requests.Entry.{Entry}
use Rattle.dl_base.specs.declared.requests.Request.{Request}
use Rattle.dl_base.specs.declared.statements.Fact.{Fact}
use Rattle.dl_base.specs.Clash.{IsConsistent}
use Rattle.dl_base.specs.Changing.{IsChanged, IsTrimmed}
use Rattle.dl_base.specs.Commits.{IsCommit, IsOutcome}
use Rattle.dl_base.specs.Commits as outcome
use Rattle.dl_base.specs.FactOrder.{AreSorted}
use Rattle.dl_base.specs.Histories.{IsLegal, IsVersion, in_force, in_force_at, or_before, own, replacement}
use Rattle.dl_base.specs.Ontologies.{Theory, Knows, KnowsRequest}
use Rattle.dl_base.specs.Picks.{Picks}
use Rattle.dl_base.specs.Staleness.{IsStale}
use Rattle.dl_base.specs.Transactions.{IsChange, IsWell, Runs}
use Rattle.dl_base.proofs.CommitLaws.{legal_after_commit}
use Rattle.dl_base.proofs.HistoryLaws.{legal_is_consistent}
use Rattle.dl_base.proofs.StalenessLaws.{none_replaced, still_in_force}
use Rattle.dl_base.proofs.TransportLaws.{transported}
use Rattle.dl_base.proofs.VersionLaws.{in_order}
use Rattle.dl_laws.proofs.ClashTelling.{told_meets}
use Rattle.dl_laws.proofs.Listing.{entailed, lists_entailed}
use Rattle.serial_history.specs.Marks.{IsMarked}
use Rattle.read_patterns.specs.Effects.{AreEffects}
use Rattle.serial_history.specs.States.{IsKept}
use Rattle.serial_history.proofs.ChangeLaws.{come_is, gone_is, change_is}
use Rattle.serial_history.proofs.FreshLaws.{none_meets}
use Rattle.serial_history.proofs.VersionSteps.{version_push, last_versions_push}

module _ (opening : Theory) (facts : List Fact) (limit : ℕ) (entries : List Entry) (version : List Fact) (layers : List (List Fact)) (kept : IsKept opening facts limit entries version layers)
    (editor base : ℕ) (requests : List Request) (some : (0 < length requests) × (length requests ≤ 10000))
    (well : All (IsWell (in_force_at opening entries base).axioms) requests) (known : All (KnowsRequest (in_force_at opening entries base)) requests)
    (fresh : ¬ IsStale (in_force_at opening entries base).axioms entries base requests) where
  abbrev theory : Theory
  theory = in_force_at opening entries base

  still : theory ≡ in_force opening entries
  still = still_in_force opening entries base (none_replaced theory.axioms entries base requests fresh some.0)

  module _ (put taken come gone : List Fact) (old : List Fact) (at_base : IsVersion facts (take base entries) old) (effects : AreEffects theory.axioms old requests put taken)
      (changed : List Changed) (marked : IsMarked gone come changed) (comes : Picks (λ f. ¬ Contains version f) put come) (goes : Picks (Contains version) taken gone) where
    -- the requests run from the version that stands, and change it so
    pub run_here : (new : List Fact) × (replies : List (List Fact)) × Runs (in_force opening entries).axioms version requests replies new × IsChange version new changed
    run_here =
        let ordered = in_order opening facts entries kept.legal in
        let ontology = subst (λ (t : Theory). Rattle.dl_base.specs.Validity.IsOntology t) (sym still) ordered.0 in
        let moved = transported theory ontology.known (λ f k. (entailed theory.axioms f, lists_entailed theory.axioms f)) requests
        (λ r m. All-contains (IsWell theory.axioms) requests r well m) (λ r m. All-contains (KnowsRequest theory) requests r known m)
        (λ inserts deletes f m w k. told_meets theory.axioms inserts deletes f) old version effects.0 effects.1
        (λ f m. subst (λ (t : Theory). Knows t f) (sym still) (ordered.1 version kept.stands f m))
        (subst (λ (t : Theory). IsConsistent t.axioms version) (sym still) (legal_is_consistent opening facts entries kept.legal version kept.stands))
        (none_meets theory.axioms facts entries base requests some.0 fresh old version at_base kept.stands) effects.2 in
        let change : IsChange version moved.0 changed = record {
          sorted = marked.sorted;
          added = λ f. (
            (λ m. let c = (come_is version put taken come gone changed marked comes goes f).0 m in (moved.4 f).1 ((effects.3.each f).0 c.0, c.1)),
            λ h. let k = (moved.4 f).0 h in (come_is version put taken come gone changed marked comes goes f).1 ((effects.3.each f).1 k.0, k.1),
          );
          removed = λ f. (
            (λ m. let g = (gone_is version put taken come gone changed marked comes goes f).0 m in (moved.5 f).1 ((effects.4.each f).0 g.0, g.1)),
            λ h. let k = (moved.5 f).0 h in (gone_is version put taken come gone changed marked comes goes f).1 ((effects.4.each f).1 k.0, k.1),
          );
        } in (
          moved.0,
          effects.1,
          subst (λ (t : Theory). Runs t.axioms version requests effects.1 moved.0) still moved.1,
          change,
        )

    module _ (e : Entry) (editor_is : e.editor ≡ editor) (number_is : e.number ≡ length (own editor entries)) (requests_are : e.requests ≡ requests) (changed_are : e.changed ≡ changed) (none : e.replaced ≡ None) where
      replaces : replacement e ≡ None
      replaces = ap (Rattle.std.specs.Option.option_map Rattle.std.specs.Arc.arc_value) none

      pub commits : IsCommit opening facts entries editor requests e
      commits = record {
        editor_is = editor_is;
        number_is = number_is;
        requests_are = requests_are;
        replaces = replaces;
        run = (version, run_here.0, run_here.1, kept.stands, run_here.2, subst (IsChange version run_here.0) (sym changed_are) run_here.3);
      }

      module _ (room : length entries < limit) (change : Rattle.dl_base.specs.Histories.HasChange requests) where
        pub committed : IsOutcome opening facts limit entries editor base requests (outcome.Committed (length entries + 1)) (entries ++ e ∷ [])
        committed = (change, room, fresh, refl, (e, commits, refl))

        module _ (next : List Fact) (sorted : AreSorted next) (is : IsChanged version changed next) where
          pub stands_next : IsVersion facts (entries ++ e ∷ []) next
          stands_next = version_push facts entries e version next kept.stands (sorted, subst (IsChange version next) (sym changed_are) (change_is version put taken come gone changed marked comes goes next is))

          pub kept_next : (after : List (List Fact)) → IsTrimmed layers next after → IsKept opening facts limit (entries ++ e ∷ []) next after
          kept_next after trimmed = record {
            legal = legal_after_commit opening facts limit entries editor base requests (outcome.Committed (length entries + 1)) (entries ++ e ∷ []) kept.legal some well known committed;
            within = (let long = length-append entries (e ∷ []) in omega (arith, long, room));
            stands = stands_next;
            layered = last_versions_push facts entries e layers after version next kept.layered kept.stands (sorted, subst (IsChange version next) (sym changed_are) (change_is version put taken come gone changed marked comes goes next is)) trimmed;
          }
