-- A transaction at its begin, and with one request more.
use Rattle.std.proofs.Common.{◌≡◌, ◌<◌, ◌≤◌, ◌+◌, ◌∷◌, ◌++◌, [], List, length, refl, sym, ◌∙◌, ap, subst, arith, ℕ, inl, inr, ⊎_elim}
use Rattle.std.specs.Prelude.{◌↔◌, All, Contains}
use Rattle.std.proofs.lemmas.List.{length-append}
use Rattle.std.proofs.lemmas.List.Elements.{All-nil, All-push}
use Rattle.std.specs.List.Sorted.{IsStrictlySortedBy}
use Rattle.dl_base.specs.declared.patterns.Pattern.{Pattern}
use Rattle.dl_base.specs.declared.requests.Request.{Request}
use Rattle.dl_base.specs.declared.requests.Request.TheVariants.{Change, Ask}
use Rattle.dl_base.specs.declared.statements.Fact.{Fact}
use Rattle.dl_base.specs.Clash.{IsConsistent}
use Rattle.dl_base.specs.FactOrder.{AreSorted}
use Rattle.dl_base.specs.Ontologies.{Theory, Knows, KnowsPattern, KnowsRequest}
use Rattle.dl_base.specs.Transactions as run
use Rattle.dl_base.specs.Transactions.{IsAnswer, IsWell, Runs, Serves, StaysPut, StaysTaken}
use Rattle.dl_base.specs.Updates.{Lists, IsPut, IsRemoved}
use Rattle.dl_base.specs.Validity.{IsOntology}
use Rattle.dl_base.proofs.Members.{nowhere}
use Rattle.dl_base.proofs.RunChanges.{served_known}
use Rattle.fact_delta.specs.Deltas.{Over, standing, without, with_all, moved_over}
use Rattle.transaction.specs.Effects.{IsEffect, IsReplaced}
use Rattle.transaction.specs.declared.effects.Effect.{Effect}
use Rattle.transaction.specs.Serving.{Open, IsOpen, IsServed}
use Rattle.transaction.proofs.EffectLaws.{lists_as}
use Rattle.transaction.proofs.RunEndLaws.{goes_on, stays_put, stays_taken}

-- a base where nothing came and nothing went is what stands
pub standing_base : (d : Over) → d.came ≡ [] → d.went ≡ [] → standing d ≡ d.base
standing_base d c w = ap (λ (cs : List Fact). with_all cs (without d.went d.base)) c ∙ ap (λ (ws : List Fact). without ws d.base) w

none_sorted : AreSorted []
unfolding IsStrictlySortedBy
none_sorted = tt

lists_none : (P : Fact → Type 0) (facts : List Fact) → facts ≡ [] → ((f : Fact) → ¬ P f) → Lists P facts
lists_none P facts e none = record {
  sorted = subst AreSorted (sym e) none_sorted;
  each = λ f. ((λ m. absurd (nowhere f (subst (λ (fs : List Fact). Contains fs f) e m))), λ p. absurd (none f p));
}

-- without requests
pub begun : (theory : Theory) (base put taken : List Fact) → IsOntology theory → IsConsistent theory.axioms base → ((f : Fact) → Contains base f → Knows theory f) → put ≡ [] → taken ≡ []
    → IsOpen theory base [] base put taken
begun theory base put taken ontology consistent known p t = record {
  ontology = ontology;
  few = omega arith;
  known = All-nil (KnowsRequest theory);
  well = All-nil (IsWell theory.axioms);
  makes = record {
    replies = [];
    run = run.done base;
    stays_put = lists_none (StaysPut theory.axioms (run.done base)) put p (λ f n. n);
    stays_taken = lists_none (StaysTaken theory.axioms (run.done base)) taken t (λ f n. n);
  };
  consistent = consistent;
  known_facts = known;
}

-- the same over a version to which nothing came
pub begun_at : (theory : Theory) (d : Over) (version : List Fact) (requests : List Request) (put taken : List Fact) → IsOntology theory → IsConsistent theory.axioms version → ((f : Fact) → Contains version f → Knows theory f)
    → d.base ≡ version → d.came ≡ [] → d.went ≡ [] → requests ≡ [] → put ≡ [] → taken ≡ [] → IsOpen theory d.base requests (standing d) put taken
begun_at theory d version requests put taken ontology consistent known b c w r p t =
    let stands : standing d ≡ version = standing_base d c w ∙ b in
    subst (λ (fs : List Fact). IsOpen theory fs requests (standing d) put taken) (sym b)
    (subst (λ (fs : List Fact). IsOpen theory version requests fs put taken) (sym stands)
    (subst (λ (rs : List Request). IsOpen theory version rs version put taken) (sym r) (begun theory version put taken ontology consistent known p t)))

module _ (theory : Theory) (base : List Fact) (requests : List Request) (stored put taken : List Fact) (so_far : IsOpen theory base requests stored put taken) (room : length requests < 10000) where
  abbrev more : Request → List Request
  more r = requests ++ r ∷ []

  few_more : (r : Request) → length (more r) ≤ 10000
  few_more r = let l : length (more r) ≡ length requests + length (r ∷ []) = length-append requests (r ∷ []) in omega (arith, l, room)

  known_more : (r : Request) → KnowsRequest theory r → All (KnowsRequest theory) (more r)
  known_more r k = All-push (KnowsRequest theory) requests r so_far.known k

  well_more : (r : Request) → IsWell theory.axioms r → All (IsWell theory.axioms) (more r)
  well_more r w = All-push (IsWell theory.axioms) requests r so_far.well w

  module _ (number : ℕ) where
    abbrev seen : Open
    seen = record { ontology = theory; number = number; base = base; requests = requests; stored = stored }

    pub served : (r : Request) (reply new : List Fact) → IsWell theory.axioms r → Serves theory.axioms r stored reply new
        → IsServed seen r reply (record { ontology = theory; number = number; base = base; requests = more r; stored = new })
    served r reply new w s = record {
      room = room;
      ran = (so_far.makes.replies, so_far.makes.run);
      well = w;
      serves = s;
      goes_on = λ replies q. goes_on theory.axioms q r reply new s;
      recorded = refl;
    }

  -- the same of what contracts see
  pub served_as : (number : ℕ) (old : Open) → record { ontology = theory; number = number; base = base; requests = requests; stored = stored } ≡ old → (r : Request) (reply new : List Fact) (recorded : List Request)
      → recorded ≡ more r → IsWell theory.axioms r → Serves theory.axioms r stored reply new → IsServed old r reply (record { ontology = theory; number = number; base = base; requests = recorded; stored = new })
  served_as number old view r reply new recorded e w s =
      subst (λ (o : Open). IsServed o r reply (record { ontology = theory; number = number; base = base; requests = recorded; stored = new })) view
      (subst (λ (rs : List Request). IsServed (seen number) r reply (record { ontology = theory; number = number; base = base; requests = rs; stored = new })) (sym e) (served number r reply new w s))

  -- with an ask more
  pub open_asked : (p : Pattern) (reply : List Fact) → KnowsPattern theory p → Lists (IsAnswer theory.axioms stored p) reply → IsOpen theory base (more (Ask p)) stored put taken
  open_asked p reply k l =
      let s : Serves theory.axioms (Ask p) stored reply stored = (refl, l) in
      let m = so_far.makes in
      record {
        ontology = so_far.ontology;
        few = few_more (Ask p);
        known = known_more (Ask p) k;
        well = well_more (Ask p) tt;
        makes = record {
          replies = m.replies ++ reply ∷ [];
          run = goes_on theory.axioms m.run (Ask p) reply stored s;
          stays_put = lists_as _ _ put (λ f. let h = stays_put theory.axioms f m.run (Ask p) reply stored s in ((λ k. h.1 (inl (k, λ n. n))), λ k. ⊎_elim (λ a. a.0) (λ n. absurd n) (h.0 k))) m.stays_put;
          stays_taken = lists_as _ _ taken (λ f. let h = stays_taken theory.axioms f m.run (Ask p) reply stored s in ((λ k. h.1 (inl (k, λ n. n))), λ k. ⊎_elim (λ a. a.0) (λ n. absurd n) (h.0 k))) m.stays_taken;
        };
        consistent = so_far.consistent;
        known_facts = so_far.known_facts;
      }

  -- with a change more
  module _ (stood : Over) (is : stored ≡ standing stood) (inserts deletes : List Fact) (effect : Effect) (known : All (Knows theory) inserts × All (Knows theory) deletes)
      (e : IsEffect theory.axioms stood put taken inserts deletes effect) where
    abbrev next : List Fact
    next = standing (moved_over stood effect.moved)

    pub serves_change : Serves theory.axioms (Change inserts deletes) stored effect.lost.items next
    serves_change = subst (λ (fs : List Fact). Serves theory.axioms (Change inserts deletes) fs effect.lost.items next) (sym is) (e.stored, e.lost)

    put_at : Lists (IsReplaced put (IsRemoved theory.axioms stored inserts deletes) (IsPut theory.axioms stored inserts deletes)) effect.put.items
    put_at = subst (λ (fs : List Fact). Lists (IsReplaced put (IsRemoved theory.axioms fs inserts deletes) (IsPut theory.axioms fs inserts deletes)) effect.put.items) (sym is) e.put_now

    taken_at : Lists (IsReplaced taken (IsPut theory.axioms stored inserts deletes) (IsRemoved theory.axioms stored inserts deletes)) effect.taken.items
    taken_at = subst (λ (fs : List Fact). Lists (IsReplaced taken (IsPut theory.axioms fs inserts deletes) (IsRemoved theory.axioms fs inserts deletes)) effect.taken.items) (sym is) e.taken_now

    put_so_far : (f : Fact) → IsReplaced put (IsRemoved theory.axioms stored inserts deletes) (IsPut theory.axioms stored inserts deletes) f
        ↔ StaysPut theory.axioms (goes_on theory.axioms so_far.makes.run (Change inserts deletes) effect.lost.items next serves_change) f
    put_so_far f =
        let h = stays_put theory.axioms f so_far.makes.run (Change inserts deletes) effect.lost.items next serves_change in
        let l = so_far.makes.stays_put.each f in (
          (λ k. h.1 (⊎_elim (λ a. inl (l.0 a.0, a.1)) (λ b. inr b) k)),
          λ k. ⊎_elim (λ a. inl (l.1 a.0, a.1)) (λ b. inr b) (h.0 k),
        )

    taken_so_far : (f : Fact) → IsReplaced taken (IsPut theory.axioms stored inserts deletes) (IsRemoved theory.axioms stored inserts deletes) f
        ↔ StaysTaken theory.axioms (goes_on theory.axioms so_far.makes.run (Change inserts deletes) effect.lost.items next serves_change) f
    taken_so_far f =
        let h = stays_taken theory.axioms f so_far.makes.run (Change inserts deletes) effect.lost.items next serves_change in
        let l = so_far.makes.stays_taken.each f in (
          (λ k. h.1 (⊎_elim (λ a. inl (l.0 a.0, a.1)) (λ b. inr b) k)),
          λ k. ⊎_elim (λ a. inl (l.1 a.0, a.1)) (λ b. inr b) (h.0 k),
        )

    pub open_changed : IsOpen theory base (more (Change inserts deletes)) next effect.put.items effect.taken.items
    open_changed = record {
      ontology = so_far.ontology;
      few = few_more (Change inserts deletes);
      known = known_more (Change inserts deletes) known;
      well = well_more (Change inserts deletes) e.well;
      makes = record {
        replies = so_far.makes.replies ++ effect.lost.items ∷ [];
        run = goes_on theory.axioms so_far.makes.run (Change inserts deletes) effect.lost.items next serves_change;
        stays_put = lists_as _ _ effect.put.items put_so_far put_at;
        stays_taken = lists_as _ _ effect.taken.items taken_so_far taken_at;
      };
      consistent = e.consistent;
      known_facts = served_known theory so_far.ontology.known (Change inserts deletes) stored next effect.lost.items known serves_change so_far.known_facts;
    }

-- the effect over equal rules and slices
pub effect_at : (theory : Theory) (stood : Over) (put taken inserts deletes : List Fact) (effect : Effect) (given : Theory) (puts takens : List Fact) → given ≡ theory → puts ≡ put → takens ≡ taken
    → IsEffect given.axioms stood puts takens inserts deletes effect → IsEffect theory.axioms stood put taken inserts deletes effect
effect_at theory stood put taken inserts deletes effect given puts takens t p k e =
    subst (λ (th : Theory). IsEffect th.axioms stood put taken inserts deletes effect) t
    (subst (λ (fs : List Fact). IsEffect given.axioms stood fs taken inserts deletes effect) p (subst (λ (fs : List Fact). IsEffect given.axioms stood puts fs inserts deletes effect) k e))
