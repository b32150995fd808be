-- One update, begun, changed and committed by the core.
use Rattle.std.proofs.Common.{◌≡◌, ◌↔◌, ◌⊎◌, ℕ, ◌+◌, List, [], ◌∷◌, ◌++◌, length, refl, sym, ◌∙◌, ap, subst, inl, inr, ⊎_elim}
use Rattle.std.specs.Prelude.{All, Ok, Err, Option, Some, None, take}
use Rattle.std.proofs.Math.Seq.{take-length}
use Rattle.dl_base.specs.declared.axioms.Axiom.{Axiom}
use Rattle.dl_base.specs.declared.statements.Fact.{Fact}
use Rattle.dl_base.specs.declared.requests.Changed.{Changed}
use Rattle.dl_base.specs.declared.requests.Entry.{Entry}
use Rattle.dl_base.specs.declared.requests.Request.{Request}
use Rattle.dl_base.specs.declared.requests.Request.TheVariants.{Change, Ask}
use Rattle.dl_base.specs.Commits as outcome
use Rattle.dl_base.specs.FactOrder.{AreSorted}
use Rattle.dl_base.specs.Histories.{IsVersion, in_force, in_force_at, or_before}
use Rattle.dl_base.specs.Ontologies.{Theory, Knows}
use Rattle.dl_base.specs.Transactions.{Runs, done, then, Serves, IsChange}
use Rattle.dl_base.specs.Updates.{Lists, IsStored, IsLost, IsWellFormed}
use Rattle.dl_base.proofs.HistoryLaws.{after_within, in_force_last, version_is_one, version_last}
use Rattle.dl_base.proofs.SameFacts.{same_facts}
use Rattle.transaction.specs.declared.events.Event.TheVariants as event
use Rattle.transaction.specs.declared.events.Reply.{Reply}
use Rattle.transaction.specs.declared.events.Reply.TheVariants as reply
use Rattle.transaction.specs.Worlds.{Begun, State, Has, StepsTo, KnowsEvent, of_editor}
use Rattle.update_engine.specs.declared.judging.IllFormed.{IllFormed}
use Rattle.update_engine.specs.Judging.{IsNamed}
use Rattle.dlupdate.specs.Committing.{Commits, current}

-- the state with this transaction of editor 0 alone
abbrev pub alone : State → List Request → State
alone s requests = record {
  opening = s.opening;
  facts = s.facts;
  limit = s.limit;
  entries = s.entries;
  begun = (let b : Begun = record { editor = 0; base = length s.entries; requests = requests } in b) ∷ [];
}

abbrev one_begun : State → List Request → Begun
one_begun s requests = record { editor = 0; base = length s.entries; requests = requests }

-- an idle core begins
pub begin_is : (s t : State) (r : Reply) → s.begun ≡ [] → StepsTo s (event.Begin 0) r t → t ≡ alone s []
begin_is s t (reply.Begun n) idle h =
    h.2 ∙ (λ i.
    let begun : List Begun = Rattle.transaction.specs.Worlds.with_one (record { editor = 0; base = h.1 i; requests = [] }) (idle i) in
    let it : State = record { opening = s.opening; facts = s.facts; limit = s.limit; entries = s.entries; begun = begun } in it)
begin_is s t reply.AlreadyBegun idle h =
    let none : of_editor 0 s.begun ≡ None = ap (λ (bs : List Begun). of_editor 0 bs) idle in
    let some = h.0.1 in
    absurd (let no : ⊥ = cc in no)
begin_is s t (reply.Answers x) idle h = absurd h
begin_is s t (reply.Lost x) idle h = absurd h
begin_is s t (reply.IllFormed x) idle h = absurd h
begin_is s t reply.TooManyRequests idle h = absurd h
begin_is s t (reply.Committed x) idle h = absurd h
begin_is s t (reply.ReadOnly x) idle h = absurd h
begin_is s t (reply.Conflict x) idle h = absurd h
begin_is s t (reply.HistoryFull x) idle h = absurd h
begin_is s t reply.Aborted idle h = absurd h
begin_is s t reply.NoTransaction idle h = absurd h
begin_is s t (reply.Replaced x) idle h = absurd h
begin_is s t (reply.Alone x) idle h = absurd h
begin_is s t (reply.Pair x y) idle h = absurd h

-- the one transaction
has_one : (s : State) (requests : List Request) (b : Begun) → Has (alone s requests) 0 b → b ≡ one_begun s requests
has_one s requests b h =
    let first : ◌≡◌ {A = Option Begun} (Some (one_begun s requests)) (Some b) = h in
    let same : one_begun s requests ≡ b = cc in
    sym same

-- a run of no request changes nothing
none_runs : (axioms : List Axiom) (old new : List Fact) (requests : List Request) (replies : List (List Fact)) → Runs axioms old requests replies new → requests ≡ [] → new ≡ old
none_runs axioms old new requests replies (done v) e = refl
none_runs axioms old new requests replies (then o m n r rs p ps s rest) e = absurd (let no : ⊥ = cc in no)

-- a run of one change stores what it stores
one_runs : (axioms : List Axiom) (old new inserts deletes : List Fact) (requests : List Request) (replies : List (List Fact)) → Runs axioms old requests replies new → requests ≡ Change inserts deletes ∷ []
    → Lists (IsStored axioms old inserts deletes) new
one_runs axioms old new inserts deletes requests replies (done v) e = absurd (let no : ⊥ = cc in no)
one_runs axioms old new inserts deletes requests replies (then o m n r rs p ps s rest) e =
    let first : r ≡ Change inserts deletes = cc in
    let more : rs ≡ [] = cc in
    let served = subst (λ (q : Request). Serves axioms q o p m) first s in
    subst (Lists (IsStored axioms o inserts deletes)) (sym (none_runs axioms m n rs ps rest more)) served.0

-- two sorted lists of the same facts are one
same_lists : (P : Fact → Type 0) (xs ys : List Fact) → Lists P xs → Lists P ys → xs ≡ ys
same_lists P xs ys h k = same_facts xs ys h.sorted k.sorted (λ f m. (k.each f).1 ((h.each f).0 m)) (λ f m. (h.each f).1 ((k.each f).0 m))

module _ (s : State) (theory : Theory) (force : current s ≡ theory) (stored : List Fact) (stands : IsVersion s.facts s.entries stored) where
  -- the ontology in force at the base of the transaction
  at_base : in_force_at s.opening s.entries (length s.entries) ≡ theory
  at_base = ap (λ (es : List Entry). in_force s.opening es) (take-length s.entries) ∙ force

  -- an ill-formed update is named
  pub names_it : (inserts deletes : List Fact) (name : IllFormed) (t : State) → StepsTo (alone s []) (event.Change 0 inserts deletes) (reply.IllFormed name) t → IsNamed theory.axioms inserts deletes name
  names_it inserts deletes name t h =
      let (b, has, room, named) = h.0 in
      subst (λ (x : Theory). IsNamed x.axioms inserts deletes name) (ap (λ (x : Begun). in_force_at s.opening s.entries x.base) (has_one s [] b has) ∙ at_base) named

  -- what a change of the transaction is answered, and the state behind it
  pub record IsChanged (inserts deletes lost next : List Fact) (t : State) : Type 0 where
    pub well : IsWellFormed theory.axioms inserts deletes
    pub stored_is : Lists (IsStored theory.axioms stored inserts deletes) next
    pub lost_is : Lists (IsLost theory.axioms stored next) lost
    pub state_is : t ≡ alone s (Change inserts deletes ∷ [])

  pub changes_it : (inserts deletes lost : List Fact) (t : State) → StepsTo (alone s []) (event.Change 0 inserts deletes) (reply.Lost lost) t → (next : List Fact) × IsChanged inserts deletes lost next t
  changes_it inserts deletes lost t h =
      let (b, has, room, well, (mid, new, (old, replies, version, run), serves), is) = h in
      let it : b ≡ one_begun s [] = has_one s [] b has in
      let force_is : in_force_at s.opening s.entries b.base ≡ theory = ap (λ (x : Begun). in_force_at s.opening s.entries x.base) it ∙ at_base in
      let at : take b.base s.entries ≡ s.entries = ap (λ (x : Begun). take x.base s.entries) it ∙ take-length s.entries in
      let old_is : old ≡ stored = version_is_one s.facts s.entries old stored (subst (λ (es : List Entry). IsVersion s.facts es old) at version) stands in
      let mid_is : mid ≡ stored = none_runs (in_force_at s.opening s.entries b.base).axioms old mid b.requests replies run (ap (λ (x : Begun). x.requests) it) ∙ old_is in
      let served = subst (λ (m : List Fact). Serves theory.axioms (Change inserts deletes) m lost new) mid_is (subst (λ (x : Theory). Serves x.axioms (Change inserts deletes) mid lost new) force_is serves) in (
        new,
        record {
          well = subst (λ (x : Theory). IsWellFormed x.axioms inserts deletes) force_is well;
          stored_is = served.0;
          lost_is = served.1;
          state_is = is ∙ ap (λ (x : Begun). Rattle.transaction.specs.Worlds.with_begun (alone s []) (Rattle.transaction.specs.Worlds.recorded x (Change inserts deletes))) it;
        },
      )

  -- the commit stores what the change told
  pub commits_it : (inserts deletes next version : List Fact) (n : ℕ) (t : State) → Lists (IsStored theory.axioms stored inserts deletes) next
      → StepsTo (alone s (Change inserts deletes ∷ [])) (event.Commit 0) (reply.Committed n) t → IsVersion t.facts t.entries version → AreSorted version
      → (current t ≡ theory) × (t.begun ≡ []) × (version ≡ next)
  commits_it inserts deletes next version n t stored_is h after sorted =
      let (b, has, (entries, made, is)) = h in
      let it : b ≡ one_begun s (Change inserts deletes ∷ []) = has_one s (Change inserts deletes ∷ []) b has in
      let (change, room, fresh, number, (entry, commit, grown)) = made in
      let (old, new, replies, at, run, changed) = commit.run in
      let old_is : old ≡ stored = version_is_one s.facts s.entries old stored at stands in
      let runs : Lists (IsStored theory.axioms old inserts deletes) new =
      one_runs theory.axioms old new inserts deletes b.requests replies (subst (λ (x : Theory). Runs x.axioms old b.requests replies new) force run) (ap (λ (x : Begun). x.requests) it) in
      let new_is : new ≡ next = same_lists (IsStored theory.axioms stored inserts deletes) new next (subst (λ (o : List Fact). Lists (IsStored theory.axioms o inserts deletes) new) old_is runs) stored_is in
      let all : t.entries ≡ s.entries ++ entry ∷ [] = ap (λ (x : State). x.entries) is ∙ grown in
      let here : IsVersion s.facts (s.entries ++ entry ∷ []) version =
      subst (λ (es : List Entry). IsVersion s.facts es version) all (subst (λ (fs : List Fact). IsVersion fs t.entries version) (ap (λ (x : State). x.facts) is) after) in
      let (before, before_is, is_after) = version_last s.facts s.entries entry version here in
      let before_old : before ≡ old = version_is_one s.facts s.entries before old before_is at in
      let last : IsChange old version entry.changed = subst (λ (o : List Fact). IsChange o version entry.changed) before_old is_after.1 in
      let same : version ≡ new = same_facts version new sorted runs.sorted (after_within old version new entry.changed last changed) (after_within old new version entry.changed changed last) in
      let opens : t.opening ≡ s.opening = ap (λ (x : State). x.opening) is in (
        (λ i. in_force (opens i) (all i)) ∙ in_force_last s.opening s.entries entry ∙ ap (λ o. or_before o (current s)) commit.replaces ∙ force,
        ap (λ (x : State). x.begun) is,
        same ∙ new_is,
      )

-- what the update changes is known under the ontology in force at the base of a transaction that was begun just now
pub known_is : (s t : State) (r : Reply) (inserts deletes : List Fact) → s.begun ≡ [] → StepsTo s (event.Begin 0) r t → All (Knows (current s)) inserts × All (Knows (current s)) deletes → KnowsEvent t (event.Change 0 inserts deletes)
known_is s t r inserts deletes idle h known b has =
    let is = begin_is s t r idle h in
    let it = has_one s [] b (subst (λ (u : State). Has u 0 b) is has) in
    let there : in_force_at t.opening t.entries b.base ≡ current s = (λ i. in_force_at (is i).opening (is i).entries (it i).base) ∙ ap (λ (es : List Entry). in_force s.opening es) (take-length s.entries) in
    subst (λ (x : Theory). All (Knows x) inserts × All (Knows x) deletes) (sym there) known

-- an update that is begun, changed and committed is taken
pub committed_is : (s t u v : State) (r : Reply) (stored version inserts deletes lost : List Fact) (n : ℕ) → s.begun ≡ [] → IsVersion s.facts s.entries stored
    → StepsTo s (event.Begin 0) r t → StepsTo t (event.Change 0 inserts deletes) (reply.Lost lost) u → StepsTo u (event.Commit 0) (reply.Committed n) v → IsVersion v.facts v.entries version → AreSorted version
    → Commits (current s) stored inserts deletes v (Ok lost)
committed_is s t u v r stored version inserts deletes lost n idle stands begins changes commits after sorted =
    let change = subst (λ (x : State). StepsTo x (event.Change 0 inserts deletes) (reply.Lost lost) u) (begin_is s t r idle begins) changes in
    let (next, changed) = changes_it s (current s) refl stored stands inserts deletes lost u change in
    let commit = subst (λ (x : State). StepsTo x (event.Commit 0) (reply.Committed n) v) changed.state_is commits in
    let (force, idle_after, same) = commits_it s (current s) refl stored stands inserts deletes next version n v changed.stored_is commit after sorted in
    (next, (force, idle_after, subst (λ (facts : List Fact). IsVersion v.facts v.entries facts) same after), changed.well, changed.stored_is, changed.lost_is)

-- an update that contradicts itself is named
pub named_is : (s t u v : State) (r : Reply) (stored inserts deletes : List Fact) (name : IllFormed) → s.begun ≡ [] → IsVersion s.facts s.entries stored
    → StepsTo s (event.Begin 0) r t → StepsTo t (event.Change 0 inserts deletes) (reply.IllFormed name) u → Commits (current s) stored inserts deletes v (Err name)
named_is s t u v r stored inserts deletes name idle stands begins changes =
    names_it s (current s) refl stored stands inserts deletes name u (subst (λ (x : State). StepsTo x (event.Change 0 inserts deletes) (reply.IllFormed name) u) (begin_is s t r idle begins) changes)
