-- What the core's events do, over plain values.
use Rattle.std.proofs.Common.{◌≡◌, ℕ, ◌<◌, ◌≤◌, ◌+◌, List, [], ◌∷◌, ◌++◌, Some, None, length, take, refl, sym, ◌∙◌, ap, subst, inl, inr, ⊎_elim, arith}
use Rattle.std.specs.Prelude.{Result, Ok, Err, IfOk, OnErr, map, slice_get, slice_set}
use Rattle.std.specs.List.{remove}
use Rattle.std.proofs.Math.Seq.{take-length}
use Rattle.std.proofs.lemmas.List.{length-append, take-append-le, append-nil}
use Rattle.std.proofs.lemmas.Option.{same_Some, slice_get_within}
use Rattle.dl_base.specs.declared.memory.OutOfMemory.{OutOfMemory}
use Rattle.dl_base.specs.declared.requests.Entry.{Entry}
use Rattle.dl_base.specs.declared.requests.Request.{Request}
use Rattle.dl_base.specs.declared.statements.Fact.{Fact}
use Rattle.dl_base.specs.Commits as outcome
use Rattle.dl_base.specs.Histories.{HasChange, IsVersion, in_force, in_force_at}
use Rattle.dl_base.specs.Ontologies.{Theory, KnowsRequest}
use Rattle.dl_base.specs.Transactions.{IsWell, Runs, Serves}
use Rattle.dl_base.specs.Updates.{IsWellFormed}
use Rattle.dl_base.proofs.Places.{get_cases}
use Rattle.serial_history.specs.Committing.{Continues}
use Rattle.serial_history.specs.States.{Seen}
use Rattle.update_engine.specs.declared.judging.IllFormed.{IllFormed}
use Rattle.update_engine.specs.Judging.{IsNamed}
use Rattle.transaction.specs.Holding.{Held, HoldsAt, IsPlaceOf, ServesAt, BeganIn, AllBeganIn, IsSameOpening, HasOutcome, IsCommitted, PublishesAt, begun_of}
use Rattle.transaction.specs.Serving.{Open, IsServed}
use Rattle.transaction.specs.Worlds.{Begun, State, Has, HasNone, HasOne, HasSpace, StandsAt, IsAnswered, IsFilled, IsIllFormed, Ends, Waits, StepsTo, of_editor, with_one, without, with_begun, recorded, ended, theory_of}
use Rattle.transaction.specs.declared.events.Event.TheVariants as event
use Rattle.transaction.specs.declared.events.Reply.{Reply}
use Rattle.transaction.specs.declared.events.Reply.TheVariants as reply
use Rattle.transaction.proofs.BegunLaws.{held, of_at, with_at, without_at, with_pushed, get_set, get_removed}

-- the core as contracts see it
abbrev pub state_of : Seen → List Held → State
state_of s helds = record { opening = s.opening; facts = s.facts; limit = s.limit; entries = s.entries; begun = map begun_of helds }

-- what began at a version of a history began at one of a longer history
pub began_grown : (s u : Seen) → IsSameOpening s u → (more : List Entry) → u.entries ≡ s.entries ++ more → (o : Open) → BeganIn s o → BeganIn u o
began_grown s u so more grew o b =
    let front : take o.number s.entries ≡ take o.number u.entries = sym (ap (take o.number) grew ∙ take-append-le o.number s.entries more b.base) in
    let long = ap (λ (es : List Entry). length es) grew in
    let sum = length-append s.entries more in
    let base = b.base in
    record {
      base = omega (arith, long, sum, base);
      force = b.force ∙ ap (λ (th : Theory). in_force th (take o.number s.entries)) (sym so.0) ∙ ap (in_force u.opening) front;
      version = subst (λ (fs : List Fact). IsVersion fs (take o.number u.entries) o.base) (sym so.1) (subst (λ (es : List Entry). IsVersion s.facts es o.base) front b.version);
    }

pub all_grown : (s u : Seen) → IsSameOpening s u → (more : List Entry) → u.entries ≡ s.entries ++ more → (helds : List Held) → AllBeganIn s helds → AllBeganIn u helds
all_grown s u so more grew helds began p h e = began_grown s u so more grew h.transaction (began p h e)

pub same_opening : (s u : Seen) → u ≡ s → IsSameOpening s u
same_opening s u e = (ap (λ (x : Seen). x.opening) e, ap (λ (x : Seen). x.facts) e, ap (λ (x : Seen). x.limit) e)

-- a history that goes on has the opening and the limit that it had
pub continued : (s u : Seen) → Continues s u → IsSameOpening s u
continued s u h = (ap (λ (x : Seen). x.opening) h.3, ap (λ (x : Seen). x.facts) h.3, ap (λ (x : Seen). x.limit) h.3)

pub on_err : (r : Result Reply OutOfMemory) (P : Type 0) → P → OnErr r P
on_err (Ok answer) P p = tt
on_err (Err e) P p = p

module _ (s : Seen) (helds : List Held) (began : AllBeganIn s helds) (editor place : ℕ) (is : IsPlaceOf editor helds place) where
  abbrev pub t : Open
  t = is.0.0

  pub at : slice_get helds place ≡ Some (held editor t)
  at = is.0.1

  abbrev pub own : Begun
  own = begun_of (held editor t)

  pub has : Has (state_of s helds) editor own
  has = of_at editor helds place t at is.1

  began_here : BeganIn s t
  began_here = began place (held editor t) at

  force : t.ontology ≡ theory_of (state_of s helds) own
  force = began_here.force

  same : (h : Held) → slice_get helds place ≡ Some h → h ≡ held editor t
  same h e = same_Some h (held editor t) (sym e ∙ at)

  pub same_at : (o : Open) → HoldsAt helds place o → t ≡ o
  same_at o h = sym (ap (λ (x : Held). x.transaction) (same h.0 h.1)) ∙ h.2

  -- what is known of the editor's transaction is known of the one at its place
  pub knows_at : (r : Request) → ((b : Begun) → Has (state_of s helds) editor b → KnowsRequest (theory_of (state_of s helds) b) r) → (h : Held) → slice_get helds place ≡ Some h → KnowsRequest h.transaction.ontology r
  knows_at r known h e = subst (λ (x : Held). KnowsRequest x.transaction.ontology r) (sym (same h e)) (subst (λ (th : Theory). KnowsRequest th r) (sym force) (known own has))

  -- its ontology is the one of its base
  pub rules_at : (o : Open) → HoldsAt helds place o → (b : Begun) → Has (state_of s helds) editor b → o.ontology ≡ theory_of (state_of s helds) b
  rules_at o h b e = ap (λ (x : Open). x.ontology) (sym (same_at o h)) ∙ force ∙ ap (λ (x : Begun). theory_of (state_of s helds) x) (same_Some own b (sym has ∙ e))

  pub not_none : HasNone (state_of s helds) editor → ⊥
  not_none none = let e = sym has ∙ none in cc

  module _ (request : Request) (told : List Fact) (new : List Held) (h : ServesAt helds place request told new) where
    abbrev Served : Held → Type 0
    Served x = IsServed x.transaction request told h.1 × (new ≡ slice_set helds place (record { editor = x.editor; transaction = h.1 }))

    served : Served (held editor t)
    served = subst Served (same h.0 h.2) (h.3, h.4)

    stepped : state_of s new ≡ with_begun (state_of s helds) (recorded own request)
    stepped =
        let begun : map begun_of new ≡ with_one (recorded own request) (map begun_of helds) =
        ap (map begun_of) served.1
        ∙ with_at editor helds place t h.1 at is.1
        ∙ ap (λ (o : Open). with_one (begun_of (held editor o)) (map begun_of helds)) served.0.recorded in
        λ i. record { opening = s.opening; facts = s.facts; limit = s.limit; entries = s.entries; begun = begun i }

    pub answered : IsAnswered (state_of s helds) editor request told (state_of s new)
    answered =
        let ran : Runs (theory_of (state_of s helds) own).axioms t.base t.requests served.0.ran.0 t.stored = subst (λ (th : Theory). Runs th.axioms t.base t.requests served.0.ran.0 t.stored) force served.0.ran.1 in
        let stands : StandsAt (state_of s helds) own t.stored = (t.base, served.0.ran.0, began_here.version, ran) in
        let serves : Serves (theory_of (state_of s helds) own).axioms request t.stored told h.1.stored = subst (λ (th : Theory). Serves th.axioms request t.stored told h.1.stored) force served.0.serves in
        (own, has, served.0.room, subst (λ (th : Theory). IsWell th.axioms request) force served.0.well, (t.stored, h.1.stored, stands, serves), stepped)

    after_began : BeganIn s h.1
    after_began = subst (BeganIn s) (sym served.0.recorded) (record { base = began_here.base; force = began_here.force; version = began_here.version })

    pub began_served : AllBeganIn s new
    began_served p x e = ⊎_elim
        (λ (k : held editor h.1 ≡ x). subst (λ (y : Held). BeganIn s y.transaction) k after_began)
        (λ (k : slice_get helds p ≡ Some x). began p x k)
        (get_set helds place p (held editor h.1) x (subst (λ (hs : List Held). slice_get hs p ≡ Some x) served.1 e))

  pub filled : ((h : Held) → slice_get helds place ≡ Some h → length h.transaction.requests ≡ 10000) → IsFilled (state_of s helds) editor
  filled full = (own, has, full (held editor t) at)

  pub ill_formed : (inserts deletes : List Fact) (name : IllFormed) → ((h : Held) → slice_get helds place ≡ Some h → (length h.transaction.requests < 10000) × IsNamed h.transaction.ontology.axioms inserts deletes name)
      → IsIllFormed (state_of s helds) editor inserts deletes name
  ill_formed inserts deletes name ill =
      let n = ill (held editor t) at in
      (own, has, n.0, subst (λ (th : Theory). IsNamed th.axioms inserts deletes name) force n.1)

  -- there is room for one request more
  pub space : ((h : Held) → slice_get helds place ≡ Some h → length h.transaction.requests < 10000) → HasSpace (state_of s helds) editor (λ b. Unit {0})
  space room = (own, has, room (held editor t) at, tt)

  pub space_for : (inserts deletes : List Fact) → ((h : Held) → slice_get helds place ≡ Some h → (length h.transaction.requests < 10000) × IsWellFormed h.transaction.ontology.axioms inserts deletes)
      → HasSpace (state_of s helds) editor (λ b. IsWellFormed (theory_of (state_of s helds) b).axioms inserts deletes)
  space_for inserts deletes room =
      let n = room (held editor t) at in
      (own, has, n.0, subst (λ (th : Theory). IsWellFormed th.axioms inserts deletes) force n.1)

  pub changing : (o : Open) → HoldsAt helds place o → HasChange o.requests → (b : Begun) × Has (state_of s helds) editor b × HasChange b.requests
  changing o h change = (own, has, subst (λ (x : Open). HasChange x.requests) (sym (same_at o h)) change)

  module _ (u : Seen) (so : IsSameOpening s u) (new : List Held) (gone : new ≡ remove helds place) where
    pub ended_at : state_of u new ≡ ended (state_of s helds) editor u.entries
    ended_at =
        let begun : map begun_of new ≡ without editor (map begun_of helds) = ap (map begun_of) gone ∙ without_at editor helds place t at is.1 in
        λ i. record { opening = so.0 i; facts = so.1 i; limit = so.2 i; entries = u.entries; begun = begun i }

    pub began_removed : AllBeganIn s new
    began_removed p x e = let there = get_removed helds place p x (subst (λ (hs : List Held). slice_get hs p ≡ Some x) gone e) in began there.0 x there.1

  pub aborted : (new : List Held) → new ≡ remove helds place → HasOne (state_of s helds) editor × (state_of s new ≡ ended (state_of s helds) editor s.entries)
  aborted new gone = ((own, has), ended_at s (refl, refl, refl) new gone)

  pub read_only : (o : Open) → HoldsAt helds place o → (HasChange o.requests → ⊥) → (q : Open) → HoldsAt helds place q → (n : ℕ) → n ≡ q.number → (new : List Held) → new ≡ remove helds place
      → Ends (state_of s helds) editor (outcome.ReadOnly n) (state_of s new)
  read_only o h none q k n number new gone =
      let quiet : HasChange t.requests → ⊥ = subst (λ (x : Open). HasChange x.requests → ⊥) (sym (same_at o h)) none in
      let base : n ≡ t.number = number ∙ ap (λ (x : Open). x.number) (sym (same_at q k)) in
      (own, has, (s.entries, (quiet, base, refl), ended_at s (refl, refl, refl) new gone))

  pub full : (o : Open) → HoldsAt helds place o → HasChange o.requests → s.limit ≤ length s.entries → Waits (state_of s helds) editor outcome.HistoryFull (state_of s helds)
  full o h change room = ((own, has, (subst (λ (x : Open). HasChange x.requests) (sym (same_at o h)) change, room, refl)), refl)

  -- a change that is seen at the place is one of what is held there
  pub changes_at : (o : Open) → HoldsAt helds place o → HasChange o.requests → (h : Held) → slice_get helds place ≡ Some h → HasChange h.transaction.requests
  changes_at o k change h e = subst (λ (x : Open). HasChange x.requests) (sym (same_at o k) ∙ ap (λ (x : Held). x.transaction) (sym (same h e))) change

  module _ (u : Seen) (new : List Held) (gone : new ≡ remove helds place) where
    committed_own : (answer : Reply) → PublishesAt s helds place answer u → IsCommitted s editor t answer u
    committed_own answer h = subst (λ (x : Held). IsCommitted s x.editor x.transaction answer u) (same h.0 h.1) h.2

    pub commit_steps : (answer : Reply) → PublishesAt s helds place answer u → StepsTo (state_of s helds) (event.Commit editor) answer (state_of u new)
    commit_steps (reply.Committed n) h =
        let c = committed_own (reply.Committed n) h in
        (own, has, (u.entries, c.0, ended_at u c.1 new gone))
    commit_steps (reply.Conflict met) h =
        let c = committed_own (reply.Conflict met) h in
        (own, has, (u.entries, c.0, ended_at u (same_opening s u c.1) new gone))
    commit_steps _ h = absurd h.2

    pub began_committed : (answer : Reply) → PublishesAt s helds place answer u → AllBeganIn u new
    began_committed (reply.Committed n) h =
        let c = committed_own (reply.Committed n) h in
        all_grown s u c.1 (c.0.4.0 ∷ []) c.0.4.2 new (began_removed s (refl, refl, refl) new gone)
    began_committed (reply.Conflict met) h =
        let c = committed_own (reply.Conflict met) h in
        subst (λ (x : Seen). AllBeganIn x new) (sym c.1) (began_removed s (refl, refl, refl) new gone)
    began_committed _ h = absurd h.2

  -- after a commit or where memory was refused
  module _ (u : Seen) (new : List Held) where
    pub began_after : (r : Result Reply OutOfMemory) → IfOk r (λ answer. PublishesAt s helds place answer u × (new ≡ remove helds place)) → OnErr r ((new ≡ helds) × (u ≡ s)) → AllBeganIn u new
    began_after (Ok answer) ok same = began_committed u new ok.1 answer ok.0
    began_after (Err e) ok same = subst (λ (x : Seen). AllBeganIn x new) (sym same.1) (subst (AllBeganIn s) (sym same.0) began)

    pub stepped_after : (r : Result Reply OutOfMemory) → IfOk r (λ answer. PublishesAt s helds place answer u × (new ≡ remove helds place)) → IfOk r (λ answer. StepsTo (state_of s helds) (event.Commit editor) answer (state_of u new))
    stepped_after (Ok answer) ok = commit_steps u new ok.1 answer ok.0
    stepped_after (Err e) ok = tt

  pub within : place < length helds
  within = slice_get_within helds place (held editor t) at

module _ (s : Seen) (helds : List Held) (began : AllBeganIn s helds) (editor : ℕ) (none : of_editor editor (map begun_of helds) ≡ None) where
  module _ (o : Open) (ontology : o.ontology ≡ in_force s.opening s.entries) (number : o.number ≡ length s.entries) (version : IsVersion s.facts s.entries o.base) (empty : o.requests ≡ [])
      (new : List Held) (pushed : new ≡ helds ++ held editor o ∷ []) where
    pub begins : (n : ℕ) → n ≡ o.number → StepsTo (state_of s helds) (event.Begin editor) (reply.Begun n) (state_of s new)
    begins n e =
        let fresh : Begun = record { editor = editor; base = n; requests = [] } in
        let same : begun_of (held editor o) ≡ fresh = λ i. record { editor = editor; base = (sym e) i; requests = empty i } in
        let begun : map begun_of new ≡ with_one fresh (map begun_of helds) = ap (map begun_of) pushed ∙ with_pushed editor helds o none ∙ ap (λ (b : Begun). with_one b (map begun_of helds)) same in
        (none, e ∙ number, λ i. record { opening = s.opening; facts = s.facts; limit = s.limit; entries = s.entries; begun = begun i })

    whole : s.entries ≡ take o.number s.entries
    whole = sym (ap (λ (n : ℕ). take n s.entries) number ∙ take-length s.entries)

    now : BeganIn s o
    now = record {
      base = omega (arith, number);
      force = ontology ∙ ap (in_force s.opening) whole;
      version = subst (λ (es : List Entry). IsVersion s.facts es o.base) whole version;
    }

    pub began_begun : AllBeganIn s new
    began_begun p x e = ⊎_elim
        (λ (k : slice_get helds p ≡ Some x). began p x k)
        (λ (k : (p ≡ length helds) × (held editor o ≡ x)). subst (λ (y : Held). BeganIn s y.transaction) k.1 now)
        (get_cases helds (held editor o) p x (subst (λ (hs : List Held). slice_get hs p ≡ Some x) pushed e))
