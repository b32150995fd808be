-- Updates taken one after another, over plain values.
use Rattle.std.proofs.Common.{◌≡◌, ◌<◌, ◌≤◌, ◌+◌, ◌++◌, ◌∷◌, [], ℕ, suc, List, Option, Some, None, length, drop, get_or, map, refl, sym, ◌∙◌, ap, subst, append_assoc}
use Rattle.std.specs.Prelude.{Contains, IfSome, Result, Ok, Err, String, string_bytes}
use Rattle.std.proofs.lemmas.List.{drop-map, drop_more, drop_all}
use Rattle.dl_base.specs.declared.statements.Fact.{Fact}
use Rattle.dl_base.specs.Clash.{IsConsistent}
use Rattle.dl_base.specs.Ontologies.{Theory}
use Rattle.dl_base.specs.Updates.{Lists, IsStored, IsLost, IsWellFormed}
use Rattle.dl_base.proofs.ClashLaws.{clash_more}
use Rattle.dl_base.specs.declared.axioms.Axiom.{Axiom}
use Rattle.dl_laws.proofs.Stepping.{step_updates}
use Rattle.dl_base.specs.declared.requests.Entry.{Entry}
use Rattle.dl_base.specs.Histories.{IsVersion, in_force}
use Rattle.dl_base.proofs.HistoryLaws.{version_is_one}
use Rattle.loading.specs.declared.opening.Opened.{Opened}
use Rattle.std.specs.Arc.{arc_value}
use Rattle.transaction.specs.Worlds.{State}
use Rattle.update_engine.specs.declared.judging.IllFormed.{IllFormed}
use Rattle.update_read.specs.declared.reading.ReadUpdate.{ReadUpdate}
use Rattle.dlupdate.specs.declared.reports.Report.{Report}
use Rattle.dlupdate.specs.declared.reports.Stop.{Stop}
use Rattle.dlupdate.specs.declared.reports.Stop.TheVariants as stop
use Rattle.dlupdate.specs.Committing.{Commits, StandsAt, current}
use Rattle.dlupdate.specs.Opening.{IsBase}
use Rattle.dlupdate.specs.Following.{IsPart, EndsHere}
use Rattle.dlupdate.specs.Runs.{Contents, GivesUpdate, RefusesUpdate, IsUnread, update_limit, Takes, Follows, FollowsFrom, ends, goes, no_update, ill_formed, IsTold, IsStopped}
use Rattle.dlupdate.specs.Texts as text
use Rattle.dlupdate.proofs.RunLaws.{with_told, stop_more}

module _ (contents : Option Contents) (theory : Theory) (head : ℕ → List ℕ) (base : List Fact) (names : List (List ℕ)) where
  -- whatever the updates to come bring, with what was printed it is what all the updates bring
  abbrev pub SoFar : ℕ → List Fact → List ℕ → Type 0
  SoFar n stored printed = IfSome contents (λ c. (status : ℕ) (rest : List ℕ) → Follows c theory head n stored (drop n names) status rest → Follows c theory head 0 base names status (printed ++ rest))

  pub none_so_far : (stored : List Fact) → stored ≡ base → SoFar 0 stored []
  none_so_far stored e = at contents
    where
      at : (k : Option Contents) → IfSome k (λ c. (status : ℕ) (rest : List ℕ) → Follows c theory head 0 stored names status rest → Follows c theory head 0 base names status rest)
      at None = tt
      at (Some c) = λ status rest f. subst (λ (s : List Fact). Follows c theory head 0 s names status rest) e f

  pub one_more : (n : ℕ) (stored next lost : List Fact) (printed part name : List ℕ) (update : ReadUpdate) → drop n names ≡ name ∷ drop (n + 1) names
      → IfSome contents (λ c. GivesUpdate c theory name update) → Takes theory stored update lost next → part ≡ text.updated (head n) theory update.skipped lost
      → SoFar n stored printed → SoFar (n + 1) next (printed ++ part)
  one_more n stored next lost printed part name update split gives takes is so = at contents gives so
    where
      at : (k : Option Contents) → IfSome k (λ c. GivesUpdate c theory name update)
          → IfSome k (λ c. (status : ℕ) (rest : List ℕ) → Follows c theory head n stored (drop n names) status rest → Follows c theory head 0 base names status (printed ++ rest))
          → IfSome k (λ c. (status : ℕ) (rest : List ℕ) → Follows c theory head (n + 1) next (drop (n + 1) names) status rest → Follows c theory head 0 base names status ((printed ++ part) ++ rest))
      at None g s = tt
      at (Some c) g s = λ status rest f.
          let here : Follows c theory head n stored (name ∷ drop (n + 1) names) status (part ++ rest) =
          goes n stored name (drop (n + 1) names) status (part ++ rest) rest update lost next g takes f (ap (λ (p : List ℕ). p ++ rest) is) in
          subst (λ (p : List ℕ). Follows c theory head 0 base names status p) (sym (append_assoc printed part rest))
          (s status (part ++ rest) (subst (λ (ns : List (List ℕ)). Follows c theory head n stored ns status (part ++ rest)) (sym split) here))

  pub all_done : (n : ℕ) (stored : List Fact) (printed : List ℕ) (report : Report) → drop n names ≡ [] → report.status ≡ 0 → report.text.items ≡ printed ++ text.stored theory stored
      → SoFar n stored printed → IsTold contents (λ c. Follows c theory head 0 base names) report
  all_done n stored printed report none zero is so = at contents so
    where
      at : (k : Option Contents) → IfSome k (λ c. (status : ℕ) (rest : List ℕ) → Follows c theory head n stored (drop n names) status rest → Follows c theory head 0 base names status (printed ++ rest))
          → IfSome k (λ c. Follows c theory head 0 base names report.status report.text.items)
      at None s = tt
      at (Some c) s = subst (λ (p : List ℕ). Follows c theory head 0 base names report.status p) (sym is)
          (s report.status (text.stored theory stored) (subst (λ (ns : List (List ℕ)). Follows c theory head n stored ns report.status (text.stored theory stored)) (sym none)
          (ends n stored report.status (text.stored theory stored) zero refl)))

  pub stopped_here : (n : ℕ) (stored : List Fact) (printed name : List ℕ) (report all : Report) → drop n names ≡ name ∷ drop (n + 1) names
      → EndsHere contents theory head n stored name (stop.Report report) → all.status ≡ report.status → all.text.items ≡ printed ++ report.text.items
      → SoFar n stored printed → IsTold contents (λ c. Follows c theory head 0 base names) all
  stopped_here n stored printed name report all split here same is so = at contents (here (drop (n + 1) names)) so
    where
      at : (k : Option Contents) → IfSome k (λ c. Follows c theory head n stored (name ∷ drop (n + 1) names) report.status report.text.items)
          → IfSome k (λ c. (status : ℕ) (rest : List ℕ) → Follows c theory head n stored (drop n names) status rest → Follows c theory head 0 base names status (printed ++ rest))
          → IfSome k (λ c. Follows c theory head 0 base names all.status all.text.items)
      at None h s = tt
      at (Some c) h s = subst (λ (p : List ℕ). Follows c theory head 0 base names all.status p) (sym is)
          (subst (λ (z : ℕ). Follows c theory head 0 base names z (printed ++ report.text.items)) (sym same)
          (s report.status report.text.items (subst (λ (ns : List (List ℕ)). Follows c theory head n stored ns report.status report.text.items) (sym split) h)))

-- the name at a place, and those behind it
pub name_at : {A : Type 0} (words : List (String A)) (n : ℕ) (word : String A) → n < length words → word ≡ get_or words n word
    → drop n (map string_bytes words) ≡ string_bytes word ∷ drop (n + 1) (map string_bytes words)
name_at words n word within is =
    drop-map string_bytes n words
    ∙ ap (map string_bytes) (drop_more words n word within ∙ ap (λ w. w ∷ drop (n + 1) words) (sym is))
    ∙ ap (λ ns. string_bytes word ∷ ns) (sym (drop-map string_bytes (n + 1) words))

-- fewer facts of a consistent list are consistent
pub consistent_within : (axioms : List Axiom) (fs gs : List Fact) → ((f : Fact) → Contains fs f → Contains gs f) → IsConsistent axioms gs → IsConsistent axioms fs
consistent_within axioms fs gs within h = λ clash. h (clash_more axioms fs gs within clash)

-- what is stored is an update, and consistent
pub takes_is : (theory : Theory) (stored next lost : List Fact) (update : ReadUpdate) → IsConsistent theory.axioms stored → IsWellFormed theory.axioms update.inserts update.deletes
    → Lists (IsStored theory.axioms stored update.inserts update.deletes) next → Lists (IsLost theory.axioms stored next) lost → Takes theory stored update lost next
takes_is theory stored next lost update consistent well stored_is lost_is =
    let (is_update, stays) = step_updates theory.axioms stored update.inserts update.deletes next consistent well stored_is.each in
    record { well_formed = well; stored_is = stored_is; lost_is = lost_is; updates = is_update; consistent = stays }

module _ (contents : Option Contents) (theory : Theory) (head : ℕ → List ℕ) (number : ℕ) (stored : List Fact) (name : List ℕ) (update : ReadUpdate) (s t : State) (inserts deletes : List Fact) (force : current s ≡ theory) (same_inserts : inserts ≡ update.inserts) (same_deletes : deletes ≡ update.deletes) (gives : IfSome contents (λ c. GivesUpdate c theory name update)) where
  -- what is said of the copies is said of the update
  commits_of : (answer : Result (List Fact) IllFormed) → Commits (current s) stored inserts deletes t answer → Commits theory stored update.inserts update.deletes t answer
  commits_of answer h = subst (λ (ds : List Fact). Commits theory stored update.inserts ds t answer) same_deletes (subst (λ (ins : List Fact). Commits theory stored ins deletes t answer) same_inserts (subst (λ (x : Theory). Commits x stored inserts deletes t answer) force h))

  pub part_is : (lost : List Fact) (part : List ℕ) → IsConsistent theory.axioms stored → Commits (current s) stored inserts deletes t (Ok lost) → part ≡ text.updated (head number) theory update.skipped lost
      → IsPart contents theory head number stored name t part
  part_is lost part consistent h printed =
      let (next, stands, well, stored_is, lost_is) = commits_of (Ok lost) h in
      (update, lost, next, gives, takes_is theory stored next lost update consistent well stored_is lost_is, stands, printed)

  pub part_stopped : (ill : IllFormed) (report : Report) → Commits (current s) stored inserts deletes t (Err ill) → report.status ≡ 5 → report.text.items ≡ text.ill_formed theory number update.inserts update.deletes ill
      → EndsHere contents theory head number stored name (stop.Report report)
  part_stopped ill report h five printed = λ names.
      with_told contents (λ c. GivesUpdate c theory name update) (λ c. Follows c theory head number stored (name ∷ names) report.status report.text.items)
      (λ c g. ill_formed number stored name names report.status report.text.items update ill g (commits_of (Err ill) h) five printed) gives

-- a run whose update isn't read ends with it
pub part_unread : (contents : Option Contents) (theory : Theory) (head : ℕ → List ℕ) (number : ℕ) (stored : List Fact) (name : List ℕ) (s : Stop) → IsStopped contents (λ c. IsUnread c name update_limit (RefusesUpdate theory)) s
    → EndsHere contents theory head number stored name s
part_unread contents theory head number stored name s h = λ names.
    stop_more contents (λ c. IsUnread c name update_limit (RefusesUpdate theory)) (λ c. Follows c theory head number stored (name ∷ names)) s (λ c status printed u. no_update number stored name names status printed u) h

-- from the updates to where they came from
pub from_base : (contents : Option Contents) (theory : Theory) (head : ℕ → List ℕ) (facts base : List Fact) (names : List (List ℕ)) (report : Report) → Lists (Contains facts) base
    → IsTold contents (λ c. Follows c theory head 0 base names) report → IsTold contents (λ c. FollowsFrom c theory head facts names) report
from_base contents theory head facts base names report lists h =
    with_told contents (λ c. Follows c theory head 0 base names report.status report.text.items) (λ c. FollowsFrom c theory head facts names report.status report.text.items) (λ c f. (base, lists, f)) h

-- the updates below n were taken, and this was printed
abbrev pub AtUpdate : Option Contents → Theory → (ℕ → List ℕ) → List Fact → List (List ℕ) → State → ℕ → List ℕ → Type 0
AtUpdate contents theory head facts names w n printed = (base stored : List Fact) × Lists (Contains facts) base × StandsAt w theory stored × IsConsistent theory.axioms stored × SoFar contents theory head base names n stored printed

-- before the first update
pub starts_at : (contents : Option Contents) (head : ℕ → List ℕ) (names : List (List ℕ)) (it : Opened) (w : State) (printed : List ℕ) → IsBase it → (w.opening ≡ arc_value it.rules) × Lists (Contains it.facts.items) w.facts
    → (w.entries ≡ []) × (w.begun ≡ []) → printed ≡ [] → AtUpdate contents it.ontology head it.facts.items names w 0 printed
starts_at contents head names it w printed is_base opening nothing none = (
  w.facts,
  w.facts,
  opening.1,
  ((λ i. in_force (opening.0 i) (nothing.0 i)) ∙ is_base.rules, nothing.1, subst (λ (es : List Entry). IsVersion w.facts es w.facts) (sym nothing.0) refl),
  consistent_within it.ontology.axioms w.facts it.facts.items (λ f m. (opening.1.each f).0 m) is_base.consistent,
  subst (λ (p : List ℕ). SoFar contents it.ontology head w.facts names 0 w.facts p) (sym none) (none_so_far contents it.ontology head w.facts names w.facts refl),
)

module _ (contents : Option Contents) (theory : Theory) (head : ℕ → List ℕ) (facts : List Fact) (names : List (List ℕ)) (w : State) (n : ℕ) (printed : List ℕ) (at : AtUpdate contents theory head facts names w n printed) where
  pub idle_at : w.begun ≡ []
  idle_at = let (base, stored, lists, stands, consistent, so) = at in stands.1

  pub force_at : current w ≡ theory
  force_at = let (base, stored, lists, stands, consistent, so) = at in stands.0

  -- one update is taken
  pub goes_on : (name part : List ℕ) (t : State) → drop n names ≡ name ∷ drop (n + 1) names
      → ((stored : List Fact) → StandsAt w theory stored → IsConsistent theory.axioms stored → IsPart contents theory head n stored name t part) → AtUpdate contents theory head facts names t (n + 1) (printed ++ part)
  goes_on name part t split taken =
      let (base, stored, lists, stands, consistent, so) = at in
      let (update, lost, next, gives, takes, after, is) = taken stored stands consistent in
      (base, next, lists, after, takes.consistent, one_more contents theory head base names n stored next lost printed part name update split gives takes is so)

  -- no update is left
  pub ends_at : (version : List Fact) (report : Report) → drop n names ≡ [] → IsVersion w.facts w.entries version → report.status ≡ 0 → report.text.items ≡ printed ++ text.stored theory version
      → IsTold contents (λ c. FollowsFrom c theory head facts names) report
  ends_at version report none is_version zero is =
      let (base, stored, lists, stands, consistent, so) = at in
      let same = version_is_one w.facts w.entries version stored is_version stands.2 in
      from_base contents theory head facts base names report lists
      (all_done contents theory head base names n stored printed report none zero (is ∙ ap (λ (v : List Fact). printed ++ text.stored theory v) same) so)

  -- the next update ends the run
  pub stops_at : (name : List ℕ) (report all : Report) → drop n names ≡ name ∷ drop (n + 1) names → ((stored : List Fact) → StandsAt w theory stored → EndsHere contents theory head n stored name (stop.Report report))
      → all.status ≡ report.status → all.text.items ≡ printed ++ report.text.items → IsTold contents (λ c. FollowsFrom c theory head facts names) all
  stops_at name report all split here same is =
      let (base, stored, lists, stands, consistent, so) = at in
      from_base contents theory head facts base names all lists (stopped_here contents theory head base names n stored printed name report all split (here stored stands) same is so)

-- behind the last name there is none
pub no_name : {A : Type 0} (words : List (String A)) (n : ℕ) → length words ≤ n → drop n (map string_bytes words) ≡ []
no_name words n past = drop-map string_bytes n words ∙ ap (map string_bytes) (drop_all n words past)
