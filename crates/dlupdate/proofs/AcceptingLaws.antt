-- An accepted run is done, unless the outside fails.
use Rattle.std.proofs.Common.{◌≡◌, ◌<◌, ◌≤◌, ◌+◌, ◌++◌, ◌⊎◌, ⊎_elim, ℕ, List, [], ◌∷◌, Option, Some, None, length, refl, sym, ◌∙◌, ap, subst, arith, inl, inr}
use Rattle.std.specs.Prelude.{Contains, Result, Ok, Err, IfSome, codes}
use Rattle.dl_base.specs.declared.axioms.Axiom.{Axiom}
use Rattle.dl_base.specs.declared.statements.Fact.{Fact}
use Rattle.dl_base.specs.Clash.{IsConsistent}
use Rattle.dl_base.specs.Ontologies.{Theory}
use Rattle.dl_base.specs.Repeats.{IsOnce}
use Rattle.dl_base.specs.Updates.{IsWellFormed}
use Rattle.dl_base.proofs.Members.{here, there}
use Rattle.dl_base.proofs.NamingLaws.{alone_is, pair_is}
use Rattle.dl_base.proofs.RepeatsLaws.{once_is_one}
use Rattle.dl_text.specs.declared.kinds.ReadKind.{ReadKind}
use Rattle.dl_text.specs.declared.refusals.ReadRefusal.{ReadRefusal}
use Rattle.dl_text.specs.declared.refusals.ReadRefusal.TheVariants.{Refused, OutOfMemory}
use Rattle.loading.specs.Loading.{Gathers}
use Rattle.ntriples.specs.Files.{Reads as ReadsFacts}
use Rattle.ntriples.specs.declared.files.ReadFacts.{ReadFacts}
use Rattle.ntriples.proofs.ExactFiles as facts_file
use Rattle.owl_read.specs.Documents.{Reads as ReadsOntology}
use Rattle.owl_read.proofs.ExactReading as ontology_file
use Rattle.update_engine.proofs.NameLaws.{named_ill}
use Rattle.update_read.specs.Outcomes.{ReadsUpdate}
use Rattle.update_read.specs.declared.reading.ReadUpdate.{ReadUpdate}
use Rattle.update_read.proofs.ExactText as update_file
use Rattle.dlupdate.specs.Accepting.{OpensWell, AreUpdates, IsAccepted, IsDone, check, apply, script}
use Rattle.dlupdate.specs.Commands.{Command, Check, Apply, Script, Says}
use Rattle.dlupdate.specs.Offline.{IsRun}
use Rattle.dlupdate.specs.Runs.{Contents, Has, IsUnread, missing, too_long, refused, failed, RefusesOntology, RefusesFacts, RefusesUpdate, GivesOntology, GivesUpdate, Opens, Unopened, no_ontology, no_facts, alone, pair, ontology_limit, facts_limit, update_limit, Follows, FollowsFrom, no_head, numbered, ends, no_update, ill_formed, goes, Comes, faulty, unchecked, checks, unapplied, applies, unscripted, scripts}
use Rattle.dlupdate.proofs.WordLaws.{first_of, tail_of, check_apply, check_script, apply_script}

-- the run is done, or the outside failed
abbrev pub DoneOrFailed : ℕ → Type 0
DoneOrFailed status = (status ≡ 0) ⊎ (status ≡ 6)

pub some_is : {A : Type 0} {x y : A} → Some x ≡ Some y → x ≡ y
some_is e = cc

ok_is : {X E : Type 0} {x y : X} → ◌≡◌ {A = Result X E} (Ok x) (Ok y) → x ≡ y
ok_is e = cc

-- words say one command
pub says_one : (words : List (List ℕ)) (c d : Command) → Says words c → Says words d → c ≡ d
says_one words (Check o None) (Check p None) h k = let e : o ∷ [] ≡ p ∷ [] = tail_of (sym h ∙ k) in cc
says_one words (Check o None) (Check p (Some g)) h k = let e : o ∷ [] ≡ p ∷ g ∷ [] = tail_of (sym h ∙ k) in cc
says_one words (Check o (Some f)) (Check p None) h k = let e : o ∷ f ∷ [] ≡ p ∷ [] = tail_of (sym h ∙ k) in cc
says_one words (Check o (Some f)) (Check p (Some g)) h k = let e : o ∷ f ∷ [] ≡ p ∷ g ∷ [] = tail_of (sym h ∙ k) in cc
says_one words (Check o None) (Apply p us) h k = absurd (check_apply (first_of (codes "check") (codes "apply") (o ∷ []) (p ∷ us) (sym h ∙ k.0)))
says_one words (Check o (Some f)) (Apply p us) h k = absurd (check_apply (first_of (codes "check") (codes "apply") (o ∷ f ∷ []) (p ∷ us) (sym h ∙ k.0)))
says_one words (Check o None) (Script p f us) h k = absurd (check_script (first_of (codes "check") (codes "script") (o ∷ []) (p ∷ f ∷ us) (sym h ∙ k.0)))
says_one words (Check o (Some g)) (Script p f us) h k = absurd (check_script (first_of (codes "check") (codes "script") (o ∷ g ∷ []) (p ∷ f ∷ us) (sym h ∙ k.0)))
says_one words (Apply o us) (Check p None) h k = absurd (check_apply (first_of (codes "check") (codes "apply") (p ∷ []) (o ∷ us) (sym k ∙ h.0)))
says_one words (Apply o us) (Check p (Some f)) h k = absurd (check_apply (first_of (codes "check") (codes "apply") (p ∷ f ∷ []) (o ∷ us) (sym k ∙ h.0)))
says_one words (Apply o us) (Apply p ws) h k = let e : o ∷ us ≡ p ∷ ws = tail_of (sym h.0 ∙ k.0) in cc
says_one words (Apply o us) (Script p f ws) h k = absurd (apply_script (first_of (codes "apply") (codes "script") (o ∷ us) (p ∷ f ∷ ws) (sym h.0 ∙ k.0)))
says_one words (Script o f us) (Check p None) h k = absurd (check_script (first_of (codes "check") (codes "script") (p ∷ []) (o ∷ f ∷ us) (sym k ∙ h.0)))
says_one words (Script o f us) (Check p (Some g)) h k = absurd (check_script (first_of (codes "check") (codes "script") (p ∷ g ∷ []) (o ∷ f ∷ us) (sym k ∙ h.0)))
says_one words (Script o f us) (Apply p ws) h k = absurd (apply_script (first_of (codes "apply") (codes "script") (p ∷ ws) (o ∷ f ∷ us) (sym k.0 ∙ h.0)))
says_one words (Script o f us) (Script p g ws) h k = let e : o ∷ f ∷ us ≡ p ∷ g ∷ ws = tail_of (sym h.0 ∙ k.0) in cc

-- a file has one content
pub has_one : (contents : Contents) (name : List ℕ) (limit : ℕ) (bytes others : List ℕ) → Has contents name limit bytes → contents name ≡ Some others → bytes ≡ others
has_one contents name limit bytes others h k = some_is (sym h.0 ∙ k)

-- a file that isn't refused is read, or the outside failed
pub unread_fails : (contents : Contents) (name : List ℕ) (limit : ℕ) (Refuses : List ℕ → ℕ → ReadKind → Type 0) (bytes : List ℕ) (status : ℕ) (printed : List ℕ)
    → Has contents name limit bytes → ((line : ℕ) (kind : ReadKind) → ¬ Refuses bytes line kind) → IsUnread contents name limit Refuses status printed → status ≡ 6
unread_fails contents name limit Refuses bytes status printed h n (missing none three is) = let e : None ≡ Some bytes = sym none ∙ h.0 in cc
unread_fails contents name limit Refuses bytes status printed h n (too_long others some long three is) =
    let e = has_one contents name limit bytes others h some in
    absurd (omega (arith, h.1, subst (λ (bs : List ℕ). limit < length bs) (sym e) long))
unread_fails contents name limit Refuses bytes status printed h n (refused others line kind has refuses three is) =
    absurd (n line kind (subst (λ (bs : List ℕ). Refuses bs line kind) (sym (has_one contents name limit bytes others h has.0)) refuses))
unread_fails contents name limit Refuses bytes status printed h n (failed six is) = six

-- what is read isn't refused, and is read in one way
pub ontology_not_refused : (bytes : List ℕ) (theory : Theory) (facts : List Fact) (skipped line : ℕ) (kind : ReadKind) → ReadsOntology bytes (Ok (theory, facts, skipped)) → ¬ RefusesOntology bytes line kind
ontology_not_refused bytes theory facts skipped line kind h k =
    let e = ontology_file.reads_one bytes (Ok (theory, facts, skipped)) (Err (Refused line kind)) h k (λ f. cc) (λ f. cc) in cc

facts_not_refused : (theory : Theory) (bytes : List ℕ) (found : ReadFacts) (line : ℕ) (kind : ReadKind) → ReadsFacts theory bytes (Ok found) → ¬ RefusesFacts theory bytes line kind
facts_not_refused theory bytes found line kind h k =
    let e = facts_file.reads_one theory bytes (Ok found) (Err (Refused line kind)) h k (λ f. cc) (λ f. cc) in cc

pub update_not_refused : (theory : Theory) (bytes : List ℕ) (update : ReadUpdate) (line : ℕ) (kind : ReadKind) → ReadsUpdate theory bytes (Ok update) → ¬ RefusesUpdate theory bytes line kind
update_not_refused theory bytes update line kind h k =
    let e = update_file.reads_one theory bytes (Ok update) (Err (Refused line kind)) h k (λ f. cc) (λ f. cc) in cc

abbrev pub Read : Type 0
Read = Theory × List Fact × ℕ

pub ontology_one : (contents : Contents) (name : List ℕ) (theory other : Theory) (facts others : List Fact) (skipped skips : ℕ) → GivesOntology contents name theory facts skipped → GivesOntology contents name other others skips
    → ◌≡◌ {A = Read} (theory, facts, skipped) (other, others, skips)
ontology_one contents name theory other facts others skipped skips (bytes, has, reads) (more, hold, read) =
    ok_is (ontology_file.reads_one bytes (Ok (theory, facts, skipped)) (Ok (other, others, skips)) reads
    (subst (λ (bs : List ℕ). ReadsOntology bs (Ok (other, others, skips))) (sym (has_one contents name ontology_limit bytes more has hold.0)) read) (λ f. cc) (λ f. cc))

facts_one : (theory : Theory) (bytes : List ℕ) (found other : ReadFacts) → ReadsFacts theory bytes (Ok found) → ReadsFacts theory bytes (Ok other) → found ≡ other
facts_one theory bytes found other h k = ok_is (facts_file.reads_one theory bytes (Ok found) (Ok other) h k (λ f. cc) (λ f. cc))

pub update_one : (contents : Contents) (theory : Theory) (name : List ℕ) (update other : ReadUpdate) → GivesUpdate contents theory name update → GivesUpdate contents theory name other → update ≡ other
update_one contents theory name update other (bytes, has, reads) (more, hold, read) =
    ok_is (update_file.reads_one theory bytes (Ok update) (Ok other) reads
    (subst (λ (bs : List ℕ). ReadsUpdate theory bs (Ok other)) (sym (has_one contents name update_limit bytes more has hold.0)) read) (λ f. cc) (λ f. cc))

-- what is gathered is one
gathers_one : (theory : Theory) (given : List Fact) (before : ℕ) (bytes : List ℕ) (all others : List Fact) (skipped skips : ℕ) → Gathers theory given before bytes all skipped → Gathers theory given before bytes others skips
    → (all ≡ others) × (skipped ≡ skips)
gathers_one theory given before bytes all others skipped skips (found, reads, once, is) (found', read, once', is') =
    let e = facts_one theory bytes found found' reads read in
    (once_is_one (given ++ found.facts) all others once (subst (λ (f : ReadFacts). IsOnce (given ++ f.facts) others) (sym e) once'), is ∙ ap (λ (f : ReadFacts). before + f.skipped) e ∙ sym is')

-- files open in one way
pub opens_all_one : (contents : Contents) (ontology : List ℕ) (facts : Option (List ℕ)) (theory other : Theory) (all others : List Fact) (skipped skips : ℕ)
    → Opens contents ontology facts theory all skipped → Opens contents ontology facts other others skips → ◌≡◌ {A = Read} (theory, all, skipped) (other, others, skips)
opens_all_one contents ontology None theory other all others skipped skips h k = ontology_one contents ontology theory other all others skipped skips h k
opens_all_one contents ontology (Some name) theory other all others skipped skips (given, before, gives, (bytes, has, gathers)) (given', before', gives', (bytes', has', gathers')) =
    let e = ontology_one contents ontology theory other given given' before before' gives gives' in
    let same = has_one contents name facts_limit bytes bytes' has has'.0 in
    let all_same = gathers_one theory given before bytes all others skipped skips gathers
    (subst (λ (r : Read). Gathers r.0 r.1 r.2 bytes others skips) (sym e) (subst (λ (bs : List ℕ). Gathers other given' before' bs others skips) (sym same) gathers')) in
    λ i. ((e i).0, all_same.0 i, all_same.1 i)

pub opens_one : (contents : Contents) (ontology : List ℕ) (facts : Option (List ℕ)) (theory other : Theory) (all others : List Fact) (skipped skips : ℕ)
    → Opens contents ontology facts theory all skipped → Opens contents ontology facts other others skips → (theory ≡ other) × (all ≡ others)
opens_one contents ontology facts theory other all others skipped skips h k =
    let e = opens_all_one contents ontology facts theory other all others skipped skips h k in (ap (λ (r : Read). r.0) e, ap (λ (r : Read). r.1) e)

pub opens_gives : (contents : Contents) (ontology : List ℕ) (facts : Option (List ℕ)) (theory : Theory) (all : List Fact) (skipped : ℕ) → Opens contents ontology facts theory all skipped
    → (given : List Fact) × (before : ℕ) × GivesOntology contents ontology theory given before
opens_gives contents ontology None theory all skipped h = (all, skipped, h)
opens_gives contents ontology (Some name) theory all skipped (given, before, gives, file) = (given, before, gives)

-- files that open are read, or the outside failed
pub no_facts_fails : (contents : Contents) (ontology name : List ℕ) (facts : Option (List ℕ)) (theory other : Theory) (all given : List Fact) (skipped before status : ℕ) (printed : List ℕ)
    → Opens contents ontology facts theory all skipped → facts ≡ Some name → GivesOntology contents ontology other given before → IsUnread contents name facts_limit (RefusesFacts other) status printed → status ≡ 6
no_facts_fails contents ontology name None theory other all given skipped before status printed h e gives u = let no : None ≡ Some name = e in cc
no_facts_fails contents ontology name (Some name') theory other all given skipped before status printed (given', before', gives', (bytes, has, (found, reads, once, total))) e gives u =
    let same = ontology_one contents ontology theory other given' given before' before gives' gives in
    unread_fails contents name facts_limit (RefusesFacts other) bytes status printed (subst (λ (n : List ℕ). Has contents n facts_limit bytes) (some_is e) has)
    (λ line kind. facts_not_refused other bytes found line kind (subst (λ (r : Read). ReadsFacts r.0 bytes (Ok found)) same reads)) u

module _ (contents : Contents) (ontology : List ℕ) (facts : Option (List ℕ)) (theory : Theory) (all : List Fact) (skipped : ℕ) (opens : Opens contents ontology facts theory all skipped) (consistent : IsConsistent theory.axioms all) where
  consistent_too : (other : Theory) (others : List Fact) (skips : ℕ) → Opens contents ontology facts other others skips → IsConsistent other.axioms others
  consistent_too other others skips h =
      let e = opens_one contents ontology facts theory other all others skipped skips opens h in
      subst (λ (t : Theory). IsConsistent t.axioms others) e.0 (subst (λ (fs : List Fact). IsConsistent theory.axioms fs) e.1 consistent)

  pub unopened_fails : (status : ℕ) (printed : List ℕ) → Unopened contents ontology facts status printed → status ≡ 6
  unopened_fails status printed (no_ontology u) =
      let (given, before, (bytes, has, reads)) = opens_gives contents ontology facts theory all skipped opens in
      unread_fails contents ontology ontology_limit RefusesOntology bytes status printed has (λ line kind. ontology_not_refused bytes theory given before line kind reads) u
  unopened_fails status printed (no_facts name other given before is gives u) =
      no_facts_fails contents ontology name facts theory other all given skipped before status printed opens is gives u
  unopened_fails status printed (alone other others skips f h (i, is, named) four text) =
      absurd (consistent_too other others skips h (alone_is other.axioms others i named.here))
  unopened_fails status printed (pair other others skips f g h (i, j, is, is', named) four text) =
      absurd (consistent_too other others skips h (pair_is other.axioms others i j named.here))

-- updates that are read and don't contradict themselves are all taken, or the outside failed
follows_done : (contents : Contents) (theory : Theory) (head : ℕ → List ℕ) (n : ℕ) (stored : List Fact) (names : List (List ℕ)) (status : ℕ) (printed : List ℕ)
    → AreUpdates contents theory names → Follows contents theory head n stored names status printed → DoneOrFailed status
follows_done contents theory head n stored names status printed are (ends n' stored' status' printed' zero is) = inl zero
follows_done contents theory head n stored names status printed are (no_update n' stored' name rest status' printed' u) =
    let (update, (bytes, has, reads), well) = are name (here name rest) in
    inr (unread_fails contents name update_limit (RefusesUpdate theory) bytes status printed has (λ line kind. update_not_refused theory bytes update line kind reads) u)
follows_done contents theory head n stored names status printed are (ill_formed n' stored' name rest status' printed' update ill gives named five is) =
    let (other, gives', well) = are name (here name rest) in
    let e = update_one contents theory name other update gives' gives in
    absurd (subst (λ (u : ReadUpdate). IsWellFormed theory.axioms u.inserts u.deletes) e well (named_ill theory.axioms update.inserts update.deletes ill named))
follows_done contents theory head n stored names status printed are (goes n' stored' name rest status' printed' later update lost next gives takes follows is) =
    follows_done contents theory head (n + 1) next rest status later (λ other among. are other (there name rest other among)) follows

-- which run the words ask for: its ontology, its facts, and its updates
pub record Asked : Type 0 where
  pub ontology : List ℕ
  pub facts : Option (List ℕ)
  pub updates : List (List ℕ)

abbrev pub asked : Command → Asked
asked (Check o f) = record { ontology = o; facts = f; updates = [] }
asked (Apply o us) = record { ontology = o; facts = None; updates = us }
asked (Script o f us) = record { ontology = o; facts = Some f; updates = us }

-- what the words ask for is read, consistent and well-formed
abbrev IsWellAsked : Contents → Asked → Type 0
IsWellAsked contents a = (theory : Theory) × OpensWell contents a.ontology a.facts theory × AreUpdates contents theory a.updates

no_updates : (contents : Contents) (theory : Theory) → AreUpdates contents theory []
no_updates contents theory name (k, within, is) = absurd (omega (arith, within))

accepted_asks : (contents : Contents) (words : List (List ℕ)) → IsAccepted contents words → (c : Command) × Says words c × IsWellAsked contents (asked c)
accepted_asks contents words (check o f theory says opens) = (Check o f, says, (theory, opens, no_updates contents theory))
accepted_asks contents words (apply o us theory says opens are) = (Apply o us, says, (theory, opens, are))
accepted_asks contents words (script o f us theory says opens are) = (Script o f us, says, (theory, opens, are))

-- the files of a run are open, or the outside failed
open_fails : (contents : Contents) (a : Asked) (status : ℕ) (printed : List ℕ) → IsWellAsked contents a → Unopened contents a.ontology a.facts status printed → DoneOrFailed status
open_fails contents a status printed (theory, (all, skipped, opens, consistent), are) u = inr (unopened_fails contents a.ontology a.facts theory all skipped opens consistent status printed u)

-- its updates are taken, or the outside failed
asked_follows : (contents : Contents) (a : Asked) (other : Theory) (others : List Fact) (skips : ℕ) (head : ℕ → List ℕ) (status : ℕ) (printed : List ℕ)
    → IsWellAsked contents a → Opens contents a.ontology a.facts other others skips → FollowsFrom contents other head others a.updates status printed → DoneOrFailed status
asked_follows contents a other others skips head status printed (theory, (all, skipped, opens, consistent), are) opens' (base, lists, follows) =
    let e = opens_one contents a.ontology a.facts theory other all others skipped skips opens opens' in
    follows_done contents other head 0 base a.updates status printed (subst (λ (t : Theory). AreUpdates contents t a.updates) e.0 are) follows

-- an accepted run is done, or the outside failed
pub accepted_done : (contents : Contents) (words : List (List ℕ)) (status : ℕ) (printed : List ℕ) → IsAccepted contents words → Comes contents words status printed → DoneOrFailed status
accepted_done contents words status printed accepted comes = by_command (accepted_asks contents words accepted) comes
  where
    asks : (c d : Command) → Says words c → Says words d → IsWellAsked contents (asked c) → IsWellAsked contents (asked d)
    asks c d h k w = subst (λ (e : Command). IsWellAsked contents (asked e)) (says_one words c d h k) w

    by_command : (c : Command) × Says words c × IsWellAsked contents (asked c) → Comes contents words status printed → DoneOrFailed status
    by_command (c, says, well) (faulty none two is) = absurd (none c says)
    by_command (c, says, well) (unchecked o f said u) = open_fails contents (asked (Check o f)) status printed (asks c (Check o f) says said well) u
    by_command (c, says, well) (checks o f theory all skipped said opens consistent zero is) = inl zero
    by_command (c, says, well) (unapplied o us said u) = open_fails contents (asked (Apply o us)) status printed (asks c (Apply o us) says said well) u
    by_command (c, says, well) (applies o us theory all skipped said opens consistent follows) =
        asked_follows contents (asked (Apply o us)) theory all skipped no_head status printed (asks c (Apply o us) says said well) opens follows
    by_command (c, says, well) (unscripted o f us said u) = open_fails contents (asked (Script o f us)) status printed (asks c (Script o f us) says said well) u
    by_command (c, says, well) (scripts o f us theory all skipped said opens consistent follows) =
        asked_follows contents (asked (Script o f us)) theory all skipped numbered status printed (asks c (Script o f us) says said well) opens follows

-- and so is what the program does with it
pub run_done : (contents : Option Contents) (files_rose out_rose : Type 0) (words : List (List ℕ)) (old new : Option (List ℕ)) (status : ℕ)
    → IsRun contents files_rose out_rose words old new status → IsDone contents files_rose out_rose words status
run_done contents files_rose out_rose words old new status (inl (report, (told, fails), is, appends)) c some accepted fine well =
    ⊎_elim (λ zero. inl (is ∙ zero)) (λ six. absurd (fine (fails six)))
    (accepted_done c words report.status report.text.items accepted (subst (λ (k : Option Contents). IfSome k (λ d. Comes d words report.status report.text.items)) some told))
run_done contents files_rose out_rose words old new status (inr (inl (seven, rose, front))) c some accepted fine well = absurd (well rose)
run_done contents files_rose out_rose words old new status (inr (inr (eight, front))) c some accepted fine well = inr eight
