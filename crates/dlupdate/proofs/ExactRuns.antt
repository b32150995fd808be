-- A run comes to one status and one text, unless a file can't be read.
use Rattle.std.proofs.Common.{◌≡◌, ◌<◌, ◌≤◌, ◌+◌, ◌++◌, ◌⊎◌, ⊎_elim, ℕ, List, [], ◌∷◌, Option, Some, None, length, refl, sym, ◌∙◌, ap, subst, arith, inl, inr}
use Rattle.std.specs.Prelude.{Contains, Result, Ok, Err, codes, slice_get}
use Rattle.dl_base.specs.declared.axioms.Axiom.{Axiom}
use Rattle.dl_base.specs.declared.statements.Fact.{Fact}
use Rattle.dl_base.specs.Clash.{IsConsistent}
use Rattle.dl_base.specs.IllFormed.{NamesAlone, NamesPair}
use Rattle.dl_base.specs.Ontologies.{Theory}
use Rattle.dl_base.specs.Updates.{Lists, IsStored, IsLost, IsWellFormed}
use Rattle.dl_base.proofs.SameFacts.{same_facts}
use Rattle.dl_text.specs.declared.kinds.ReadKind.{ReadKind}
use Rattle.dl_text.specs.declared.refusals.ReadRefusal.{ReadRefusal}
use Rattle.dl_text.specs.declared.refusals.ReadRefusal.TheVariants.{Refused, OutOfMemory}
use Rattle.loading.specs.Loading.{Contradicts, Gathers}
use Rattle.loading.specs.declared.refusals.LoadRefusal.TheVariants as refusal
use Rattle.ntriples.proofs.ExactFiles as facts_file
use Rattle.owl_read.proofs.ExactReading as ontology_file
use Rattle.update_engine.specs.declared.clashes.Clash.TheVariants as clash
use Rattle.update_engine.specs.declared.judging.IllFormed.{IllFormed}
use Rattle.update_engine.specs.Judging.{IsNamed}
use Rattle.update_engine.proofs.NameLaws.{named_ill, one_clash, one_name}
use Rattle.update_read.specs.declared.reading.ReadUpdate.{ReadUpdate}
use Rattle.update_read.proofs.ExactText as update_file
use Rattle.dlupdate.specs.Commands.{Command, Check, Apply, Script, Says}
use Rattle.dlupdate.specs.Runs.{Contents, Has, IsUnread, missing, too_long, refused, failed, RefusesOntology, RefusesFacts, RefusesUpdate, GivesOntology, GivesUpdate, Opens, Unopened, no_ontology, no_facts, alone, pair, ontology_limit, facts_limit, update_limit, Takes, Follows, FollowsFrom, no_head, numbered, ends, no_update, ill_formed, goes, Comes, faulty, unchecked, checks, unapplied, applies, unscripted, scripts}
use Rattle.dlupdate.specs.Texts as text
use Rattle.dlupdate.proofs.AcceptingLaws.{says_one, has_one, some_is, unread_fails, no_facts_fails, ontology_not_refused, update_not_refused, ontology_one, update_one, opens_one, opens_all_one, opens_gives, unopened_fails, Asked, asked, Read}
use Rattle.dlupdate.proofs.WordLaws.{first_of, tail_of}

-- the answers are one, or a file of one of the runs couldn't be read
abbrev pub SameOrFailed : ℕ → List ℕ → ℕ → List ℕ → Type 0
SameOrFailed s p t q = (s ≡ 6) ⊎ ((t ≡ 6) ⊎ ((s ≡ t) × (p ≡ q)))

same : (s : ℕ) (p : List ℕ) (t : ℕ) (q : List ℕ) (z : ℕ) (r : List ℕ) → s ≡ z → p ≡ r → t ≡ z → q ≡ r → SameOrFailed s p t q
same s p t q z r a b c d = inr (inr (a ∙ sym c, b ∙ sym d))

-- a reader refuses a text in one way
abbrev RefusesOnce : (List ℕ → ℕ → ReadKind → Type 0) → Type 0
RefusesOnce Refuses = (bytes : List ℕ) (l m : ℕ) (k j : ReadKind) → Refuses bytes l k → Refuses bytes m j → (l ≡ m) × (k ≡ j)

err_is : {X : Type 0} (l m : ℕ) (k j : ReadKind) → ◌≡◌ {A = Result X ReadRefusal} (Err (Refused l k)) (Err (Refused m j)) → (l ≡ m) × (k ≡ j)
err_is l m k j e = let same : Refused l k ≡ Refused m j = cc in (cc, cc)

ontology_refused_once : RefusesOnce RefusesOntology
ontology_refused_once bytes l m k j h g = err_is l m k j (ontology_file.reads_one bytes (Err (Refused l k)) (Err (Refused m j)) h g (λ f. cc) (λ f. cc))

facts_refused_once : (theory : Theory) → RefusesOnce (RefusesFacts theory)
facts_refused_once theory bytes l m k j h g = err_is l m k j (facts_file.reads_one theory bytes (Err (Refused l k)) (Err (Refused m j)) h g (λ f. cc) (λ f. cc))

update_refused_once : (theory : Theory) → RefusesOnce (RefusesUpdate theory)
update_refused_once theory bytes l m k j h g = err_is l m k j (update_file.reads_one theory bytes (Err (Refused l k)) (Err (Refused m j)) h g (λ f. cc) (λ f. cc))

no_content : (contents : Contents) (name bytes : List ℕ) → contents name ≡ None → contents name ≡ Some bytes → ⊥
no_content contents name bytes none some = let e : None ≡ Some bytes = sym none ∙ some in cc

module _ (contents : Contents) (name : List ℕ) (limit : ℕ) (Refuses : List ℕ → ℕ → ReadKind → Type 0) (one : RefusesOnce Refuses) where
  refused_and_long : (bytes others : List ℕ) → Has contents name limit bytes → contents name ≡ Some others → limit < length others → ⊥
  refused_and_long bytes others has some long = omega (arith, has.1, subst (λ (bs : List ℕ). limit < length bs) (sym (has_one contents name limit bytes others has some)) long)

  -- a file isn't read in one way
  unread_one : (s : ℕ) (p : List ℕ) (t : ℕ) (q : List ℕ) → IsUnread contents name limit Refuses s p → IsUnread contents name limit Refuses t q → SameOrFailed s p t q
  unread_one s p t q (failed six is) v = inl six
  unread_one s p t q (missing none a b) (failed six is) = inr (inl six)
  unread_one s p t q (too_long bytes some long a b) (failed six is) = inr (inl six)
  unread_one s p t q (refused bytes line kind has refuses a b) (failed six is) = inr (inl six)
  unread_one s p t q (missing none a b) (missing none' c d) = same s p t q 3 (text.missing name) a b c d
  unread_one s p t q (missing none a b) (too_long others some' long' c d) = absurd (no_content contents name others none some')
  unread_one s p t q (missing none a b) (refused others line' kind' has' refuses' c d) = absurd (no_content contents name others none has'.0)
  unread_one s p t q (too_long bytes some long a b) (missing none' c d) = absurd (no_content contents name bytes none' some)
  unread_one s p t q (too_long bytes some long a b) (too_long others some' long' c d) = same s p t q 3 (text.too_long name) a b c d
  unread_one s p t q (too_long bytes some long a b) (refused others line' kind' has' refuses' c d) = absurd (refused_and_long others bytes has' some long)
  unread_one s p t q (refused bytes line kind has refuses a b) (missing none' c d) = absurd (no_content contents name bytes none' has.0)
  unread_one s p t q (refused bytes line kind has refuses a b) (too_long others some' long' c d) = absurd (refused_and_long bytes others has some' long')
  unread_one s p t q (refused bytes line kind has refuses a b) (refused others line' kind' has' refuses' c d) =
      let e = has_one contents name limit bytes others has has'.0 in
      let r = one bytes line line' kind kind' refuses (subst (λ (bs : List ℕ). Refuses bs line' kind') (sym e) refuses') in
      same s p t q 3 (text.refused name line kind) a b c (d ∙ sym (ap (λ (l : ℕ). text.refused name l kind) r.0 ∙ ap (λ (k : ReadKind). text.refused name line' k) r.1))

-- opening facts contradict the axioms in one way
contradicts_alone : (axioms : List Axiom) (facts : List Fact) (f g : Fact) → Contradicts axioms facts (refusal.Alone f) → Contradicts axioms facts (refusal.Alone g) → f ≡ g
contradicts_alone axioms facts f g (i, at, named) (j, here, other) =
    let e : clash.Alone i ≡ clash.Alone j = one_clash axioms facts (clash.Alone i) (clash.Alone j) named other in
    let d : i ≡ j = cc in
    some_is (sym at ∙ ap (slice_get facts) d ∙ here)

contradicts_pair : (axioms : List Axiom) (facts : List Fact) (f g h k : Fact) → Contradicts axioms facts (refusal.Pair f g) → Contradicts axioms facts (refusal.Pair h k) → (f ≡ h) × (g ≡ k)
contradicts_pair axioms facts f g h k (i, j, at, behind, named) (l, m, here, there, other) =
    let e : clash.Pair i j ≡ clash.Pair l m = one_clash axioms facts (clash.Pair i j) (clash.Pair l m) named other in
    let d : i ≡ l = cc in
    let c : j ≡ m = cc in
    (some_is (sym at ∙ ap (slice_get facts) d ∙ here), some_is (sym behind ∙ ap (slice_get facts) c ∙ there))

contradicts_both : (axioms : List Axiom) (facts : List Fact) (f h k : Fact) → Contradicts axioms facts (refusal.Alone f) → Contradicts axioms facts (refusal.Pair h k) → ⊥
contradicts_both axioms facts f h k (i, at, named) (l, m, here, there, other) =
    let e : clash.Alone i ≡ clash.Pair l m = one_clash axioms facts (clash.Alone i) (clash.Pair l m) named other in cc

module _ (contents : Contents) (ontology : List ℕ) (facts : Option (List ℕ)) where
  -- an ontology that is read isn't unread, and so are facts
  read_ontology_fails : (theory : Theory) (all : List Fact) (skipped s : ℕ) (p : List ℕ) → Opens contents ontology facts theory all skipped → IsUnread contents ontology ontology_limit RefusesOntology s p → s ≡ 6
  read_ontology_fails theory all skipped s p opens u =
      let (given, before, (bytes, has, reads)) = opens_gives contents ontology facts theory all skipped opens in
      unread_fails contents ontology ontology_limit RefusesOntology bytes s p has (λ line kind. ontology_not_refused bytes theory given before line kind reads) u

  given_ontology_fails : (theory : Theory) (given : List Fact) (before s : ℕ) (p : List ℕ) → GivesOntology contents ontology theory given before → IsUnread contents ontology ontology_limit RefusesOntology s p → s ≡ 6
  given_ontology_fails theory given before s p (bytes, has, reads) u =
      unread_fails contents ontology ontology_limit RefusesOntology bytes s p has (λ line kind. ontology_not_refused bytes theory given before line kind reads) u

  contradicts_as : (theory other : Theory) (all others : List Fact) (r : Rattle.loading.specs.declared.refusals.LoadRefusal.LoadRefusal) → (theory ≡ other) × (all ≡ others) → Contradicts other.axioms others r → Contradicts theory.axioms all r
  contradicts_as theory other all others r e h = subst (λ (t : Theory). Contradicts t.axioms all r) (sym e.0) (subst (λ (fs : List Fact). Contradicts other.axioms fs r) (sym e.1) h)

  -- a run ends before its facts are open in one way
  unopened_one : (s : ℕ) (p : List ℕ) (t : ℕ) (q : List ℕ) → Unopened contents ontology facts s p → Unopened contents ontology facts t q → SameOrFailed s p t q
  unopened_one s p t q (no_ontology u) (no_ontology v) = unread_one contents ontology ontology_limit RefusesOntology ontology_refused_once s p t q u v
  unopened_one s p t q (no_ontology u) (no_facts name theory given before is gives v) = inl (given_ontology_fails theory given before s p gives u)
  unopened_one s p t q (no_ontology u) (alone theory all skipped f opens c four d) = inl (read_ontology_fails theory all skipped s p opens u)
  unopened_one s p t q (no_ontology u) (pair theory all skipped f g opens c four d) = inl (read_ontology_fails theory all skipped s p opens u)
  unopened_one s p t q (no_facts name theory given before is gives u) (no_ontology v) = inr (inl (given_ontology_fails theory given before t q gives v))
  unopened_one s p t q (no_facts name theory given before is gives u) (no_facts name' theory' given' before' is' gives' v) =
      let e = ontology_one contents ontology theory' theory given' given before' before gives' gives in
      let n : name' ≡ name = some_is (sym is' ∙ is) in
      unread_one contents name facts_limit (RefusesFacts theory) (facts_refused_once theory) s p t q u
      (subst (λ (r : Read). IsUnread contents name facts_limit (RefusesFacts r.0) t q) e (subst (λ (m : List ℕ). IsUnread contents m facts_limit (RefusesFacts theory') t q) n v))
  unopened_one s p t q (no_facts name theory given before is gives u) (alone theory' all skipped f opens c four d) =
      inl (no_facts_fails contents ontology name facts theory' theory all given skipped before s p opens is gives u)
  unopened_one s p t q (no_facts name theory given before is gives u) (pair theory' all skipped f g opens c four d) =
      inl (no_facts_fails contents ontology name facts theory' theory all given skipped before s p opens is gives u)
  unopened_one s p t q (alone theory all skipped f opens c four d) (no_ontology v) = inr (inl (read_ontology_fails theory all skipped t q opens v))
  unopened_one s p t q (alone theory all skipped f opens c four d) (no_facts name theory' given before is gives v) =
      inr (inl (no_facts_fails contents ontology name facts theory theory' all given skipped before t q opens is gives v))
  unopened_one s p t q (alone theory all skipped f opens c four d) (alone theory' others skips g opens' c' four' d') =
      let e = opens_one contents ontology facts theory theory' all others skipped skips opens opens' in
      let i = contradicts_alone theory.axioms all f g c (contradicts_as theory theory' all others (refusal.Alone g) e c') in
      same s p t q 4 (text.contradiction theory (refusal.Alone f)) four d four'
      (d' ∙ sym (ap (λ (h : Fact). text.contradiction theory (refusal.Alone h)) i ∙ ap (λ (x : Theory). text.contradiction x (refusal.Alone g)) e.0))
  unopened_one s p t q (alone theory all skipped f opens c four d) (pair theory' others skips h k opens' c' four' d') =
      let e = opens_one contents ontology facts theory theory' all others skipped skips opens opens' in
      absurd (contradicts_both theory.axioms all f h k c (contradicts_as theory theory' all others (refusal.Pair h k) e c'))
  unopened_one s p t q (pair theory all skipped f g opens c four d) (no_ontology v) = inr (inl (read_ontology_fails theory all skipped t q opens v))
  unopened_one s p t q (pair theory all skipped f g opens c four d) (no_facts name theory' given before is gives v) =
      inr (inl (no_facts_fails contents ontology name facts theory theory' all given skipped before t q opens is gives v))
  unopened_one s p t q (pair theory all skipped f g opens c four d) (alone theory' others skips h opens' c' four' d') =
      let e = opens_one contents ontology facts theory' theory others all skips skipped opens' opens in
      absurd (contradicts_both theory'.axioms others h f g c' (contradicts_as theory' theory others all (refusal.Pair f g) e c))
  unopened_one s p t q (pair theory all skipped f g opens c four d) (pair theory' others skips h k opens' c' four' d') =
      let e = opens_one contents ontology facts theory theory' all others skipped skips opens opens' in
      let i = contradicts_pair theory.axioms all f g h k c (contradicts_as theory theory' all others (refusal.Pair h k) e c') in
      same s p t q 4 (text.contradiction theory (refusal.Pair f g)) four d four'
      (d' ∙ sym (ap (λ (x : Fact). text.contradiction theory (refusal.Pair x g)) i.0 ∙ ap (λ (x : Fact). text.contradiction theory (refusal.Pair h x)) i.1 ∙ ap (λ (x : Theory). text.contradiction x (refusal.Pair h k)) e.0))

-- a list of what P holds of is one
lists_one : (P : Fact → Type 0) (fs gs : List Fact) → Lists P fs → Lists P gs → fs ≡ gs
lists_one P fs gs a b = same_facts fs gs a.sorted b.sorted (λ f m. (b.each f).1 ((a.each f).0 m)) (λ f m. (a.each f).1 ((b.each f).0 m))

-- an update is taken in one way
takes_one : (theory : Theory) (stored : List Fact) (update : ReadUpdate) (lost next losses others : List Fact) → Takes theory stored update lost next → Takes theory stored update losses others → (lost ≡ losses) × (next ≡ others)
takes_one theory stored update lost next losses others a b =
    let e = lists_one (IsStored theory.axioms stored update.inserts update.deletes) next others a.stored_is b.stored_is in
    (lists_one (IsLost theory.axioms stored next) lost losses a.lost_is (subst (λ (ns : List Fact). Lists (IsLost theory.axioms stored ns) losses) (sym e) b.lost_is), e)

module _ (contents : Contents) (theory : Theory) (head : ℕ → List ℕ) where
  given_update_fails : (name : List ℕ) (update : ReadUpdate) (s : ℕ) (p : List ℕ) → GivesUpdate contents theory name update → IsUnread contents name update_limit (RefusesUpdate theory) s p → s ≡ 6
  given_update_fails name update s p (bytes, has, reads) u =
      unread_fails contents name update_limit (RefusesUpdate theory) bytes s p has (λ line kind. update_not_refused theory bytes update line kind reads) u

  well_and_ill : (name : List ℕ) (update other : ReadUpdate) (one : IllFormed) → GivesUpdate contents theory name update → GivesUpdate contents theory name other → IsWellFormed theory.axioms update.inserts update.deletes
      → IsNamed theory.axioms other.inserts other.deletes one → ⊥
  well_and_ill name update other one gives gives' well named =
      let e = update_one contents theory name update other gives gives' in
      subst (λ (u : ReadUpdate). IsWellFormed theory.axioms u.inserts u.deletes) e well (named_ill theory.axioms other.inserts other.deletes one named)

  -- updates follow in one way
  follows_one : (n m : ℕ) (stored others : List Fact) (names more : List (List ℕ)) (s : ℕ) (p : List ℕ) (t : ℕ) (q : List ℕ) → n ≡ m → stored ≡ others → names ≡ more
      → Follows contents theory head n stored names s p → Follows contents theory head m others more t q → SameOrFailed s p t q
  follows_one n m stored others names more s p t q en es en' (ends n1 stored1 s1 p1 zero is) (ends m1 others1 t1 q1 zero' is') =
      same s p t q 0 (text.stored theory stored) zero is zero' (is' ∙ ap (text.stored theory) (sym es))
  follows_one n m stored others names more s p t q en es e (ends n1 stored1 s1 p1 zero is) (no_update m1 others1 name rest t1 q1 v) = let no : [] ≡ name ∷ rest = e in cc
  follows_one n m stored others names more s p t q en es e (ends n1 stored1 s1 p1 zero is) (ill_formed m1 others1 name rest t1 q1 update one gives named five is') = let no : [] ≡ name ∷ rest = e in cc
  follows_one n m stored others names more s p t q en es e (ends n1 stored1 s1 p1 zero is) (goes m1 others1 name rest t1 q1 later update lost next gives takes follows is') = let no : [] ≡ name ∷ rest = e in cc
  follows_one n m stored others names more s p t q en es e (no_update n1 stored1 name rest s1 p1 u) (ends m1 others1 t1 q1 zero' is') = let no : name ∷ rest ≡ [] = e in cc
  follows_one n m stored others names more s p t q en es e (ill_formed n1 stored1 name rest s1 p1 update one gives named five is) (ends m1 others1 t1 q1 zero' is') = let no : name ∷ rest ≡ [] = e in cc
  follows_one n m stored others names more s p t q en es e (goes n1 stored1 name rest s1 p1 later update lost next gives takes follows is) (ends m1 others1 t1 q1 zero' is') = let no : name ∷ rest ≡ [] = e in cc
  follows_one n m stored others names more s p t q en es e (no_update n1 stored1 name rest s1 p1 u) (no_update m1 others1 name' rest' t1 q1 v) =
      let same_name : name ≡ name' = first_of name name' rest rest' e in
      unread_one contents name update_limit (RefusesUpdate theory) (update_refused_once theory) s p t q u (subst (λ (x : List ℕ). IsUnread contents x update_limit (RefusesUpdate theory) t q) (sym same_name) v)
  follows_one n m stored others names more s p t q en es e (no_update n1 stored1 name rest s1 p1 u) (ill_formed m1 others1 name' rest' t1 q1 update one gives named five is') =
      inl (given_update_fails name update s p (subst (λ (x : List ℕ). GivesUpdate contents theory x update) (sym (first_of name name' rest rest' e)) gives) u)
  follows_one n m stored others names more s p t q en es e (no_update n1 stored1 name rest s1 p1 u) (goes m1 others1 name' rest' t1 q1 later update lost next gives takes follows is') =
      inl (given_update_fails name update s p (subst (λ (x : List ℕ). GivesUpdate contents theory x update) (sym (first_of name name' rest rest' e)) gives) u)
  follows_one n m stored others names more s p t q en es e (ill_formed n1 stored1 name rest s1 p1 update one gives named five is) (no_update m1 others1 name' rest' t1 q1 v) =
      inr (inl (given_update_fails name' update t q (subst (λ (x : List ℕ). GivesUpdate contents theory x update) (first_of name name' rest rest' e) gives) v))
  follows_one n m stored others names more s p t q en es e (goes n1 stored1 name rest s1 p1 later update lost next gives takes follows is) (no_update m1 others1 name' rest' t1 q1 v) =
      inr (inl (given_update_fails name' update t q (subst (λ (x : List ℕ). GivesUpdate contents theory x update) (first_of name name' rest rest' e) gives) v))
  follows_one n m stored others names more s p t q en es e (ill_formed n1 stored1 name rest s1 p1 update one gives named five is) (ill_formed m1 others1 name' rest' t1 q1 update' other gives' named' five' is') =
      let u = update_one contents theory name update update' gives (subst (λ (x : List ℕ). GivesUpdate contents theory x update') (sym (first_of name name' rest rest' e)) gives') in
      let i = one_name theory.axioms update.inserts update.deletes one other named (subst (λ (x : ReadUpdate). IsNamed theory.axioms x.inserts x.deletes other) (sym u) named') in
      same s p t q 5 (text.ill_formed theory n update.inserts update.deletes one) five is five'
      (is' ∙ sym (ap (λ (x : ℕ). text.ill_formed theory x update.inserts update.deletes one) en ∙ ap (λ (x : ReadUpdate). text.ill_formed theory m x.inserts x.deletes one) u ∙ ap (text.ill_formed theory m update'.inserts update'.deletes) i))
  follows_one n m stored others names more s p t q en es e (ill_formed n1 stored1 name rest s1 p1 update one gives named five is) (goes m1 others1 name' rest' t1 q1 later update' lost next gives' takes follows is') =
      absurd (well_and_ill name' update' update one gives' (subst (λ (x : List ℕ). GivesUpdate contents theory x update) (first_of name name' rest rest' e) gives) takes.well_formed named)
  follows_one n m stored others names more s p t q en es e (goes n1 stored1 name rest s1 p1 later update lost next gives takes follows is) (ill_formed m1 others1 name' rest' t1 q1 update' other gives' named' five' is') =
      absurd (well_and_ill name update update' other gives (subst (λ (x : List ℕ). GivesUpdate contents theory x update') (sym (first_of name name' rest rest' e)) gives') takes.well_formed named')
  follows_one n m stored others names more s p t q en es e (goes n1 stored1 name rest s1 p1 later update lost next gives takes follows is) (goes m1 others1 name' rest' t1 q1 later' update' losses next' gives' takes' follows' is') =
      let u = update_one contents theory name update update' gives (subst (λ (x : List ℕ). GivesUpdate contents theory x update') (sym (first_of name name' rest rest' e)) gives') in
      let k = takes_one theory stored update lost next losses next' takes
      (subst (λ (x : ReadUpdate). Takes theory stored x losses next') (sym u) (subst (λ (x : List Fact). Takes theory x update' losses next') (sym es) takes')) in
      ⊎_elim (λ six. inl six)
      (λ r. ⊎_elim (λ six. inr (inl six))
      (λ r. inr (inr (
        r.0,
        is ∙ ap (λ (x : ℕ). text.updated (head x) theory update.skipped lost ++ later) en
            ∙ ap (λ (x : ReadUpdate). text.updated (head m) theory x.skipped lost ++ later) u
            ∙ ap (λ (x : List Fact). text.updated (head m) theory update'.skipped x ++ later) k.0
            ∙ ap (λ (x : List ℕ). text.updated (head m) theory update'.skipped losses ++ x) r.1 ∙ sym is',
      ))) r)
      (follows_one (n + 1) (m + 1) next next' rest rest' s later t later' (ap (λ (x : ℕ). x + 1) en) k.1 (tail_of e) follows follows')

  follows_from_one : (facts : List Fact) (names : List (List ℕ)) (s : ℕ) (p : List ℕ) (t : ℕ) (q : List ℕ) → FollowsFrom contents theory head facts names s p → FollowsFrom contents theory head facts names t q → SameOrFailed s p t q
  follows_from_one facts names s p t q (base, lists, follows) (others, lists', follows') =
      follows_one 0 0 base others names names s p t q refl (lists_one (Contains facts) base others lists lists') refl follows follows'

-- how a command goes on from its opened facts
abbrev Continues : Contents → Command → Theory → List Fact → ℕ → ℕ → List ℕ → Type 0
Continues contents (Check o f) theory all skipped s p = (s ≡ 0) × (p ≡ text.checked (length theory.terms) (length all) skipped)
Continues contents (Apply o us) theory all skipped s p = FollowsFrom contents theory no_head all us s p
Continues contents (Script o f us) theory all skipped s p = FollowsFrom contents theory numbered all us s p

-- a run with a command: its facts aren't open, or they are, and it goes on
data Runs (contents : Contents) (c : Command) (s : ℕ) (p : List ℕ) : Type 0 where
  unopened : Unopened contents (asked c).ontology (asked c).facts s p → Runs contents c s p
  opened : (theory : Theory) (all : List Fact) (skipped : ℕ) → Opens contents (asked c).ontology (asked c).facts theory all skipped → IsConsistent theory.axioms all
      → Continues contents c theory all skipped s p → Runs contents c s p

abbrev Answers : Contents → List (List ℕ) → ℕ → List ℕ → Type 0
Answers contents words s p = (((c : Command) → ¬ Says words c) × (s ≡ 2) × (p ≡ text.error (codes "words"))) ⊎ ((c : Command) × Says words c × Runs contents c s p)

answers : (contents : Contents) (words : List (List ℕ)) (s : ℕ) (p : List ℕ) → Comes contents words s p → Answers contents words s p
answers contents words s p (faulty none two is) = inl (none, two, is)
answers contents words s p (unchecked o f says u) = inr (Check o f, says, unopened u)
answers contents words s p (checks o f theory all skipped says opens consistent zero is) = inr (Check o f, says, opened theory all skipped opens consistent (zero, is))
answers contents words s p (unapplied o us says u) = inr (Apply o us, says, unopened u)
answers contents words s p (applies o us theory all skipped says opens consistent follows) = inr (Apply o us, says, opened theory all skipped opens consistent follows)
answers contents words s p (unscripted o f us says u) = inr (Script o f us, says, unopened u)
answers contents words s p (scripts o f us theory all skipped says opens consistent follows) = inr (Script o f us, says, opened theory all skipped opens consistent follows)

continues_one : (contents : Contents) (c : Command) (theory : Theory) (all : List Fact) (skipped s : ℕ) (p : List ℕ) (t : ℕ) (q : List ℕ)
    → Continues contents c theory all skipped s p → Continues contents c theory all skipped t q → SameOrFailed s p t q
continues_one contents (Check o f) theory all skipped s p t q h k = same s p t q 0 (text.checked (length theory.terms) (length all) skipped) h.0 h.1 k.0 k.1
continues_one contents (Apply o us) theory all skipped s p t q h k = follows_from_one contents theory no_head all us s p t q h k
continues_one contents (Script o f us) theory all skipped s p t q h k = follows_from_one contents theory numbered all us s p t q h k

runs_one : (contents : Contents) (c : Command) (s : ℕ) (p : List ℕ) (t : ℕ) (q : List ℕ) → Runs contents c s p → Runs contents c t q → SameOrFailed s p t q
runs_one contents c s p t q (unopened u) (unopened v) = unopened_one contents (asked c).ontology (asked c).facts s p t q u v
runs_one contents c s p t q (unopened u) (opened theory all skipped opens consistent h) = inl (unopened_fails contents (asked c).ontology (asked c).facts theory all skipped opens consistent s p u)
runs_one contents c s p t q (opened theory all skipped opens consistent h) (unopened v) = inr (inl (unopened_fails contents (asked c).ontology (asked c).facts theory all skipped opens consistent t q v))
runs_one contents c s p t q (opened theory all skipped opens consistent h) (opened other others skips opens' consistent' k) =
    let e = opens_all_one contents (asked c).ontology (asked c).facts theory other all others skipped skips opens opens' in
    continues_one contents c theory all skipped s p t q h (subst (λ (r : Read). Continues contents c r.0 r.1 r.2 t q) (sym e) k)

-- a run has one answer, unless a file can't be read
pub comes_one : (contents : Contents) (words : List (List ℕ)) (s : ℕ) (p : List ℕ) (t : ℕ) (q : List ℕ) → Comes contents words s p → Comes contents words t q → SameOrFailed s p t q
comes_one contents words s p t q h k = at (answers contents words s p h) (answers contents words t q k)
  where
    at : Answers contents words s p → Answers contents words t q → SameOrFailed s p t q
    at (inl (none, two, is)) (inl (none', two', is')) = same s p t q 2 (text.error (codes "words")) two is two' is'
    at (inl (none, two, is)) (inr (c, says, r)) = absurd (none c says)
    at (inr (c, says, r)) (inl (none, two, is)) = absurd (none c says)
    at (inr (c, says, r)) (inr (d, says', r')) = runs_one contents c s p t q r (subst (λ (x : Command). Runs contents x t q) (says_one words d c says' says) r')
