-- A text has one answer at most, but for memory.
use Rattle.std.proofs.Common.{◌≡◌, ℕ, List, [], ◌∷◌, ◌++◌, Result, Ok, Err, refl, sym, ◌∙◌, ap, subst, append_assoc, inl, inr}
use Rattle.std.specs.Prelude.{◌+◌, length}
use Rattle.std.proofs.lemmas.List.{append-nil}
use Rattle.dl_base.specs.Repeats.{IsOnce}
use Rattle.dl_base.specs.declared.axioms.Axiom.{Axiom}
use Rattle.dl_base.specs.declared.statements.Fact.{Fact}
use Rattle.dl_base.specs.declared.terms.Kind.{Kind}
use Rattle.dl_base.specs.Ontologies.{Theory}
use Rattle.dl_base.specs.Validity.{IsValid}
use Rattle.dl_base.proofs.RepeatsLaws.{once_is_one}
use Rattle.dl_text.specs.declared.kinds.ReadKind.{ReadKind}
use Rattle.dl_text.specs.declared.refusals.ReadRefusal.{ReadRefusal}
use Rattle.dl_text.specs.declared.refusals.ReadRefusal.TheVariants.{Refused, OutOfMemory}
use Rattle.owl_syntax.specs.Outcomes.{Parses}
use Rattle.owl_syntax.specs.Trees.{Content}
use Rattle.owl_syntax.proofs.ExactText.{parses_one}
use Rattle.owl_read.specs.Documents.{start, IsRead, IsRefusedBy, IsRefusedAt, theory_of, ReadsTo, Reads, ReadsOver}
use Rattle.owl_read.specs.Items.{Item, inside}
use Rattle.owl_read.specs.Outcomes.{Refusal, ◌>>=◌, run}
use Rattle.owl_read.specs.Rows.{Reading, taken}
use Rattle.owl_read.proofs.DocumentLaws.{valid_front}
use Rattle.owl_read.proofs.KeepRows.{KeepsReading, taken_keeps}

abbrev Taken : Type 0
Taken = Result Reading Refusal

same_ok : (res : Taken) (p q : Reading) → res ≡ Ok p → res ≡ Ok q → p ≡ q
same_ok res p q e f = let g : Ok p ≡ Ok q = sym e ∙ f in cc

same_err : (res : Taken) (l m : ℕ) (k j : ReadKind) → res ≡ Err (l, k) → res ≡ Err (m, j) → (l ≡ m) × (k ≡ j)
same_err res l m k j e f =
    let g : Err (l, k) ≡ Err (m, j) = sym e ∙ f in
    let pair : (l, k) ≡ (m, j) = cc in
    (ap (λ (p : ℕ × ReadKind). p.0) pair, ap (λ (p : ℕ × ReadKind). p.1) pair)

not_both : (res : Taken) (p : Reading) (e : Refusal) → res ≡ Ok p → res ≡ Err e → ⊥
not_both res p e f g = let h : Ok p ≡ Err e = sym f ∙ g in cc

abbrev Longer : Reading → Reading → Type 0
Longer p q = (more : List Axiom) × (q.axioms ≡ p.axioms ++ more)

longer_by : (r q : Reading) (items : List Item) (res : Taken) → KeepsReading r res → ((p : Reading) → run taken p items ≡ Ok q → Longer p q) → (res >>= λ p. run taken p items) ≡ Ok q → Longer r q
longer_by r q items (Ok p) k on e = let l = on p e in (k.axioms ++ l.0, l.1 ∙ ap (λ (before : List Axiom). before ++ l.0) k.axioms_are ∙ simp append_assoc)
longer_by r q items (Err x) k on e = cc

longer : (items : List Item) (r q : Reading) → run taken r items ≡ Ok q → Longer r q
longer [] r q e = subst (λ (p : Reading). Longer r p) (let same : r ≡ q = cc in same) ([], sym (append-nil r.axioms))
longer (item ∷ items) r q e = longer_by r q items (taken r item) (taken_keeps r item) (λ p f. longer items p q f) e

-- what was read on the way to something valid is valid
valid_on_the_way : (items : List Item) (p q : Reading) → run taken p items ≡ Ok q → IsValid q.axioms → IsValid p.axioms
valid_on_the_way items p q e v = let l = longer items p q e in valid_front p.axioms l.0 (subst IsValid l.1 v)

-- a node that is refused isn't taken on the way to something valid
refused_here : (r q : Reading) (item : Item) (rest : List Item) (line : ℕ) (kind : ReadKind) (res : Taken) → taken r item ≡ res
    → (res >>= λ p. run taken p rest) ≡ Ok q → IsValid q.axioms → IsRefusedBy r item line kind → ⊥
refused_here r q item rest line kind (Err x) e f v h = cc
refused_here r q item rest line kind (Ok p) e f v (inl g) = not_both (taken r item) p (line, kind) e g
refused_here r q item rest line kind (Ok p) e f v (inr (after, g, broken, l, k)) =
    broken (subst (λ (z : Reading). IsValid z.axioms) (same_ok (taken r item) p after e g) (valid_on_the_way rest p q f v))

abbrev NoRefusal : List Item → Item → List Item → Type 0
NoRefusal before item rest = (from q reading : Reading) (line : ℕ) (kind : ReadKind) → run taken from (before ++ item ∷ rest) ≡ Ok q → IsValid q.axioms
    → run taken from before ≡ Ok reading → IsRefusedBy reading item line kind → ⊥

past : (before : List Item) (item : Item) (rest : List Item) (q reading : Reading) (line : ℕ) (kind : ReadKind) (res : Taken) → NoRefusal before item rest
    → (res >>= λ p. run taken p (before ++ item ∷ rest)) ≡ Ok q → IsValid q.axioms → (res >>= λ p. run taken p before) ≡ Ok reading → IsRefusedBy reading item line kind → ⊥
past before item rest q reading line kind (Ok p) on e v f h = on p q reading line kind e v f h
past before item rest q reading line kind (Err x) on e v f h = cc

no_refusal : (before : List Item) (item : Item) (rest : List Item) → NoRefusal before item rest
no_refusal [] item rest from q reading line kind e v f h =
    let same : reading ≡ from = cc in
    refused_here from q item rest line kind (taken from item) refl e v (subst (λ (r : Reading). IsRefusedBy r item line kind) same h)
no_refusal (x ∷ before) item rest from q reading line kind e v f h = past before item rest q reading line kind (taken from x) (no_refusal before item rest) e v f h

refused_once : (r : Reading) (item : Item) (l m : ℕ) (k j : ReadKind) → IsRefusedBy r item l k → IsRefusedBy r item m j → (l ≡ m) × (k ≡ j)
refused_once r item l m k j (inl e) (inl f) = same_err (taken r item) l m k j e f
refused_once r item l m k j (inl e) (inr (after, g, broken, a, b)) = absurd (not_both (taken r item) after (l, k) g e)
refused_once r item l m k j (inr (after, g, broken, a, b)) (inl f) = absurd (not_both (taken r item) after (m, j) g f)
refused_once r item l m k j (inr (after, g, broken, a, b)) (inr (then, h, bad, c, d)) = (a ∙ sym c, b ∙ sym d)

abbrev RefusedOnce : List Item → List Item → Type 0
RefusedOnce one two = (from p q : Reading) (item other : Item) (rest more : List Item) (l m : ℕ) (k j : ReadKind) → one ++ item ∷ rest ≡ two ++ other ∷ more
    → IsRead from one p → IsRefusedBy p item l k → IsRead from two q → IsRefusedBy q other m j → (l ≡ m) × (k ≡ j)

go_on : (one two : List Item) (x y : Item) (from p q : Reading) (item other : Item) (rest more : List Item) (l m : ℕ) (k j : ReadKind) (res : Taken) → RefusedOnce one two
    → one ++ item ∷ rest ≡ two ++ other ∷ more → (res >>= λ t. run taken t one) ≡ Ok p → IsValid p.axioms → IsRefusedBy p item l k → (res >>= λ t. run taken t two) ≡ Ok q → IsValid q.axioms → IsRefusedBy q other m j
    → (l ≡ m) × (k ≡ j)
go_on one two x y from p q item other rest more l m k j (Ok t) on e a v h b w g = on t p q item other rest more l m k j e (record { runs = a; valid = v }) h (record { runs = b; valid = w }) g
go_on one two x y from p q item other rest more l m k j (Err z) on e a v h b w g = cc

refused_one : (one two : List Item) → RefusedOnce one two
refused_one [] [] from p q item other rest more l m k j e a h b g =
    let first : item ≡ other = cc in
    let at : p ≡ from = (let r = a.runs in cc) in
    let too : q ≡ from = (let r = b.runs in cc) in
    refused_once from other l m k j (subst (λ (z : Item). IsRefusedBy from z l k) first (subst (λ (r : Reading). IsRefusedBy r item l k) at h)) (subst (λ (r : Reading). IsRefusedBy r other m j) too g)
refused_one [] (y ∷ two) from p q item other rest more l m k j e a h b g =
    let first : item ≡ y = cc in
    let at : p ≡ from = (let r = a.runs in cc) in
    absurd (refused_here from q y two l k (taken from y) refl b.runs b.valid (subst (λ (z : Item). IsRefusedBy from z l k) first (subst (λ (r : Reading). IsRefusedBy r item l k) at h)))
refused_one (x ∷ one) [] from p q item other rest more l m k j e a h b g =
    let first : other ≡ x = cc in
    let at : q ≡ from = (let r = b.runs in cc) in
    absurd (refused_here from p x one m j (taken from x) refl a.runs a.valid (subst (λ (z : Item). IsRefusedBy from z m j) first (subst (λ (r : Reading). IsRefusedBy r other m j) at g)))
refused_one (x ∷ one) (y ∷ two) from p q item other rest more l m k j e a h b g =
    let first : y ≡ x = cc in
    let behind : one ++ item ∷ rest ≡ two ++ other ∷ more = cc in
    go_on one two x y from p q item other rest more l m k j (taken from x) (refused_one one two) behind a.runs a.valid h (subst (λ (z : Item). run taken from (z ∷ two) ≡ Ok q) first b.runs) b.valid g

module _ (terms : List (List ℕ × Kind)) (bytes : List ℕ) where
  abbrev Answer : Type 0
  Answer = Result Reading ReadRefusal

  same_content : (c d : Content) → Parses bytes (Ok c) → Parses bytes (Ok d) → c ≡ d
  same_content c d h k = let e : Ok c ≡ Ok d = parses_one bytes (Ok c) (Ok d) h k (λ f. cc) (λ f. cc) in cc

  no_content : (c : Content) (line : ℕ) (kind : ReadKind) → Parses bytes (Ok c) → Parses bytes (Err (Refused line kind)) → ⊥
  no_content c line kind h k = let e : Ok c ≡ Err (Refused line kind) = parses_one bytes (Ok c) (Err (Refused line kind)) h k (λ f. cc) (λ f. cc) in cc

  abbrev At : Content → ℕ → ReadKind → Type 0
  At c line kind = IsRefusedAt (start terms c) (inside c.root) line kind

  read_or_refused : (c d : Content) (reading : Reading) (line : ℕ) (kind : ReadKind) → Parses bytes (Ok c) → IsRead (start terms c) (inside c.root) reading → Parses bytes (Ok d) → At d line kind → ⊥
  read_or_refused c d reading line kind h read k at =
      let here = subst (λ (z : Content). At z line kind) (same_content d c k h) at in
      no_refusal here.before here.item here.rest (start terms c) reading here.reading line kind
      (subst (λ (items : List Item). run taken (start terms c) items ≡ Ok reading) here.is read.runs) read.valid here.read.runs here.refused

  refusal_one : (l m : ℕ) (k j : ReadKind) → ReadsTo terms bytes (Err (Refused l k)) → ReadsTo terms bytes (Err (Refused m j)) → (l ≡ m) × (k ≡ j)
  refusal_one l m k j (inl h) (inl g) =
      let e : Err (Refused l k) ≡ Err (Refused m j) = parses_one bytes (Err (Refused l k)) (Err (Refused m j)) h g (λ f. cc) (λ f. cc) in
      let line : l ≡ m = cc in
      let kind : k ≡ j = cc in
      (line, kind)
  refusal_one l m k j (inl h) (inr (d, p, at)) = absurd (no_content d l k p h)
  refusal_one l m k j (inr (c, p, at)) (inl g) = absurd (no_content c m j p g)
  refusal_one l m k j (inr (c, p, at)) (inr (d, o, there)) =
      let here = subst (λ (z : Content). At z m j) (same_content d c o p) there in
      refused_one at.before here.before (start terms c) at.reading here.reading at.item here.item at.rest here.rest l m k j (sym at.is ∙ here.is) at.read at.refused here.read here.refused

  pub read_one : (r s : Reading) → ReadsTo terms bytes (Ok r) → ReadsTo terms bytes (Ok s) → r ≡ s
  read_one r s (c, p, a) (d, o, b) =
      same_ok (run taken (start terms c) (inside c.root)) r s a.runs (subst (λ (z : Content). run taken (start terms z) (inside z.root) ≡ Ok s) (same_content d c o p) b.runs)

  pub read_not_refused : (r : Reading) (l : ℕ) (k : ReadKind) → ReadsTo terms bytes (Ok r) → ReadsTo terms bytes (Err (Refused l k)) → ⊥
  read_not_refused r l k (c, p, a) (inl h) = no_content c l k p h
  read_not_refused r l k (c, p, a) (inr (d, o, at)) = read_or_refused c d r l k p a o at

  pub refused_same : (l m : ℕ) (k j : ReadKind) → ReadsTo terms bytes (Err (Refused l k)) → ReadsTo terms bytes (Err (Refused m j)) → Refused l k ≡ Refused m j
  refused_same l m k j h g = let e = refusal_one l m k j h g in (λ i. Refused (e.0 i) (e.1 i))

abbrev Whole : Type 0
Whole = Result (Theory × List Fact × ℕ) ReadRefusal

pub reads_one : (bytes : List ℕ) (r s : Whole) → Reads bytes r → Reads bytes s → (r ≡ Err OutOfMemory → ⊥) → (s ≡ Err OutOfMemory → ⊥) → r ≡ s
reads_one bytes (Ok (t, f, n)) (Ok (u, g, m)) (x, a, e, o, k) (y, b, d, q, l) nr ns =
    let same = read_one [] bytes x y a b in
    let theory = e ∙ ap theory_of same ∙ sym d in
    let facts = once_is_one x.facts f g o (subst (λ (fs : List Fact). IsOnce fs g) (ap (λ (z : Reading). z.facts) (sym same)) q) in
    let count = k ∙ ap (λ (z : Reading). z.skipped) same ∙ sym l in
    (λ i. Ok (theory i, facts i, count i))
reads_one bytes (Ok (t, f, n)) (Err (Refused l k)) (x, a, e, o, c) b nr ns = absurd (read_not_refused [] bytes x l k a b)
reads_one bytes (Ok v) (Err OutOfMemory) a b nr ns = absurd (ns refl)
reads_one bytes (Err (Refused l k)) (Ok (u, g, m)) a (y, b, d, q, c) nr ns = absurd (read_not_refused [] bytes y l k b a)
reads_one bytes (Err (Refused l k)) (Err (Refused m j)) a b nr ns = ap Err (refused_same [] bytes l m k j a b)
reads_one bytes (Err (Refused l k)) (Err OutOfMemory) a b nr ns = absurd (ns refl)
reads_one bytes (Err OutOfMemory) s a b nr ns = absurd (nr refl)

pub reads_over_one : (terms : List (List ℕ × Kind)) (bytes : List ℕ) (r s : Whole) → ReadsOver terms bytes r → ReadsOver terms bytes s → (r ≡ Err OutOfMemory → ⊥) → (s ≡ Err OutOfMemory → ⊥) → r ≡ s
reads_over_one terms bytes (Ok (t, f, n)) (Ok (u, g, m)) (x, a, e, o, k) (y, b, d, q, l) nr ns =
    let same = read_one terms bytes x y a b in
    let theory = e ∙ ap theory_of same ∙ sym d in
    let facts = o ∙ sym q in
    let count = k ∙ ap (λ (z : Reading). z.skipped + length z.facts) same ∙ sym l in
    (λ i. Ok (theory i, facts i, count i))
reads_over_one terms bytes (Ok (t, f, n)) (Err (Refused l k)) (x, a, e, o, c) b nr ns = absurd (read_not_refused terms bytes x l k a b)
reads_over_one terms bytes (Ok v) (Err OutOfMemory) a b nr ns = absurd (ns refl)
reads_over_one terms bytes (Err (Refused l k)) (Ok (u, g, m)) a (y, b, d, q, c) nr ns = absurd (read_not_refused terms bytes y l k b a)
reads_over_one terms bytes (Err (Refused l k)) (Err (Refused m j)) a b nr ns = ap Err (refused_same terms bytes l m k j a b)
reads_over_one terms bytes (Err (Refused l k)) (Err OutOfMemory) a b nr ns = absurd (ns refl)
reads_over_one terms bytes (Err OutOfMemory) s a b nr ns = absurd (nr refl)
