-- A file has one answer, but for memory.
use Rattle.std.proofs.Common.{◌≡◌, ◌≢◌, ◌+◌, ℕ, List, [], ◌∷◌, ◌++◌, length, take, Option, Result, Ok, Err, refl, sym, ap, subst, ◌∙◌, inl, inr, ◌⊎◌, ⊎_elim, arith}
use Rattle.std.specs.Prelude.{count_by, ◌==◌}
use Rattle.std.specs.List.{flat_map}
use Rattle.std.specs.Str.{IsUtf8, IsValidUpTo}
use Rattle.std.proofs.lemmas.List.{take_all}
use Rattle.std.proofs.lemmas.Bool.{cases_lt}
use Rattle.std.proofs.lemmas.List.Elements.{All-head, All-tail}
use Rattle.dl_text.proofs.GoingLaws.{goes_one}
use Rattle.dl_base.specs.declared.statements.Fact.{Fact}
use Rattle.ntriples.specs.declared.faults.LineFault.TheVariants as faults
use Rattle.dl_text.specs.declared.kinds.ReadKind.{ReadKind}
use Rattle.dl_text.specs.declared.refusals.ReadRefusal.{ReadRefusal}
use Rattle.dl_text.specs.declared.refusals.ReadRefusal.TheVariants.{Refused, OutOfMemory}
use Rattle.dl_base.specs.Ontologies.{Theory}
use Rattle.dl_base.specs.Repeats.{IsOnce}
use Rattle.dl_base.proofs.RepeatsLaws.{once_is_one}
use Rattle.triples.specs.declared.meaning.Said.{Said}
use Rattle.ntriples.specs.declared.files.ReadFacts.{ReadFacts}
use Rattle.ntriples.specs.Meaning.{LineSays}
use Rattle.ntriples.specs.Files.{HasNoEnd, Place, LineStep, IsLineAt, number_after, start, facts_of, all_skips, SaysAll, RefusesAt, IsNoText, SaysFacts, Reads}
use Rattle.ntriples.proofs.ExactMeaning.{says_one, said_not_refused, line_refusals_one}

abbrev pub IsEnd : ℕ → Type 0
IsEnd e = (e ≡ 10) ⊎ (e ≡ 13)

abbrev pub IsInLine : ℕ → Type 0
IsInLine b = (b ≢ 10) × (b ≢ 13)

not_both : (b : ℕ) → IsEnd b → ¬ IsInLine b
not_both b (inl e) n = n.0 e
not_both b (inr e) n = n.1 e

front_one : (xs ys m n : List ℕ) (a b : ℕ) → xs ++ a ∷ m ≡ ys ++ b ∷ n → HasNoEnd xs → HasNoEnd ys → IsEnd a → IsEnd b → (xs ≡ ys) × (a ≡ b) × (m ≡ n)
front_one [] [] m n a b e p q i j = (refl, cc, cc)
front_one [] (y ∷ ys) m n a b e p q i j = let same : y ≡ a = cc in absurd (not_both a i (subst IsInLine same (All-head IsInLine y ys q)))
front_one (x ∷ xs) [] m n a b e p q i j = let same : x ≡ b = cc in absurd (not_both b j (subst IsInLine same (All-head IsInLine x xs p)))
front_one (x ∷ xs) (y ∷ ys) m n a b e p q i j =
    let on = front_one xs ys m n a b (cc) (All-tail IsInLine x xs p) (All-tail IsInLine y ys q) i j in
    let same : x ≡ y = cc in
    (ap (λ (z : ℕ). z ∷ xs) same ∙ ap (λ (zs : List ℕ). y ∷ zs) on.0, on.1, on.2)

has_end : (xs ys m : List ℕ) (a : ℕ) → xs ≡ ys ++ a ∷ m → HasNoEnd xs → ¬ IsEnd a
has_end [] [] m a e p i = cc
has_end [] (y ∷ ys) m a e p i = cc
has_end (x ∷ xs) [] m a e p i = let same : x ≡ a = cc in not_both a i (subst IsInLine same (All-head IsInLine x xs p))
has_end (x ∷ xs) (y ∷ ys) m a e p i = has_end xs ys m a (cc) (All-tail IsInLine x xs p) i

place_one : (m n : Place) → m.line ≡ n.line → m.rest ≡ n.rest → m ≡ n
place_one m n e f =
    ap (λ (z : ℕ). let it : Place = record { line = z; rest = m.rest } in it) e ∙ ap (λ (z : List ℕ). let it : Place = record { line = n.line; rest = z } in it) f

pub step_one : (theory : Theory) (s m n : Place) (a b : Option Said) → LineStep theory s a m → LineStep theory s b n → (a ≡ b) × (m ≡ n)
step_one theory s m n a b h k =
    let same = front_one h.front k.front m.rest n.rest h.end k.end (sym h.is ∙ k.is) h.no_end k.no_end h.is_end k.is_end in (
      says_one theory k.front a b (subst (λ (z : List ℕ). LineSays theory z (Ok a)) same.0 h.says) k.says,
      place_one m n (h.number ∙ ap (number_after s.line) same.1 ∙ sym k.number) same.2,
    )

pub last_is_dead : (theory : Theory) (here : Place) → HasNoEnd here.rest → (m : Place) (it : Option Said) → ¬ LineStep theory here it m
last_is_dead theory here n m it h = has_end here.rest h.front m.rest h.end h.is n h.is_end

pub refused_is_dead : (theory : Theory) (here : Place) (front : List ℕ) (kind : ReadKind) → IsLineAt here.rest front
    → LineSays theory front (Err (faults.Refused kind)) → (m : Place) (it : Option Said) → ¬ LineStep theory here it m
refused_is_dead theory here front kind (n, inl e) f m it h = last_is_dead theory here (subst HasNoEnd (sym e) n) m it h
refused_is_dead theory here front kind (n, inr (end, after, i, e)) f m it h =
    let same = front_one h.front front m.rest after h.end end (sym h.is ∙ e) h.no_end n h.is_end i in
    said_not_refused theory front it kind (subst (λ (z : List ℕ). LineSays theory z (Ok it)) same.0 h.says) f

line_at_one : (rest a b : List ℕ) → IsLineAt rest a → IsLineAt rest b → a ≡ b
line_at_one rest a b (n, inl e) (m, inl f) = sym e ∙ f
line_at_one rest a b (n, inl e) (m, inr (end, after, i, f)) = absurd (has_end rest b after end f (subst HasNoEnd (sym e) n) i)
line_at_one rest a b (n, inr (end, after, i, e)) (m, inl f) = absurd (has_end rest a after end e (subst HasNoEnd (sym f) m) i)
line_at_one rest a b (n, inr (end, after, i, e)) (m, inr (stop, behind, j, f)) = (front_one a b after behind end stop (sym e ∙ f) n m i j).0

pub says_all_one : (theory : Theory) (bytes : List ℕ) (fs gs : List Fact) (n m : ℕ) → SaysAll theory bytes fs n → SaysAll theory bytes gs m → (fs ≡ gs) × (n ≡ m)
says_all_one theory bytes fs gs n m h k =
    let one = goes_one (LineStep theory) (step_one theory) (start bytes) h.here k.here h.before k.before h.goes k.goes (last_is_dead theory h.here h.no_end) (last_is_dead theory k.here k.no_end) in
    let last = says_one theory k.here.rest h.last k.last (subst (λ (z : Place). LineSays theory z.rest (Ok h.last)) one.1 h.says) k.says in
    let all = ap (λ (zs : List (Option Said)). zs ++ h.last ∷ []) one.0 ∙ ap (λ (z : Option Said). k.before ++ z ∷ []) last in
    (h.facts_are ∙ ap (flat_map facts_of) all ∙ sym k.facts_are, h.skipped_are ∙ ap all_skips all ∙ sym k.skipped_are)

pub says_not_refuses : (theory : Theory) (bytes : List ℕ) (fs : List Fact) (n line : ℕ) (kind : ReadKind) → SaysAll theory bytes fs n → ¬ RefusesAt theory bytes line kind
says_not_refuses theory bytes fs n line kind h k =
    let one = goes_one (LineStep theory) (step_one theory) (start bytes) h.here k.here h.before k.before h.goes k.goes (last_is_dead theory h.here h.no_end) (refused_is_dead theory k.here k.front kind k.is_line k.fails) in
    let at : IsLineAt k.here.rest h.here.rest = (h.no_end, inl (ap (λ (z : Place). z.rest) (sym one.1))) in
    let same = line_at_one k.here.rest h.here.rest k.front at k.is_line in
    said_not_refused theory k.front h.last kind (subst (λ (z : List ℕ). LineSays theory z (Ok h.last)) same h.says) k.fails

pub refuses_one : (theory : Theory) (bytes : List ℕ) (n m : ℕ) (k l : ReadKind) → RefusesAt theory bytes n k → RefusesAt theory bytes m l → (n ≡ m) × (k ≡ l)
refuses_one theory bytes n m k l h j =
    let one = goes_one (LineStep theory) (step_one theory) (start bytes) h.here j.here h.before j.before h.goes j.goes (refused_is_dead theory h.here h.front k h.is_line h.fails) (refused_is_dead theory j.here j.front l j.is_line j.fails) in
    let same = line_at_one j.here.rest h.front j.front (subst (λ (z : Place). IsLineAt z.rest h.front) one.1 h.is_line) j.is_line in (
      h.line_is ∙ ap (λ (z : Place). z.line) one.1 ∙ sym j.line_is,
      line_refusals_one theory j.front k l (subst (λ (z : List ℕ). LineSays theory z (Err (faults.Refused k))) same h.fails) j.fails,
    )

valid_one : (bytes : List ℕ) (n m : ℕ) → IsValidUpTo bytes n → IsValidUpTo bytes m → n ≡ m
valid_one bytes n m h k =
    ⊎_elim (λ l. absurd (h.longest m l k.front)) (λ l. ⊎_elim (λ o. absurd (k.longest n o h.front)) (λ o. omega (arith, l, o)) (cases_lt m n)) (cases_lt n m)

text_is_valid : (bytes : List ℕ) (n : ℕ) → IsUtf8 bytes → ¬ IsValidUpTo bytes n
text_is_valid bytes n u h = h.longest (length bytes) h.short (subst IsUtf8 (sym (take_all (length bytes) bytes (omega arith))) u)

no_text_one : (bytes : List ℕ) (n m : ℕ) (k l : ReadKind) → IsNoText bytes n k → IsNoText bytes m l → (n ≡ m) × (k ≡ l)
no_text_one bytes n m k l h j =
    (h.line_is ∙ ap (λ (p : ℕ). 1 + count_by (λ b. b == 10) (take p bytes)) (valid_one bytes h.place j.place h.fault j.fault) ∙ sym j.line_is, h.kind_is ∙ sym j.kind_is)

found_one : (a b : ReadFacts) → a.facts ≡ b.facts → a.skipped ≡ b.skipped → a ≡ b
found_one a b e f =
    ap (λ (z : List Fact). let it : ReadFacts = record { facts = z; skipped = a.skipped } in it) e ∙ ap (λ (z : ℕ). let it : ReadFacts = record { facts = b.facts; skipped = z } in it) f

says_facts_one : (theory : Theory) (bytes : List ℕ) (fs gs : List Fact) (n m : ℕ) → SaysFacts theory bytes fs n → SaysFacts theory bytes gs m → (fs ≡ gs) × (n ≡ m)
says_facts_one theory bytes fs gs n m (all, h, a) (other, k, b) =
    let one = says_all_one theory bytes all other n m h k in
    (once_is_one other fs gs (subst (λ (zs : List Fact). IsOnce zs fs) one.0 a) b, one.1)

pub reads_one : (theory : Theory) (bytes : List ℕ) (r s : Result ReadFacts ReadRefusal) → Reads theory bytes r → Reads theory bytes s → (¬ (r ≡ Err OutOfMemory)) → (¬ (s ≡ Err OutOfMemory)) → r ≡ s
reads_one theory bytes (Ok a) (Ok b) h k x y =
    let one = says_facts_one theory bytes a.facts b.facts a.skipped b.skipped h.1 k.1 in ap (λ (z : ReadFacts). Ok z) (found_one a b one.0 one.1)
reads_one theory bytes (Ok a) (Err (Refused line kind)) h (inl k) x y = absurd (text_is_valid bytes k.place h.0 k.fault)
reads_one theory bytes (Ok a) (Err (Refused line kind)) h (inr k) x y = absurd (says_not_refuses theory bytes h.1.0 a.skipped line kind h.1.1 k.1)
reads_one theory bytes (Err (Refused line kind)) (Ok b) (inl h) k x y = absurd (text_is_valid bytes h.place k.0 h.fault)
reads_one theory bytes (Err (Refused line kind)) (Ok b) (inr h) k x y = absurd (says_not_refuses theory bytes k.1.0 b.skipped line kind k.1.1 h.1)
reads_one theory bytes (Err (Refused n k)) (Err (Refused m l)) (inl h) (inl j) x y = let one = no_text_one bytes n m k l h j in cc
reads_one theory bytes (Err (Refused n k)) (Err (Refused m l)) (inl h) (inr j) x y = absurd (text_is_valid bytes h.place j.0 h.fault)
reads_one theory bytes (Err (Refused n k)) (Err (Refused m l)) (inr h) (inl j) x y = absurd (text_is_valid bytes j.place h.0 j.fault)
reads_one theory bytes (Err (Refused n k)) (Err (Refused m l)) (inr h) (inr j) x y = let one = refuses_one theory bytes n m k l h.1 j.1 in cc
reads_one theory bytes (Err OutOfMemory) s h k x y = absurd (x refl)
reads_one theory bytes r (Err OutOfMemory) h k x y = absurd (y refl)
