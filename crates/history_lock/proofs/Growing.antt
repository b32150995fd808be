-- Beginnings of a history, and one editor's entries in it.
use Rattle.std.proofs.Common.{◌≡◌, ◌≢◌, ◌⊎◌, ℕ, ◌<◌, ◌≤◌, Bool, true, false, List, [], ◌∷◌, ◌++◌, length, take, sym, refl, ap, ◌∙◌, subst, ⊎_elim, arith, append_assoc, length-append}
use Rattle.std.specs.Prelude.{if◌then◌else◌, All, Contains, Some, slice_get, nat_eq, nat_lt}
use Rattle.std.proofs.lemmas.List.{append-nil, nil_from_length}
use Rattle.std.proofs.lemmas.List.Elements.{All-cons, All-head, All-tail, All-weaker, All-contains, filter-append}
use Rattle.std.proofs.lemmas.Bool.Decides.{nat_tests}
use mathlib.Core.List.{IsPrefix}
use Rattle.dl_base.specs.declared.requests.Entry.{Entry}
use Rattle.dl_base.specs.Histories.{own}
use Rattle.dl_base.proofs.Places.{get_left, get_cases, take_left, take_whole}
use Rattle.history_lock.specs.Growth.{AreNumbered, Continues, longer_of}

pub own_append : (e : ℕ) (xs ys : List Entry) → own e (xs ++ ys) ≡ own e xs ++ own e ys
own_append e xs ys = filter-append (λ (x : Entry). nat_eq x.editor e) xs ys

-- another editor's entry is none of this one's
pub own_other : (e : ℕ) (xs : List Entry) (x : Entry) → e ≢ x.editor → own e (xs ++ x ∷ []) ≡ own e xs
own_other e xs x other = own_append e xs (x ∷ []) ∙ (ap (λ zs. own e xs ++ zs) (branch (nat_eq x.editor e) refl) ∙ append-nil (own e xs))
  where
    branch : (b : Bool) → nat_eq x.editor e ≡ b → (if b then x ∷ [] else []) ≡ []
    branch true is = absurd (other (grind (arith, nat_tests)))
    branch false is = refl

-- where every editor is lower, an editor has no entry
pub own_none : (n : ℕ) (xs : List Entry) → All (λ (x : Entry). x.editor < n) xs → own n xs ≡ []
own_none n [] h = refl
own_none n (x ∷ xs) h = branch (nat_eq x.editor n) refl (All-head (λ (y : Entry). y.editor < n) x xs h) (own_none n xs (All-tail (λ (y : Entry). y.editor < n) x xs h))
  where
    branch : (b : Bool) → nat_eq x.editor n ≡ b → x.editor < n → own n xs ≡ [] → (if b then x ∷ own n xs else own n xs) ≡ []
    branch true is low r = absurd (grind (arith, nat_tests))
    branch false is low r = r

pub prefix_self : {A : Type 0} (xs : List A) → IsPrefix xs xs
prefix_self xs = ([], append-nil xs)

pub prefix_trans : {A : Type 0} (xs ys zs : List A) → IsPrefix xs ys → IsPrefix ys zs → IsPrefix xs zs
prefix_trans xs ys zs p q = (p.0 ++ q.0, sym (append_assoc xs p.0 q.0) ∙ (ap (λ w. w ++ q.0) p.1 ∙ q.1))

-- of two beginnings of one list the shorter begins the longer
pub prefix_shorter : {A : Type 0} (xs ys zs : List A) → IsPrefix xs zs → IsPrefix ys zs → length xs ≤ length ys → IsPrefix xs ys
prefix_shorter [] ys zs p q le = (ys, refl)
prefix_shorter (x ∷ xs) [] zs p q le = absurd (omega arith)
prefix_shorter (x ∷ xs) (y ∷ ys) [] p q le = absurd (cc (p.1))
prefix_shorter (x ∷ xs) (y ∷ ys) (z ∷ zs) p q le =
    let heads : x ≡ y = cc (p.1, q.1) in
    let rest = prefix_shorter xs ys zs (p.0, cc (p.1)) (q.0, cc (q.1)) (omega arith) in
    (rest.0, cc (heads, rest.1))

-- a beginning as long as the whole is the whole
prefix_whole : {A : Type 0} (xs zs : List A) → IsPrefix xs zs → length zs ≤ length xs → xs ≡ zs
prefix_whole xs zs p le =
    let longer = length-append xs p.0 in let none : length p.0 ≡ 0 = omega (arith, ap length p.1, longer, le) in
    sym (append-nil xs) ∙ (ap (λ l. xs ++ l) (sym (nil_from_length p.0 none)) ∙ p.1)

prefix_length : {A : Type 0} (xs zs : List A) → IsPrefix xs zs → length xs ≤ length zs
prefix_length xs zs p = let longer = length-append xs p.0 in omega (arith, ap length p.1, longer)

-- where the last and the first agree on an editor's entries, so does what lies between
pub between : (e : ℕ) (xs ys zs : List Entry) → IsPrefix xs ys → IsPrefix ys zs → own e zs ≡ own e xs → own e ys ≡ own e xs
between e xs ys zs p q same =
    let a : own e xs ++ own e p.0 ≡ own e ys = sym (own_append e xs p.0) ∙ ap (own e) p.1 in
    let b : own e ys ++ own e q.0 ≡ own e zs = sym (own_append e ys q.0) ∙ ap (own e) q.1 in
    let la = length-append (own e xs) (own e p.0) in let lb = length-append (own e ys) (own e q.0) in
    let none : length (own e p.0) ≡ 0 = omega (arith, ap length a, ap length b, ap length same, la, lb) in
    sym a ∙ (ap (λ l. own e xs ++ l) (nil_from_length (own e p.0) none) ∙ append-nil (own e xs))

-- the longer of two beginnings of one list: it is one, and both begin it
pub longer_begins : (xs ys zs : List Entry) → IsPrefix xs zs → IsPrefix ys zs → IsPrefix xs (longer_of xs ys) × IsPrefix ys (longer_of xs ys) × IsPrefix (longer_of xs ys) zs
longer_begins xs ys zs p q = branch (nat_lt (length xs) (length ys)) refl
  where
    branch : (b : Bool) → nat_lt (length xs) (length ys) ≡ b → IsPrefix xs (if b then ys else xs) × IsPrefix ys (if b then ys else xs) × IsPrefix (if b then ys else xs) zs
    branch true is = (prefix_shorter xs ys zs p q (grind (arith, nat_tests)), prefix_self ys, q)
    branch false is = (prefix_self xs, prefix_shorter ys xs zs q p (grind (arith, nat_tests)), p)

-- if one of them is the whole list, the longer one is
pub longer_whole : (xs ys zs : List Entry) → IsPrefix xs zs → IsPrefix ys zs → (xs ≡ zs) ⊎ (ys ≡ zs) → longer_of xs ys ≡ zs
longer_whole xs ys zs p q whole = branch (nat_lt (length xs) (length ys)) refl
  where
    branch : (b : Bool) → nat_lt (length xs) (length ys) ≡ b → (if b then ys else xs) ≡ zs
    branch true is = let lt : length xs < length ys = grind (arith, nat_tests) in let short = prefix_length ys zs q in
        ⊎_elim (λ (e : xs ≡ zs). absurd (omega (arith, ap length e, lt, short))) (λ (e : ys ≡ zs). e) whole
    branch false is = let le : length ys ≤ length xs = grind (arith, nat_tests) in
        ⊎_elim (λ (e : xs ≡ zs). e) (λ (e : ys ≡ zs). prefix_whole xs zs p (omega (arith, ap length e, le))) whole

pub all_begins : {A : Type 0} (P : A → Type 0) (xs ys : List A) → IsPrefix xs ys → All P ys → All P xs
all_begins P [] ys p h = λ k d l. absurd (omega arith)
all_begins P (x ∷ xs) [] p h = absurd (cc (p.1))
all_begins P (x ∷ xs) (y ∷ ys) p h = All-cons P x xs (subst P (cc (p.1)) (All-head P y ys h)) (all_begins P xs ys (p.0, cc (p.1)) (All-tail P y ys h))

pub numbered_none : AreNumbered []
numbered_none = record { each = λ n e at. absurd (cc at) }

-- one more entry, with its editor's next number
pub numbered_more : (xs : List Entry) (x : Entry) → AreNumbered xs → x.number ≡ length (own x.editor xs) → AreNumbered (xs ++ x ∷ [])
numbered_more xs x numbered next = record {
  each = λ n e at. ⊎_elim
      (λ (h : slice_get xs n ≡ Some e). numbered.each n e h ∙ ap (λ us. length (own e.editor us)) (sym (take_left xs (x ∷ []) n e h)))
      (λ (h : (n ≡ length xs) × (x ≡ e)). subst (λ (y : Entry). y.number ≡ length (own y.editor (take n (xs ++ x ∷ [])))) h.1 (next ∙ ap (λ us. length (own x.editor us)) (sym (take_whole xs (x ∷ []) n h.0))))
      (get_cases xs x n e at);
}

pub numbered_begins : (xs zs : List Entry) → IsPrefix xs zs → AreNumbered zs → AreNumbered xs
numbered_begins xs zs p numbered = let whole : AreNumbered (xs ++ p.0) = subst AreNumbered (sym p.1) numbered in record {
  each = λ n e at. whole.each n e (get_left xs p.0 n e at) ∙ ap (λ us. length (own e.editor us)) (take_left xs p.0 n e at);
}

-- what lies between what was seen and a later history is a later history too
pub nearer : (editor noted : ℕ) (seen : List Entry) (carried : List ℕ) (ys zs : List Entry) → Continues editor noted seen carried zs → IsPrefix seen ys → IsPrefix ys zs → Continues editor noted seen carried ys
nearer editor noted seen carried ys zs later p q = record {
  begins = p;
  own_entries = All-weaker (λ e. own e zs ≡ own e seen) (λ e. own e ys ≡ own e seen) (λ e same. between e seen ys zs p q same) carried later.own_entries;
  numbered = numbered_begins ys zs q later.numbered;
  editors = λ first. all_begins (λ (x : Entry). x.editor < noted) ys zs q (later.editors first);
}

-- an editor that two seats carried one after the other still has the entries that the first had seen
pub own_still : {editor noted editor' noted' : ℕ} {seen mid later : List Entry} {carried carried' : List ℕ} (e : ℕ)
    → Continues editor noted seen carried mid → Continues editor' noted' mid carried' later → Contains carried e → Contains carried' e → own e later ≡ own e seen
own_still {editor} {noted} {editor'} {noted'} {seen} {mid} {later} {carried} {carried'} e first second here there =
    All-contains (λ c. own c later ≡ own c mid) carried' e second.own_entries there ∙ All-contains (λ c. own c mid ≡ own c seen) carried e first.own_entries here
