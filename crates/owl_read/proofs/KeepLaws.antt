-- What reading keeps: terms stand once and are few, and what is read is over them.
use Rattle.std.proofs.Common.{◌≡◌, ℕ, zero, suc, ◌<◌, ◌≤◌, ◌+◌, Bool, true, false, cond, not, List, [], ◌∷◌, ◌++◌, Option, Some, None, Result, Ok, Err, length, position, refl, sym, ◌∙◌, ap, subst, append_assoc, arith}
use Rattle.std.specs.Prelude.{slice_get, nat_lt}
use Rattle.std.specs.List.{position_or_len}
use Rattle.std.specs.Str.{bytes_eq}
use Rattle.std.specs.Cmp.Lexicographic.{other_text}
use Rattle.std.proofs.lemmas.Bool.{false≢true, ltb-true, ltb-false}
use Rattle.std.proofs.lemmas.List.{append-nil, length-append}
use Rattle.dl_base.specs.declared.terms.Kind.{Kind}
use Rattle.dl_base.specs.declared.terms.Kind.TheVariants as kinds
use Rattle.dl_base.specs.declared.terms.Term.{Term}
use Rattle.dl_base.specs.Ontologies.{IsTerm}
use Rattle.dl_base.specs.Vocabularies.{names_of, bare}
use Rattle.dl_base.proofs.NamesLaws.{once_more}
use Rattle.dl_base.proofs.Places.{get_left, get_last}
use Rattle.dl_text.specs.declared.kinds.ReadKind.{ReadKind}
use Rattle.dl_text.specs.declared.kinds.ReadKind.TheVariants as refused
use Rattle.owl_syntax.specs.Trees.{iri, blank, digits, prefixed, literal}
use Rattle.owl_read.specs.Builtins.{is_barred}
use Rattle.owl_read.specs.Items.{Item, Single, Word, Group, line_of}
use Rattle.owl_read.specs.Outcomes.{Refusal, ◌>>=◌}
use Rattle.owl_read.specs.Scopes.{Terms, IsSound, Naming, same_kind, most_terms, term, known, placed, numbered, term_named, resolved, name_at, property_at}

-- the terms of the second are those of the first and further ones
pub record Grows (s t : Naming) : Type 0 where
  pub later : Terms
  pub is : t.terms ≡ s.terms ++ later
  pub sound : IsSound s.terms → IsSound t.terms

pub grows_not : (s : Naming) → Grows s s
grows_not s = record { later = []; is = sym (append-nil s.terms); sound = λ h. h }

pub grows_on : (s t u : Naming) → Grows s t → Grows t u → Grows s u
grows_on s t u g h = record {
  later = g.later ++ h.later;
  is = h.is ∙ ap (λ (ts : Terms). ts ++ h.later) g.is ∙ simp append_assoc;
  sound = λ k. h.sound (g.sound k);
}

-- a term stays one
pub term_stays : (s t : Naming) → Grows s t → (p : Term) (k : Kind) → IsTerm (bare s.terms) p k → IsTerm (bare t.terms) p k
term_stays s t g p k h = (h.0, subst (λ (ts : Terms). slice_get ts p.0 ≡ Some (h.0, k)) (sym g.is) (get_left s.terms g.later p.0 (h.0, k) h.1))

-- where something is read, the terms grow and P holds of it
abbrev pub Keeps : {X : Type 0} → (Naming → X → Type 0) → Naming → Result (Naming × X) Refusal → Type 0
Keeps P s (Ok x) = Grows s x.0 × P x.0 x.1
Keeps P s (Err e) = Unit {0}

module _ {X Y : Type 0} (P : Naming → X → Type 0) (Q : Naming → Y → Type 0) where
  on : (s t : Naming) (r : Result (Naming × Y) Refusal) → Grows s t → Keeps Q t r → Keeps Q s r
  on s t (Ok y) g k = (grows_on s t y.0 g k.0, k.1)
  on s t (Err e) g k = tt

  -- one place behind another
  pub keeps_then : (s : Naming) (r : Result (Naming × X) Refusal) (f : Naming × X → Result (Naming × Y) Refusal) → Keeps P s r
      → ((x : Naming × X) → Grows s x.0 → P x.0 x.1 → Keeps Q x.0 (f x)) → Keeps Q s (r >>= f)
  keeps_then s (Ok x) f k h = on s x.0 (f x) k.0 (h x k.0 k.1)
  keeps_then s (Err e) f k h = tt

module _ {X : Type 0} (Q : Naming → X → Type 0) (s : Naming) where
  pub keeps_if : (b : Bool) (r q : Result (Naming × X) Refusal) → Keeps Q s r → Keeps Q s q → Keeps Q s (cond b r q)
  keeps_if true r q h k = h
  keeps_if false r q h k = k

abbrev pub Anything : {X : Type 0} → Naming → X → Type 0
Anything s x = Unit {0}

abbrev pub OfKind : Kind → Naming → Term → Type 0
OfKind kind s p = IsTerm (bare s.terms) p kind

-- a name that stands nowhere
test_same : (name x : List ℕ) (b : Bool) → bytes_eq name x ≡ b → x ≡ name → b ≡ true
test_same name x true e h = refl
test_same name x false e h = absurd (other_text name x (sym e) (sym h))

some_same : (x y : List ℕ) → Some x ≡ Some y → x ≡ y
some_same x y e = cc

none_here : (name : List ℕ) (xs : List (List ℕ)) → length xs ≤ position_or_len (bytes_eq name) xs → (j : ℕ) → ¬ (slice_get xs j ≡ Some name)
none_here name [] l j e = cc
none_here name (x ∷ xs) l j e = by (bytes_eq name x) refl j l e (λ k. none_here name xs k)
  where
    by : (b : Bool) → bytes_eq name x ≡ b → (j : ℕ) → length (x ∷ xs) ≤ cond (not b) (1 + position_or_len (bytes_eq name) xs) 0 → slice_get (x ∷ xs) j ≡ Some name
        → (length xs ≤ position_or_len (bytes_eq name) xs → (i : ℕ) → ¬ (slice_get xs i ≡ Some name)) → ⊥
    by true t j l e rest = omega arith
    by false t zero l e rest = false≢true (test_same name x false t (some_same x name e))
    by false t (suc j) l e rest = rest (omega arith) j e

position_none : (p : List ℕ → Bool) (xs : List (List ℕ)) (b : Bool) → nat_lt (position_or_len p xs) (length xs) ≡ b → cond b (Some (position_or_len p xs)) None ≡ None → length xs ≤ position_or_len p xs
position_none p xs true l e = cc
position_none p xs false l e = ltb-false (position_or_len p xs) (length xs) l

pub no_place : (name : List ℕ) (xs : List (List ℕ)) → position (bytes_eq name) xs ≡ None → (j : ℕ) → ¬ (slice_get xs j ≡ Some name)
no_place name xs e = none_here name xs (position_none (bytes_eq name) xs (nat_lt (position_or_len (bytes_eq name) xs) (length xs)) refl e)

kind_same : (one other : Kind) → same_kind one other ≡ true → one ≡ other
kind_same kinds.Class kinds.Class e = refl
kind_same kinds.Role kinds.Role e = refl
kind_same kinds.Attr kinds.Attr e = refl
kind_same kinds.Note kinds.Note e = refl
kind_same kinds.Class kinds.Role e = absurd (false≢true e)
kind_same kinds.Class kinds.Attr e = absurd (false≢true e)
kind_same kinds.Class kinds.Note e = absurd (false≢true e)
kind_same kinds.Role kinds.Class e = absurd (false≢true e)
kind_same kinds.Role kinds.Attr e = absurd (false≢true e)
kind_same kinds.Role kinds.Note e = absurd (false≢true e)
kind_same kinds.Attr kinds.Class e = absurd (false≢true e)
kind_same kinds.Attr kinds.Role e = absurd (false≢true e)
kind_same kinds.Attr kinds.Note e = absurd (false≢true e)
kind_same kinds.Note kinds.Class e = absurd (false≢true e)
kind_same kinds.Note kinds.Role e = absurd (false≢true e)
kind_same kinds.Note kinds.Attr e = absurd (false≢true e)

module _ (kind : Kind) (s : Naming) (line : ℕ) (name : List ℕ) where
  known_keeps : (number : ℕ) (o : Option (List ℕ × Kind)) → slice_get s.terms number ≡ o → Keeps (OfKind kind) s (known s kind line number o)
  known_keeps number None e = tt
  known_keeps number (Some entry) e = by (same_kind entry.1 kind) refl
    where
      by : (b : Bool) → same_kind entry.1 kind ≡ b → Keeps (OfKind kind) s (cond b (Ok (s, term number)) (Err (line, refused.TwoKinds)))
      by true h = (grows_not s, (entry.0, e ∙ ap (λ (k : Kind). Some (entry.0, k)) (kind_same entry.1 kind h)))
      by false h = tt

  one_more : position (bytes_eq name) (names_of s.terms) ≡ None → length s.terms < most_terms → IsSound s.terms → IsSound (s.terms ++ (name, kind) ∷ [])
  one_more none low h = record {
    once = once_more s.terms (name, kind) h.once (no_place name (names_of s.terms) none);
    few = let l = length-append s.terms ((name, kind) ∷ []) in omega (arith, l, low);
  }

  added_keeps : position (bytes_eq name) (names_of s.terms) ≡ None → (b : Bool) → nat_lt (length s.terms) most_terms ≡ b
      → Keeps (OfKind kind) s (cond b (Ok (record { prefixes = s.prefixes; terms = s.terms ++ (name, kind) ∷ [] }, term (length s.terms))) (Err (line, refused.TooManyTerms)))
  added_keeps none true e = (
    record { later = (name, kind) ∷ []; is = refl; sound = one_more none (ltb-true (length s.terms) most_terms e) },
    (name, get_last s.terms (name, kind)),
  )
  added_keeps none false e = tt

  placed_keeps : (o : Option ℕ) → position (bytes_eq name) (names_of s.terms) ≡ o → Keeps (OfKind kind) s (placed s kind line name o)
  placed_keeps None e = added_keeps e (nat_lt (length s.terms) most_terms) refl
  placed_keeps (Some number) e = known_keeps number (slice_get s.terms number) refl

  pub term_keeps : Keeps (OfKind kind) s (term_named kind s line name)
  unfolding term_named numbered
  term_keeps = keeps_if (OfKind kind) s (is_barred kind name) (Err (line, refused.NotDlLite)) (numbered kind s line name) tt (placed_keeps (position (bytes_eq name) (names_of s.terms)) refl)

-- a name at its place leaves the terms as they are
pub same_scope : {X : Type 0} (s : Naming) (r : Result X Refusal) → Keeps {X = X} Anything s (r >>= λ x. Ok (s, x))
same_scope s (Ok x) = (grows_not s, tt)
same_scope s (Err e) = tt

pub name_keeps : (blanks : ReadKind) (s : Naming) (item : Item) → Keeps {X = List ℕ} Anything s (name_at blanks s item)
unfolding name_at
name_keeps blanks s (Single (iri line text)) = (grows_not s, tt)
name_keeps blanks s (Single (prefixed line prefix local)) = same_scope s (resolved s.prefixes line prefix local)
name_keeps blanks s (Single (blank line label)) = tt
name_keeps blanks s (Single (digits line text)) = tt
name_keeps blanks s (Single (literal line text tag datatype)) = tt
name_keeps blanks s (Word line text args) = tt
name_keeps blanks s (Group line args) = tt

pub property_keeps : (kind : Kind) (s : Naming) (item : Item) → Keeps (OfKind kind) s (property_at kind s item)
unfolding property_at
property_keeps kind s item =
    keeps_then {X = List ℕ} Anything (OfKind kind) s (name_at refused.Syntax s item) (λ name. term_named kind name.0 (line_of item) name.1) (name_keeps refused.Syntax s item)
    (λ name g t. term_keeps kind name.0 (line_of item) name.1)
