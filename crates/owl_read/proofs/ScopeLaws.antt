-- Names and terms.
use Rattle.std.proofs.Common.{◌≡◌, ℕ, ◌<◌, ◌≤◌, Bool, true, false, cond, List, [], ◌∷◌, ◌++◌, Some, None, Result, Ok, Err, length, refl, sym, ◌∙◌, ap, ⊎_elim}
use Rattle.std.specs.Prelude.{All, IsTrue, nat_le, nat_lt, ◌&&◌, ◌==◌}
use Rattle.std.specs.Prelude.{Vec, map, position, slice_get}
use Rattle.std.specs.Option.{option_map}
use Rattle.std.specs.List.{position_or_len}
use Rattle.std.specs.Prelude.{not, ◌+◌}
use Rattle.std.proofs.lemmas.List.{length-map, map-append}
use Rattle.indexmap.specs.IndexMap.{insert_entry}
use Rattle.indexmap.proofs.MapLemmas.{Missing-position, insert_entry-absent}
use Rattle.std.specs.Str.{bytes_eq}
use Rattle.std.proofs.lemmas.Option.{slice_get-map}
use Rattle.dl_base.specs.declared.terms.Kind.{Kind}
use Rattle.dl_base.specs.Vocabularies.{names_of}
use Rattle.std.specs.List.{list_all}
use Rattle.std.specs.Char.{is_ascii_alphabetic}
use Rattle.std.proofs.lemmas.Bool.{false≢true, eqb-true, eq-eqb, and_parts, and_from, or_cases, or_left, or_right, cases_eq, cond-true, cond-false, le-leb, lt-leb, lt-ltb, le-ltb, false_from_ne_true}
use Rattle.std.proofs.lemmas.List.Elements.{All-nil, All-cons, All-head, All-tail}
use Rattle.dl_text.proofs.IriLaws.{has_more, has_now, has_less, has_none}
use Rattle.dl_text.specs.declared.kinds.ReadKind.TheVariants as kinds
use Rattle.dl_text.specs.Iris.{is_iri_byte, is_scheme_byte, HasScheme, IsAbsolute, IsIri}
use Rattle.dl_text.specs.Outcomes.{longest_iri}
use Rattle.dl_text.specs.Prefixes.{Bindings, Expands, Resolves}
use Rattle.dl_text.specs.declared.faults.TextFault.{TextFault}
use Rattle.dl_text.specs.declared.faults.TextFault.TheVariants as faults
use Rattle.owl_read.specs.Outcomes.{Refusal, Fails, refusal_at}
use Rattle.owl_read.specs.Scopes.{Naming, has_scheme, is_absolute, is_iri, named, expanded, resolved, same_kind, term, known, added, placed, numbered, most_terms}

-- a name or the refusal that its fault leads to
abbrev pub Names : ℕ → Result (List ℕ) TextFault → Result (List ℕ) Refusal → Type 0
Names line (Ok name) read = read ≡ Ok name
Names line (Err fault) read = Fails (refusal_at line fault) read

scheme_forth : (bs : List ℕ) → has_scheme bs ≡ true → HasScheme bs
scheme_forth [] e = absurd (false≢true e)
scheme_forth (b ∷ bs) e = ⊎_elim
    (λ h. has_now b bs (eqb-true b 58 h))
    (λ h. let p = and_parts (is_scheme_byte b) (has_scheme bs) h in has_more b bs p.0 (scheme_forth bs p.1))
    (or_cases (b == 58) (is_scheme_byte b && has_scheme bs) e)

scheme_back : (bs : List ℕ) → HasScheme bs → has_scheme bs ≡ true
scheme_back [] h = absurd (has_none h)
scheme_back (b ∷ bs) h = ⊎_elim
    (λ e. or_left (b == 58) (is_scheme_byte b && has_scheme bs) (eq-eqb b 58 e))
    (λ n. let p = has_less b bs n h in or_right (b == 58) (is_scheme_byte b && has_scheme bs) (and_from (is_scheme_byte b) (has_scheme bs) p.0 (scheme_back bs p.1)))
    (cases_eq b 58)

absolute_forth : (bs : List ℕ) → is_absolute bs ≡ true → IsAbsolute bs
absolute_forth [] e = absurd (false≢true e)
absolute_forth (b ∷ bs) e = let p = and_parts (is_ascii_alphabetic b) (has_scheme bs) e in (p.0, scheme_forth bs p.1)

absolute_back : (bs : List ℕ) → IsAbsolute bs → is_absolute bs ≡ true
absolute_back [] h = absurd h
absolute_back (b ∷ bs) h = and_from (is_ascii_alphabetic b) (has_scheme bs) h.0 (scheme_back bs h.1)

module _ (p : ℕ → Bool) where
  abbrev Passes : ℕ → Type 0
  Passes b = IsTrue (p b)

  pub all_forth : (xs : List ℕ) → list_all p xs ≡ true → All (λ b. IsTrue (p b)) xs
  all_forth [] e = All-nil Passes
  all_forth (x ∷ xs) e = let h = and_parts (p x) (list_all p xs) e in All-cons Passes x xs h.0 (all_forth xs h.1)

  pub all_back : (xs : List ℕ) → All (λ b. IsTrue (p b)) xs → list_all p xs ≡ true
  all_back [] h = refl
  all_back (x ∷ xs) h = and_from (p x) (list_all p xs) (All-head Passes x xs h) (all_back xs (All-tail Passes x xs h))

-- the test says what the definition says
pub iri_forth : (text : List ℕ) → is_iri text ≡ true → IsIri text
unfolding is_iri
iri_forth text e =
    let h = and_parts (is_absolute text) (list_all is_iri_byte text) e in
    record { absolute = absolute_forth text h.0; clean = all_forth is_iri_byte text h.1 }

pub iri_back : (text : List ℕ) → IsIri text → is_iri text ≡ true
unfolding is_iri
iri_back text h = and_from (is_absolute text) (list_all is_iri_byte text) (absolute_back text h.absolute) (all_back is_iri_byte text h.clean)

no_iri : (text : List ℕ) → ¬ IsIri text → is_iri text ≡ false
no_iri text n = false_from_ne_true (is_iri text) (λ e. n (iri_forth text e))

module _ (line : ℕ) (text : List ℕ) where
  abbrev Sized : Result (List ℕ) Refusal
  Sized = cond (nat_le (length text) longest_iri) (Ok text) (Err (line, kinds.NameTooLong))

  named_fits : IsIri text → length text ≤ longest_iri → named line text ≡ Ok text
  named_fits h l = cond-true (is_iri text) Sized (Err (line, kinds.BadIri)) (iri_back text h) ∙ cond-true (nat_le (length text) longest_iri) (Ok text) (Err (line, kinds.NameTooLong)) (le-leb (length text) longest_iri l)

  named_long : IsIri text → longest_iri < length text → named line text ≡ Err (line, kinds.NameTooLong)
  named_long h l = cond-true (is_iri text) Sized (Err (line, kinds.BadIri)) (iri_back text h) ∙ cond-false (nat_le (length text) longest_iri) (Ok text) (Err (line, kinds.NameTooLong)) (lt-leb (length text) longest_iri l)

  named_bad : ¬ IsIri text → named line text ≡ Err (line, kinds.BadIri)
  named_bad n = cond-false (is_iri text) Sized (Err (line, kinds.BadIri)) (no_iri text n)

module _ (bindings : Bindings) (line : ℕ) (prefix local : List ℕ) where
  expands_is : (text : List ℕ) → Expands bindings prefix local false text → resolved bindings line prefix local ≡ named line text
  unfolding resolved
  expands_is text h =
      ap (expanded line local) h.bound ∙ ap (λ (t : List ℕ). named line t) (sym (h.is ∙ ap (λ (l : List ℕ). h.iri ++ l) h.written))

  pub resolves_is : (r : Result (List ℕ) TextFault) → Resolves bindings prefix local false r → Names line r (resolved bindings line prefix local)
  unfolding resolved
  resolves_is (Ok name) h = expands_is name h.0 ∙ named_fits line name h.1 h.2
  resolves_is (Err faults.UnknownPrefix) h = ap (expanded line local) h
  resolves_is (Err faults.BadEscape) h = absurd (h.1 local refl)
  resolves_is (Err faults.BadIri) h = expands_is h.0 h.1 ∙ named_bad line h.0 h.2
  resolves_is (Err faults.NameTooLong) h = expands_is h.0 h.1 ∙ named_long line h.0 h.2 h.3
  resolves_is (Err faults.OutOfMemory) h = tt
  resolves_is (Err faults.BadLiteral) h = absurd h

module _ {X Y : Type 0} (p : Y → Bool) (f : X → Y) where
  place_map : (xs : List X) → position_or_len (λ x. p (f x)) xs ≡ position_or_len p (map f xs)
  place_map [] = refl
  place_map (x ∷ xs) = ap (λ (n : ℕ). cond (not (p (f x))) (1 + n) 0) (place_map xs)

  position_map : (xs : List X) → position (λ x. p (f x)) xs ≡ position p (map f xs)
  position_map xs = λ i. let n = place_map xs i in cond (nat_lt n (sym (length-map xs f) i)) (Some n) None

abbrev pub Entry : Type 0 → Type 0
Entry A = Vec ℕ A × Kind

module _ {A : Type 0} where
  abbrev pub term_of : Entry A → List ℕ × Kind
  term_of e = (e.0.items, e.1)

  abbrev pub naming : Bindings → List (Entry A) → Naming
  naming prefixes entries = record { prefixes = prefixes; terms = map term_of entries }

  names_are : (entries : List (Entry A)) → names_of (map term_of entries) ≡ map (λ (k : Vec ℕ A). k.items) (map (λ (e : Entry A). e.0) entries)
  names_are [] = refl
  names_are (e ∷ entries) = ap (λ (ns : List (List ℕ)). e.0.items ∷ ns) (names_are entries)

  -- the place of the name among the terms is that of its key
  pub place_is : (name : List ℕ) (entries : List (Entry A)) → position (bytes_eq name) (names_of (map term_of entries)) ≡ position (λ (k : Vec ℕ A). bytes_eq name k.items) (map (λ (e : Entry A). e.0) entries)
  place_is name entries = ap (position (bytes_eq name)) (names_are entries) ∙ sym (position_map (bytes_eq name) (λ (k : Vec ℕ A). k.items) (map (λ (e : Entry A). e.0) entries))

  -- the term that has the name
  pub numbered_known : (prefixes : Bindings) (entries : List (Entry A)) (kind held : Kind) (line number : ℕ) (name : List ℕ) (key : Vec ℕ A)
      → Some number ≡ position (λ (k : Vec ℕ A). bytes_eq name k.items) (map (λ (e : Entry A). e.0) entries) → slice_get entries number ≡ Some (key, held)
      → numbered kind (naming prefixes entries) line name ≡ cond (same_kind held kind) (Ok (naming prefixes entries, term number)) (Err (line, kinds.TwoKinds))
  unfolding numbered
  numbered_known prefixes entries kind held line number name key at is =
      ap (placed (naming prefixes entries) kind line name) (place_is name entries ∙ sym at)
      ∙ ap (known (naming prefixes entries) kind line number) (slice_get-map term_of entries number ∙ ap (option_map term_of) is)

  -- the name is new
  pub numbered_new : (prefixes : Bindings) (entries : List (Entry A)) (kind : Kind) (line : ℕ) (name : List ℕ)
      → None ≡ position (λ (k : Vec ℕ A). bytes_eq name k.items) (map (λ (e : Entry A). e.0) entries)
      → numbered kind (naming prefixes entries) line name ≡ added (naming prefixes entries) kind line name
  unfolding numbered
  numbered_new prefixes entries kind line name at = ap (placed (naming prefixes entries) kind line name) (place_is name entries ∙ sym at)

  -- a name that no term has is a new key, which comes last
  pub entered : (entries : List (Entry A)) (kind : Kind) (name : List ℕ) (key : Vec ℕ A) → key.items ≡ name → position (bytes_eq name) (names_of (map term_of entries)) ≡ None
      → insert_entry (λ (x y : Vec ℕ A). bytes_eq x.items y.items) entries key kind ≡ entries ++ (key, kind) ∷ []
  entered entries kind name key is none =
      insert_entry-absent (λ (x y : Vec ℕ A). bytes_eq x.items y.items) key kind entries
      (Missing-position (λ (k : Vec ℕ A). bytes_eq key.items k.items) entries
      (ap (λ (n : List ℕ). position (λ (k : Vec ℕ A). bytes_eq n k.items) (map (λ (e : Entry A). e.0) entries)) is ∙ sym (place_is name entries) ∙ none)).absent

  -- the terms with one more
  pub terms_more : (entries : List (Entry A)) (kind : Kind) (name : List ℕ) (key : Vec ℕ A) → key.items ≡ name → map term_of (entries ++ (key, kind) ∷ []) ≡ map term_of entries ++ (name, kind) ∷ []
  terms_more entries kind name key is = map-append term_of entries ((key, kind) ∷ []) ∙ ap (λ (n : List ℕ). map term_of entries ++ (n, kind) ∷ []) is

  pub added_fits : (prefixes : Bindings) (entries more : List (Entry A)) (kind : Kind) (line : ℕ) (name : List ℕ) (key : Vec ℕ A) → key.items ≡ name
      → position (bytes_eq name) (names_of (map term_of entries)) ≡ None → length entries < most_terms
      → more ≡ insert_entry (λ (x y : Vec ℕ A). bytes_eq x.items y.items) entries key kind
      → added (naming prefixes entries) kind line name ≡ Ok (naming prefixes more, term (length entries))
  added_fits prefixes entries more kind line name key is none low e =
      let l : length (map term_of entries) < most_terms = rw length-map low in
      let terms = sym (ap (λ (es : List (Entry A)). map term_of es) (e ∙ entered entries kind name key is none) ∙ terms_more entries kind name key is) in
      cond-true (nat_lt (length (map term_of entries)) most_terms) _ _ (lt-ltb (length (map term_of entries)) most_terms l)
      ∙ (λ i. Ok (record { prefixes = prefixes; terms = terms i }, term (length-map entries term_of i)))

  pub added_full : (prefixes : Bindings) (entries : List (Entry A)) (kind : Kind) (line : ℕ) (name : List ℕ) → most_terms ≤ length entries
      → added (naming prefixes entries) kind line name ≡ Err (line, kinds.TooManyTerms)
  added_full prefixes entries kind line name full =
      let l : most_terms ≤ length (map term_of entries) = rw length-map full in
      cond-false (nat_lt (length (map term_of entries)) most_terms) _ _ (le-ltb (length (map term_of entries)) most_terms l)
