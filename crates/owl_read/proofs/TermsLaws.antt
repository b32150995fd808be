-- Terms copied into a map and out of it, one after another.
use Rattle.std.proofs.Common.{◌≡◌, ℕ, suc, ◌<◌, ◌+◌, Bool, true, false, cond, not, List, [], ◌∷◌, ◌++◌, Some, None, length, take, drop, get_or, map, position, refl, sym, ◌∙◌, ap, subst, arith, ⊎_elim}
use Rattle.std.specs.Prelude.{Vec, slice_get, nat_lt}
use Rattle.std.specs.Option.{option_map}
use Rattle.std.specs.List.{position_or_len}
use Rattle.std.specs.Str.{bytes_eq}
use Rattle.std.specs.Cmp.Lexicographic.{same_text}
use Rattle.std.proofs.lemmas.Bool.{le-ltb}
use Rattle.std.proofs.lemmas.List.{take-append-drop, length-take-le}
use Rattle.std.proofs.lemmas.Option.{slice_get-map, slice_get_within, slice_get_cases, slice_get_read, get_or_from_slice_get}
use Rattle.indexmap.specs.IndexMap.{insert_entry}
use Rattle.dl_base.specs.declared.terms.Kind.{Kind}
use Rattle.dl_base.specs.Ontologies.{AreNamedOnce}
use Rattle.dl_base.specs.Vocabularies.{names_of, bare}
use Rattle.dl_base.proofs.Places.{get_left}
use Rattle.dl_base.proofs.VocabularyLaws.{take_on}
use Rattle.owl_read.specs.Scopes.{Terms}
use Rattle.owl_read.proofs.ScopeLaws.{Entry, term_of, entered, terms_more}

-- a name that stands nowhere has no place
past_all : (name : List ℕ) (xs : List (List ℕ)) → ((j : ℕ) → ¬ (slice_get xs j ≡ Some name)) → position_or_len (bytes_eq name) xs ≡ length xs
past_all name [] h = refl
past_all name (x ∷ xs) h = by (bytes_eq name x) refl (past_all name xs (λ j e. h (suc j) e))
  where
    by : (b : Bool) → bytes_eq name x ≡ b → position_or_len (bytes_eq name) xs ≡ length xs → cond (not b) (1 + position_or_len (bytes_eq name) xs) 0 ≡ length (x ∷ xs)
    by true e k = absurd (h 0 (ap Some (sym (same_text name x (sym e)))))
    by false e k = omega (arith, k)

pub fresh_none : (name : List ℕ) (xs : List (List ℕ)) → ((j : ℕ) → ¬ (slice_get xs j ≡ Some name)) → position (bytes_eq name) xs ≡ None
fresh_none name xs h =
    let n = past_all name xs h in
    let l : nat_lt (position_or_len (bytes_eq name) xs) (length xs) ≡ false = le-ltb (position_or_len (bytes_eq name) xs) (length xs) (omega (arith, n)) in
    ap (λ (b : Bool). cond b (Some (position_or_len (bytes_eq name) xs)) None) l

some_is : (x y : List ℕ) → Some x ≡ Some y → x ≡ y
some_is x y e = cc

module _ (base : Terms) (once : AreNamedOnce (bare base)) (i : ℕ) (t : List ℕ × Kind) (within : i < length base) (is : t ≡ get_or base i t) where
  -- a name stands in front of its place nowhere
  not_before : (j : ℕ) → ¬ (slice_get (names_of (take i base)) j ≡ Some t.0)
  not_before j e = ⊎_elim
      (λ (u, l, g, r).
      let same : u.0 ≡ t.0 = some_is u.0 t.0 (sym (ap (option_map (λ (z : List ℕ × Kind). z.0)) g) ∙ sym (slice_get-map (λ (z : List ℕ × Kind). z.0) (take i base) j) ∙ e) in
      let low = slice_get_within (take i base) j u g in
      let fewer = length-take-le i base in
      let here : slice_get base j ≡ Some u = subst (λ (ts : Terms). slice_get ts j ≡ Some u) (take-append-drop i base) (get_left (take i base) (drop i base) j u g) in
      once j i u t (omega (arith, low, fewer)) here (slice_get_read base (length base) i t refl within is) same)
      (λ (l, g). let no : None ≡ Some t.0 = sym (ap (option_map (λ (z : List ℕ × Kind). z.0)) g) ∙ sym (slice_get-map (λ (z : List ℕ × Kind). z.0) (take i base) j) ∙ e in cc)
      (slice_get_cases (take i base) j).1

  -- one term more
  pub copied_more : {A : Type 0} (entries more : List (Entry A)) (key : Vec ℕ A) → key.items ≡ t.0 → map term_of entries ≡ take i base
      → more ≡ insert_entry (λ (x y : Vec ℕ A). bytes_eq x.items y.items) entries key t.1 → map term_of more ≡ take (i + 1) base
  copied_more {A} entries more key bytes so_far inserted =
      let none = ap (λ (ts : Terms). position (bytes_eq t.0) (names_of ts)) so_far ∙ fresh_none t.0 (names_of (take i base)) not_before in
      ap (λ (es : List (Entry A)). map term_of es) (inserted ∙ entered entries t.1 t.0 key bytes none)
      ∙ terms_more entries t.1 t.0 key bytes ∙ ap (λ (ts : Terms). ts ++ t ∷ []) so_far ∙ sym (take_on base i t within is)

-- the list up to here with the element that stands here
pub take_here : {X : Type 0} (xs : List X) (i : ℕ) (x : X) → slice_get xs i ≡ Some x → take (i + 1) xs ≡ take i xs ++ x ∷ []
take_here xs i x e = take_on xs i x (slice_get_within xs i x e) (sym (get_or_from_slice_get xs i x x e))
