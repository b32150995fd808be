-- Terms by name: the keys of a set in the order of the terms.
use Rattle.std.proofs.Common.{◌⊎◌, inl, inr, ◌≡◌, ℕ, zero, suc, ◌<◌, ◌≤◌, ◌+◌, Bool, true, false, not, cond, ◌||◌, List, [], ◌∷◌, ◌++◌, Some, None, length, take, drop, get_or, map, position, refl, sym, ◌∙◌, ap, subst, arith, ⊎_elim}
use Rattle.std.specs.Prelude.{slice_get, nat_eq, nat_lt, Vec}
use Rattle.std.specs.Option.{option_map}
use Rattle.std.specs.List.{position_or_len, list_any}
use Rattle.std.specs.Cmp.Lexicographic.{pointwise, same_text, other_text}
use Rattle.std.proofs.lemmas.Bool.{false≢true, ltb-true, ltb-false}
use Rattle.std.proofs.lemmas.List.{map-append, take-append-drop, length-map, length-take-le}
use Rattle.std.proofs.lemmas.List.Sums.{passes_at_first, fails_before_first}
use Rattle.std.proofs.lemmas.Option.{slice_get-map, slice_get_within, slice_get_cases, slice_get_read, get_or_from_slice_get}
use Rattle.dl_base.specs.declared.terms.Kind.{Kind}
use Rattle.std.specs.Prelude.{Contains}
use Rattle.std.proofs.lemmas.List.Elements.{Contains-append_left, All-contains}
use Rattle.dl_base.specs.declared.axioms.Axiom.{Axiom}
use Rattle.dl_base.specs.declared.refusals.OntologyRefusal.{OntologyRefusal}
use Rattle.dl_base.specs.declared.refusals.OntologyRefusal.TheVariants as refusal
use Rattle.dl_base.specs.Ontologies.{Theory, KnowsAxiom, IsKnown, AreNamedOnce}
use Rattle.dl_base.specs.Validity.{IsValid, IsOntology}
use Rattle.dl_base.specs.Vocabularies.{names_of, AreNumbered, bare, HasNoTerm, IsFirstRepeat, IsFirstUnknown, IsFirstSpecialised, IsRefused}
use Rattle.dl_base.proofs.Places.{get_left, get_cases}
use Rattle.dl_base.proofs.VocabularyLaws.{take_on, valid_none_twice, none_twice_valid}

position_found : {X : Type 0} (p : X → Bool) (xs : List X) (i : ℕ) (b : Bool) → nat_lt (position_or_len p xs) (length xs) ≡ b
    → cond b (Some (position_or_len p xs)) None ≡ Some i → (position_or_len p xs ≡ i) × (b ≡ true)
position_found p xs i true l e = (cc, refl)
position_found p xs i false l e = cc

position_missing : {X : Type 0} (p : X → Bool) (xs : List X) (b : Bool) → nat_lt (position_or_len p xs) (length xs) ≡ b
    → cond b (Some (position_or_len p xs)) None ≡ None → b ≡ false
position_missing p xs true l e = cc
position_missing p xs false l e = refl

some_is : {X : Type 0} (x y : X) → Some x ≡ Some y → x ≡ y
some_is x y e = cc

module _ {A : Type 0} (name : List ℕ) where
  abbrev Test : Vec ℕ A → Bool
  Test k = pointwise nat_eq name k.items

  tests_name : (k : Vec ℕ A) → name ≡ k.items → Test k ≡ true
  tests_name k e = by (Test k) refl
    where
      by : (b : Bool) → Test k ≡ b → b ≡ true
      by true h = refl
      by false h = absurd (other_text name k.items (sym h) e)

  -- at the place at which the name is found stands its term
  pub named_at : (terms : List (List ℕ × Kind)) (keys : List (Vec ℕ A)) (i : ℕ) → AreNumbered terms keys
      → Some i ≡ position Test keys → (t : List ℕ × Kind) × (slice_get terms i ≡ Some t) × (t.0 ≡ name)
  named_at terms keys i num found =
      let here = position_found Test keys i _ refl (sym found) in
      let low = ltb-true (position_or_len Test keys) (length keys) here.1 in
      ⊎_elim
      (λ (k, l, g, r).
      let key : name ≡ k.items = same_text name k.items (sym (subst (λ (z : Vec ℕ A). Test z ≡ true) (ap (λ j. get_or keys j k) here.0 ∙ r) (passes_at_first Test keys k low))) in
      let at : option_map (λ (z : List ℕ × Kind). z.0) (slice_get terms i) ≡ Some k.items =
      sym (slice_get-map (λ (z : List ℕ × Kind). z.0) terms i) ∙ ap (λ (zs : List (List ℕ)). slice_get zs i) (sym num)
      ∙ slice_get-map (λ (v : Vec ℕ A). v.items) keys i ∙ ap (option_map (λ (v : Vec ℕ A). v.items)) g in
      ⊎_elim
      (λ (t, m, h, u). (t, h, some_is t.0 k.items (sym (ap (option_map (λ (z : List ℕ × Kind). z.0)) h) ∙ at) ∙ sym key))
      (λ (m, h). let bad : None ≡ Some k.items = sym (ap (option_map (λ (z : List ℕ × Kind). z.0)) h) ∙ at in cc)
      (slice_get_cases terms i).1)
      (λ (l, g). let bad : ⊥ = (let h = here.0 in omega (arith, low, h, l)) in absurd bad)
      (slice_get_cases keys i).1

  -- where the name isn't found, no term has it
  pub named_nowhere : (terms : List (List ℕ × Kind)) (keys : List (Vec ℕ A)) → AreNumbered terms keys → None ≡ position Test keys → HasNoTerm terms name
  named_nowhere terms keys num missing i kind e =
      let past = ltb-false (position_or_len Test keys) (length keys) (position_missing Test keys _ refl (sym missing)) in
      let key : option_map (λ (v : Vec ℕ A). v.items) (slice_get keys i) ≡ Some name =
      sym (slice_get-map (λ (v : Vec ℕ A). v.items) keys i) ∙ ap (λ (zs : List (List ℕ)). slice_get zs i) num ∙ slice_get-map (λ (z : List ℕ × Kind). z.0) terms i ∙ ap (option_map (λ (z : List ℕ × Kind). z.0)) e in
      ⊎_elim
      (λ (k, l, g, r).
      let low : i < position_or_len Test keys = omega (arith, l, past) in
      let same : name ≡ k.items = sym (some_is k.items name (sym (ap (option_map (λ (v : Vec ℕ A). v.items)) g) ∙ key)) in
      false≢true (sym (subst (λ z. Test z ≡ false) r (fails_before_first Test keys i k low)) ∙ tests_name k same))
      (λ (l, g). let no : None ≡ Some name = sym (ap (option_map (λ (v : Vec ℕ A). v.items)) g) ∙ key in cc)
      (slice_get_cases keys i).1

  -- a name among the keys stands at a place
  pub any_at : (keys : List (Vec ℕ A)) → list_any Test keys ≡ true → (j : ℕ) × (slice_get (map (λ (v : Vec ℕ A). v.items) keys) j ≡ Some name)
  any_at [] h = absurd (false≢true h)
  any_at (k ∷ keys) h = by (Test k) refl h (any_at keys)
    where
      by : (b : Bool) → Test k ≡ b → (b || list_any Test keys) ≡ true
          → (list_any Test keys ≡ true → (j : ℕ) × (slice_get (map (λ (v : Vec ℕ A). v.items) keys) j ≡ Some name))
          → (j : ℕ) × (slice_get (map (λ (v : Vec ℕ A). v.items) (k ∷ keys)) j ≡ Some name)
      by true e g rest = (0, ap Some (sym (same_text name k.items (sym e))))
      by false e g rest = (suc (rest g).0, (rest g).1)

  pub none_at : (keys : List (Vec ℕ A)) → list_any Test keys ≡ false → (j : ℕ) → ¬ (slice_get (map (λ (v : Vec ℕ A). v.items) keys) j ≡ Some name)
  none_at [] h j e = cc
  none_at (k ∷ keys) h j e = by (Test k) refl h (none_at keys) j e
    where
      by : (b : Bool) → Test k ≡ b → (b || list_any Test keys) ≡ false
          → (list_any Test keys ≡ false → (j : ℕ) → ¬ (slice_get (map (λ (v : Vec ℕ A). v.items) keys) j ≡ Some name))
          → (j : ℕ) → ¬ (slice_get (map (λ (v : Vec ℕ A). v.items) (k ∷ keys)) j ≡ Some name)
      by true t g rest j e = absurd (false≢true (sym g))
      by false t g rest zero e = false≢true (sym t ∙ tests_name k (sym (some_is k.items name e)))
      by false t g rest (suc j) e = rest g j e

-- one more name that didn't stand before
pub once_more : (xs : List (List ℕ × Kind)) (t : List ℕ × Kind) → AreNamedOnce (bare xs) → ((j : ℕ) → ¬ (slice_get (names_of xs) j ≡ Some t.0)) → AreNamedOnce (bare (xs ++ t ∷ []))
once_more xs t once fresh i j r s l e f same = ⊎_elim
    (λ g. once i j r s l (⊎_elim (λ h. h) (λ h. let no : ⊥ = (let w = slice_get_within xs j s g in omega (arith, l, h.0, w)) in absurd no) (get_cases xs t i r e)) g same)
    (λ (at, is). ⊎_elim
    (λ h. fresh i (slice_get-map (λ (z : List ℕ × Kind). z.0) xs i ∙ ap (option_map (λ (z : List ℕ × Kind). z.0)) h ∙ ap Some (same ∙ sym (ap (λ (z : List ℕ × Kind). z.0) is))))
    (λ h. let no : ⊥ = omega (arith, l, h.0, at) in absurd no)
    (get_cases xs t i r e))
    (get_cases xs t j s f)

pub numbered_more : {A : Type 0} (xs : List (List ℕ × Kind)) (keys : List (Vec ℕ A)) (t : List ℕ × Kind) (k : Vec ℕ A) → AreNumbered xs keys → k.items ≡ t.0 → AreNumbered (xs ++ t ∷ []) (keys ++ k ∷ [])
numbered_more {A} xs keys t k num e =
    map-append (λ (v : Vec ℕ A). v.items) keys (k ∷ []) ∙ (λ i. num i ++ e i ∷ []) ∙ sym (map-append (λ (z : List ℕ × Kind). z.0) xs (t ∷ []))

not_true : (b c : Bool) → c ≡ not b → c ≡ true → b ≡ false
not_true true c e h = absurd (false≢true (sym e ∙ h))
not_true false c e h = refl

not_false : (b c : Bool) → c ≡ not b → c ≡ false → b ≡ true
not_false true c e h = refl
not_false false c e h = absurd (false≢true (sym h ∙ e))

module _ {A : Type 0} (terms : List (List ℕ × Kind)) (keys : List (Vec ℕ A)) (i : ℕ) (t : List ℕ × Kind) (k : Vec ℕ A)
    (within : i < length terms) (is : t ≡ get_or terms i t) (bytes : k.items ≡ t.0) (num : AreNumbered (take i terms) keys) where
  abbrev Same : Vec ℕ A → Bool
  Same = λ (v : Vec ℕ A). pointwise nat_eq k.items v.items

  names_split : names_of (take i terms) ++ names_of (drop i terms) ≡ names_of terms
  names_split = sym (map-append (λ (z : List ℕ × Kind). z.0) (take i terms) (drop i terms)) ∙ ap names_of (take-append-drop i terms)

  -- a name that was among the keys stood before
  pub found_twice : {new : Bool} → new ≡ not (list_any Same keys) → new ≡ false
      → (j : ℕ) × (name : List ℕ) × (j < i) × (slice_get (names_of terms) j ≡ Some name) × (slice_get (names_of terms) i ≡ Some name)
  found_twice {new} added old =
      let at = any_at k.items keys (not_false _ new added old) in
      let before : slice_get (names_of (take i terms)) at.0 ≡ Some k.items = ap (λ (zs : List (List ℕ)). slice_get zs at.0) (sym num) ∙ at.1 in
      let low : at.0 < length (names_of (take i terms)) = slice_get_within (names_of (take i terms)) at.0 k.items before in
      let fewer : length (names_of (take i terms)) ≤ i = (let m = length-map (take i terms) (λ (z : List ℕ × Kind). z.0) in let n = length-take-le i terms in omega (arith, m, n)) in
      let here : slice_get (names_of terms) at.0 ≡ Some k.items = ap (λ (zs : List (List ℕ)). slice_get zs at.0) (sym names_split) ∙ get_left (names_of (take i terms)) (names_of (drop i terms)) at.0 k.items before in
      let there : slice_get (names_of terms) i ≡ Some k.items =
      slice_get-map (λ (z : List ℕ × Kind). z.0) terms i ∙ ap (option_map (λ (z : List ℕ × Kind). z.0)) (slice_get_read terms (length terms) i t refl within is) ∙ ap Some (sym bytes) in
      (at.0, k.items, (let l = low in let f = fewer in omega (arith, l, f)), here, there)

  -- a name that wasn't is one more
  pub insert_new : {new : Bool} {more : List (Vec ℕ A)} → AreNamedOnce (bare (take i terms)) → new ≡ not (list_any Same keys) → new ≡ true
      → more ≡ cond (list_any Same keys) keys (keys ++ k ∷ []) → AreNumbered (take (i + 1) terms) more × AreNamedOnce (bare (take (i + 1) terms))
  insert_new {new} {more} once added held is_more =
      let fresh = not_true _ new added held in
      let longer : more ≡ keys ++ k ∷ [] = is_more ∙ ap (λ b. cond b keys (keys ++ k ∷ [])) fresh in
      let on : take (i + 1) terms ≡ take i terms ++ t ∷ [] = take_on terms i t within is in (
        subst (λ zs. AreNumbered zs more) (sym on) (subst (λ zs. AreNumbered (take i terms ++ t ∷ []) zs) (sym longer) (numbered_more (take i terms) keys t k num bytes)),
        subst (λ zs. AreNamedOnce (bare zs)) (sym on) (once_more (take i terms) t once (λ j e. none_at k.items keys fresh j (ap (λ (zs : List (List ℕ)). slice_get zs j) num ∙ e ∙ ap Some (sym bytes)))),
      )

-- what is refused makes no ontology
module _ (theory : Theory) where
  named_twice : (i : ℕ) → IsFirstRepeat theory.terms i → ¬ AreNamedOnce theory
  named_twice i h once =
      let (j, name, l, e, f) = h.here in
      ⊎_elim
      (λ (s, m, g, u). ⊎_elim
      (λ (t, n, k, v). once j i s t l g k (first j name s e g ∙ sym (first i name t f k)))
      (λ (n, k). nowhere i name f k)
      (slice_get_cases theory.terms i).1)
      (λ (m, g). nowhere j name e g)
      (slice_get_cases theory.terms j).1
    where
      first : (k : ℕ) (name : List ℕ) (t : List ℕ × Kind) → slice_get (names_of theory.terms) k ≡ Some name → slice_get theory.terms k ≡ Some t → t.0 ≡ name
      first k name t e g = some_is t.0 name (sym (ap (option_map (λ (z : List ℕ × Kind). z.0)) g) ∙ sym (slice_get-map (λ (z : List ℕ × Kind). z.0) theory.terms k) ∙ e)

      nowhere : (k : ℕ) (name : List ℕ) → slice_get (names_of theory.terms) k ≡ Some name → slice_get theory.terms k ≡ None → ⊥
      nowhere k name e g = let bad : None ≡ Some name = sym (ap (option_map (λ (z : List ℕ × Kind). z.0)) g) ∙ sym (slice_get-map (λ (z : List ℕ × Kind). z.0) theory.terms k) ∙ e in cc

  unknown_at : (i : ℕ) → IsFirstUnknown theory i → ¬ IsKnown theory
  unknown_at i h known = let (a, e, n) = h.here in n (All-contains (KnowsAxiom theory) theory.axioms a known (i, slice_get_within theory.axioms i a e, get_or_from_slice_get theory.axioms i a a e))

  from_take : (n : ℕ) (a : Axiom) → Contains (take n theory.axioms) a → Contains theory.axioms a
  from_take n a m = subst (λ (zs : List Axiom). Contains zs a) (take-append-drop n theory.axioms) (Contains-append_left (take n theory.axioms) (drop n theory.axioms) a m)

  specialised_at : (i : ℕ) → IsFirstSpecialised theory.axioms i → ¬ IsValid theory.axioms
  specialised_at i h valid = h.here (none_twice_valid (take (i + 1) theory.axioms) (λ p f s.
      valid_none_twice theory.axioms valid p (f.0, from_take (i + 1) f.0 f.1, f.2) (s.0, from_take (i + 1) s.0 s.1, s.2)))

  pub no_ontology : (r : OntologyRefusal) → IsRefused theory r → (r ≡ refusal.OutOfMemory) ⊎ ¬ IsOntology theory
  no_ontology refusal.TooManyTerms h = inr (λ o. let few = o.few in omega (arith, h, few))
  no_ontology (refusal.TwoKinds i) h = inr (λ o. named_twice i h.1 o.named_once)
  no_ontology (refusal.BadAxiom i) h = inr (λ o. unknown_at i h.2 o.known)
  no_ontology (refusal.FunctionalSpecialised i) h = inr (λ o. specialised_at i h.3 o.valid)
  no_ontology refusal.OutOfMemory h = inl refl
