-- The value of a literal, found by tests.
use Rattle.std.proofs.Common.{◌≡◌, ◌≢◌, ℕ, Bool, true, false, cond, List, Option, Some, None, Ok, Err, length, refl, sym, ◌∙◌, ap, inl, inr, ◌⊎◌, ⊎_elim}
use Rattle.std.specs.Prelude.{map, codes, nat_lt, ◌||◌}
use Rattle.std.specs.Char.{is_ascii_digit, to_ascii_lowercase}
use Rattle.std.specs.List.{list_all}
use Rattle.std.specs.Str.{bytes_eq}
use Rattle.std.specs.Cmp.Lexicographic.{same_text, other_text}
use Rattle.std.proofs.lemmas.Bool.{and_parts, and_from, or_cases, or_left, or_right, ltb-true, lt-ltb, cond-true, cond-false, true_from_ne_false, false_from_ne_true}
use Rattle.dl_base.specs.declared.names.Value.{Value}
use Rattle.dl_text.specs.Literals.{datatype_of, IsTruth, Spells, integer, boolean, other, IsValueOf, ReadsValue}
use Rattle.dl_text.specs.Namespaces.{xsd_integer, xsd_boolean}
use Rattle.dl_text.specs.Values.{digits_of, IsInteger, integer_text}
use Rattle.dl_text.specs.declared.faults.TextFault.{TextFault}
use Rattle.dl_text.specs.declared.faults.TextFault.TheVariants as faults
use Rattle.dl_text.proofs.LiteralLaws.{integer-boolean, spells_one}
use Rattle.owl_read.specs.Literals.{undone, is_integer, is_yes, is_no, truth_of, canonical, valued, value_of}
use Rattle.owl_read.specs.Outcomes.{Fails, refusal_at}
use Rattle.owl_read.specs.Scopes.{Naming}
use Rattle.owl_read.proofs.ScopeLaws.{all_forth, all_back}

pub bytes_same : (x y : List ℕ) → x ≡ y → bytes_eq x y ≡ true
bytes_same x y e = true_from_ne_false (bytes_eq x y) (λ f. other_text x y (sym f) e)

pub bytes_differ : (x y : List ℕ) → x ≢ y → bytes_eq x y ≡ false
bytes_differ x y n = false_from_ne_true (bytes_eq x y) (λ t. n (same_text x y (sym t)))

integer_back : (text : List ℕ) → IsInteger text → is_integer text ≡ true
integer_back text h = and_from (nat_lt 0 (length (digits_of text))) (list_all is_ascii_digit (digits_of text)) (lt-ltb 0 (length (digits_of text)) h.0) (all_back is_ascii_digit (digits_of text) h.1)

integer_forth : (text : List ℕ) → is_integer text ≡ true → IsInteger text
integer_forth text e =
    let h = and_parts (nat_lt 0 (length (digits_of text))) (list_all is_ascii_digit (digits_of text)) e in
    (ltb-true 0 (length (digits_of text)) h.0, all_forth is_ascii_digit (digits_of text) h.1)

either : (text one two : List ℕ) → (bytes_eq text one || bytes_eq text two) ≡ true → (text ≡ one) ⊎ (text ≡ two)
either text one two e = ⊎_elim (λ h. inl (same_text text one (sym h))) (λ h. inr (same_text text two (sym h))) (or_cases (bytes_eq text one) (bytes_eq text two) e)

either_back : (text one two : List ℕ) → (text ≡ one) ⊎ (text ≡ two) → (bytes_eq text one || bytes_eq text two) ≡ true
either_back text one two (inl h) = or_left (bytes_eq text one) (bytes_eq text two) (bytes_same text one h)
either_back text one two (inr h) = or_right (bytes_eq text one) (bytes_eq text two) (bytes_same text two h)

truth_forth : (text out : List ℕ) (y n : Bool) → is_yes text ≡ y → is_no text ≡ n → cond y (Some (codes "true")) (cond n (Some (codes "false")) None) ≡ Some out → IsTruth text out
truth_forth text out true n e f h = inl (either text (codes "true") (codes "1") e, cc)
truth_forth text out false true e f h = inr (either text (codes "false") (codes "0") f, cc)
truth_forth text out false false e f h = cc

-- what is canonical is spelled so
pub canonical_forth : (datatype text out : List ℕ) → canonical datatype text ≡ Some out → Spells datatype text out
canonical_forth datatype text out h = by (bytes_eq datatype xsd_integer) (bytes_eq datatype xsd_boolean) (is_integer text) refl refl refl h
  where
    by : (i b k : Bool) → bytes_eq datatype xsd_integer ≡ i → bytes_eq datatype xsd_boolean ≡ b → is_integer text ≡ k
        → cond i (cond k (Some (integer_text text)) None) (cond b (truth_of text) (Some text)) ≡ Some out → Spells datatype text out
    by true b true e f g h = integer (same_text datatype xsd_integer (sym e)) (integer_forth text g) cc
    by true b false e f g h = cc
    by false true k e f g h = boolean (same_text datatype xsd_boolean (sym f)) (truth_forth text out (is_yes text) (is_no text) refl refl h)
    by false false k e f g h = other (other_text datatype xsd_integer (sym e)) (other_text datatype xsd_boolean (sym f)) cc

truth_back : (text out : List ℕ) → IsTruth text out → (some : List ℕ) × (truth_of text ≡ Some some)
truth_back text out (inl h) = (codes "true", cond-true (is_yes text) (Some (codes "true")) (cond (is_no text) (Some (codes "false")) None) (either_back text (codes "true") (codes "1") h.0))
truth_back text out (inr h) = by (is_yes text) refl
  where
    by : (yes : Bool) → is_yes text ≡ yes → (some : List ℕ) × (cond yes (Some (codes "true")) (cond (is_no text) (Some (codes "false")) None) ≡ Some some)
    by true e = (codes "true", refl)
    by false e = (codes "false", cond-true (is_no text) (Some (codes "false")) None (either_back text (codes "false") (codes "0") h.0))

-- what is spelled so is found
some_canonical : (datatype text out : List ℕ) → Spells datatype text out → (some : List ℕ) × (canonical datatype text ≡ Some some)
some_canonical datatype text out (integer e i f) = (
  integer_text text,
  cond-true (bytes_eq datatype xsd_integer) _ _ (bytes_same datatype xsd_integer e) ∙ cond-true (is_integer text) _ _ (integer_back text i),
)
some_canonical datatype text out (boolean e h) =
    let t = truth_back text out h in (
      t.0,
      cond-false (bytes_eq datatype xsd_integer) _ _ (bytes_differ datatype xsd_integer (λ s. integer-boolean (sym s ∙ e)))
          ∙ cond-true (bytes_eq datatype xsd_boolean) _ _ (bytes_same datatype xsd_boolean e) ∙ t.1,
    )
some_canonical datatype text out (other n m e) = (
  text,
  cond-false (bytes_eq datatype xsd_integer) _ _ (bytes_differ datatype xsd_integer n) ∙ cond-false (bytes_eq datatype xsd_boolean) _ _ (bytes_differ datatype xsd_boolean m),
)

canonical_back : (datatype text out : List ℕ) → Spells datatype text out → canonical datatype text ≡ Some out
canonical_back datatype text out h =
    let s = some_canonical datatype text out h in
    s.1 ∙ ap Some (spells_one datatype text s.0 out (canonical_forth datatype text s.0 s.1) h)

none_canonical : (datatype text : List ℕ) (o : Option (List ℕ)) → canonical datatype text ≡ o → ((out : List ℕ) → ¬ Spells datatype text out) → o ≡ None
none_canonical datatype text None e n = refl
none_canonical datatype text (Some out) e n = absurd (n out (canonical_forth datatype text out e))

module _ (s : Naming) (line : ℕ) (raw text datatype tag : List ℕ) (is : text ≡ undone false raw) where
  at_text : (o : Option (List ℕ)) → canonical (datatype_of datatype tag) text ≡ o → value_of s line raw datatype tag ≡ valued s line datatype tag o
  unfolding value_of
  at_text o e = ap (λ (t : List ℕ). valued s line datatype tag (canonical (datatype_of datatype tag) t)) (sym is) ∙ ap (valued s line datatype tag) e

  pub value_found : (value : Value) → IsValueOf text datatype tag value → value_of s line raw datatype tag ≡ Ok (s, value)
  value_found value h = at_text (Some value.text) (canonical_back (datatype_of datatype tag) text value.text h.spells)
      ∙ (λ i. Ok (s, record { datatype = sym h.datatype_is i; tag = sym h.tag_is i; text = value.text }))

  spelled : (out : List ℕ) → Spells (datatype_of datatype tag) text out → IsValueOf text datatype tag (record { datatype = datatype_of datatype tag; tag = map to_ascii_lowercase tag; text = out })
  spelled out h = record { datatype_is = refl; tag_is = refl; spells = h }

  pub value_missing : (fault : TextFault) → ReadsValue text datatype tag (Err fault) → Fails (refusal_at line fault) (value_of s line raw datatype tag)
  value_missing faults.BadLiteral n =
      let none = none_canonical (datatype_of datatype tag) text (canonical (datatype_of datatype tag) text) refl (λ out h. n (record { datatype = datatype_of datatype tag; tag = map to_ascii_lowercase tag; text = out }) (spelled out h)) in
      at_text None none
  value_missing faults.OutOfMemory h = tt
  value_missing faults.BadIri h = absurd h
  value_missing faults.BadEscape h = absurd h
  value_missing faults.NameTooLong h = absurd h
  value_missing faults.UnknownPrefix h = absurd h
