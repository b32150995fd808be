-- A literal has one value at most, and a value is the value of its own parts.
use Rattle.std.proofs.Common.{◌≡◌, ◌≢◌, ℕ, List, [], ◌∷◌, Result, Ok, Err, get_or, refl, sym, ap, subst, ◌∙◌, inl, inr, arith}
use Rattle.std.specs.Prelude.{map}
use Rattle.std.specs.Char.{to_ascii_lowercase}
use Rattle.std.proofs.lemmas.Bool.Decides.{nat_tests}
use Rattle.dl_base.specs.declared.names.Value.{Value}
use Rattle.dl_text.proofs.IntegerLaws.{integer_again}
use Rattle.dl_text.specs.Values.{IsInteger, integer_text, IsMade}
use Rattle.dl_text.specs.Namespaces.{xsd_integer, xsd_boolean, xsd_string}
use Rattle.dl_text.specs.Literals.{datatype_of, datatype_or_string, IsYes, IsNo, IsTruth, Spells, integer, boolean, other, SpellsTruth, SpellsText, IsValueOf, ReadsValue}
use Rattle.dl_text.specs.declared.faults.TextFault.{TextFault}
use Rattle.dl_text.specs.declared.faults.TextFault.TheVariants.{BadIri, BadEscape, BadLiteral, NameTooLong, UnknownPrefix, OutOfMemory}

pub integer-boolean : xsd_integer ≢ xsd_boolean
unfolding xsd_integer xsd_boolean
integer-boolean e = omega (arith, ap (λ (l : List ℕ). get_or l 33 0) e)

-- no text is both true and false
yes-no : (text : List ℕ) → IsYes text → IsNo text → ⊥
yes-no text (inl y) (inl n) = let e = ap (λ (l : List ℕ). get_or l 0 0) (sym y ∙ n) in omega (arith, e)
yes-no text (inl y) (inr n) = let e = ap (λ (l : List ℕ). get_or l 0 0) (sym y ∙ n) in omega (arith, e)
yes-no text (inr y) (inl n) = let e = ap (λ (l : List ℕ). get_or l 0 0) (sym y ∙ n) in omega (arith, e)
yes-no text (inr y) (inr n) = let e = ap (λ (l : List ℕ). get_or l 0 0) (sym y ∙ n) in omega (arith, e)

truth_one : (text a b : List ℕ) → IsTruth text a → IsTruth text b → a ≡ b
truth_one text a b (inl h) (inl k) = h.1 ∙ sym k.1
truth_one text a b (inl h) (inr k) = absurd (yes-no text h.0 k.0)
truth_one text a b (inr h) (inl k) = absurd (yes-no text k.0 h.0)
truth_one text a b (inr h) (inr k) = h.1 ∙ sym k.1

pub spells_one : (datatype text a b : List ℕ) → Spells datatype text a → Spells datatype text b → a ≡ b
spells_one d t a b (integer e i f) (integer e' i' f') = f ∙ sym f'
spells_one d t a b (integer e i f) (boolean e' h) = absurd (integer-boolean (sym e ∙ e'))
spells_one d t a b (integer e i f) (other n m f') = absurd (n e)
spells_one d t a b (boolean e h) (integer e' i f) = absurd (integer-boolean (sym e' ∙ e))
spells_one d t a b (boolean e h) (boolean e' k) = truth_one t a b h k
spells_one d t a b (boolean e h) (other n m f) = absurd (m e)
spells_one d t a b (other n m f) (integer e i f') = absurd (n e)
spells_one d t a b (other n m f) (boolean e h) = absurd (m e)
spells_one d t a b (other n m f) (other n' m' f') = f ∙ sym f'

as_integer : (datatype text canonical : List ℕ) → datatype ≡ xsd_integer → Spells datatype text canonical → IsInteger text
as_integer d t c e (integer e' i f) = i
as_integer d t c e (boolean e' h) = absurd (integer-boolean (sym e ∙ e'))
as_integer d t c e (other n m f) = absurd (n e)

as_truth : (datatype text canonical : List ℕ) → datatype ≡ xsd_boolean → Spells datatype text canonical → IsTruth text canonical
as_truth d t c e (integer e' i f) = absurd (integer-boolean (sym e' ∙ e))
as_truth d t c e (boolean e' h) = h
as_truth d t c e (other n m f) = absurd (m e)

pub integer_spelled : (datatype text : List ℕ) (r : Result (List ℕ) TextFault) → datatype ≡ xsd_integer → IsMade (IsInteger text) (integer_text text) r → SpellsText datatype text r
integer_spelled d t (Ok c) e (i, f) = integer e i f
integer_spelled d t (Err BadLiteral) e n = λ c s. n (as_integer d t c e s)
integer_spelled d t (Err OutOfMemory) e n = tt
integer_spelled d t (Err BadIri) e n = n
integer_spelled d t (Err BadEscape) e n = n
integer_spelled d t (Err NameTooLong) e n = n
integer_spelled d t (Err UnknownPrefix) e n = n

pub truth_spelled : (datatype text : List ℕ) (r : Result (List ℕ) TextFault) → datatype ≡ xsd_boolean → SpellsTruth text r → SpellsText datatype text r
truth_spelled d t (Ok c) e h = boolean e h
truth_spelled d t (Err BadLiteral) e n = λ c s. n c (as_truth d t c e s)
truth_spelled d t (Err OutOfMemory) e n = tt
truth_spelled d t (Err BadIri) e n = n
truth_spelled d t (Err BadEscape) e n = n
truth_spelled d t (Err NameTooLong) e n = n
truth_spelled d t (Err UnknownPrefix) e n = n

pub not_spelled : (text datatype tag : List ℕ) (f : TextFault) → SpellsText (datatype_of datatype tag) text (Err f) → ReadsValue text datatype tag (Err f)
not_spelled t d g BadLiteral n = λ v h. n v.text h.spells
not_spelled t d g OutOfMemory n = tt
not_spelled t d g BadIri n = n
not_spelled t d g BadEscape n = n
not_spelled t d g NameTooLong n = n
not_spelled t d g UnknownPrefix n = n

-- a value is its three parts
same_parts : (v w : Value) → v.datatype ≡ w.datatype → v.tag ≡ w.tag → v.text ≡ w.text → v ≡ w
same_parts v w d g t =
    ap (λ (z : List ℕ). record { datatype = z; tag = v.tag; text = v.text }) d ∙ ap (λ (z : List ℕ). record { datatype = w.datatype; tag = z; text = v.text }) g
    ∙ ap (λ (z : List ℕ). record { datatype = w.datatype; tag = w.tag; text = z }) t

value_one : (text datatype tag : List ℕ) (v w : Value) → IsValueOf text datatype tag v → IsValueOf text datatype tag w → v ≡ w
value_one t d g v w h k = same_parts v w (h.datatype_is ∙ sym k.datatype_is) (h.tag_is ∙ sym k.tag_is) (spells_one (datatype_of d g) t v.text w.text h.spells k.spells)

abbrev pub IsAnswer : Result Value TextFault → Type 0
IsAnswer r = r ≡ Err OutOfMemory → ⊥

pub reading_one : (text datatype tag : List ℕ) (r s : Result Value TextFault) → ReadsValue text datatype tag r → ReadsValue text datatype tag s → IsAnswer r → IsAnswer s → r ≡ s
reading_one t d g (Ok v) (Ok w) h k n m = ap (λ z. Ok z) (value_one t d g v w h k)
reading_one t d g (Ok v) (Err BadLiteral) h k n m = absurd (k v h)
reading_one t d g (Err BadLiteral) (Ok w) h k n m = absurd (h w k)
reading_one t d g (Err BadLiteral) (Err BadLiteral) h k n m = refl
reading_one t d g (Err OutOfMemory) s h k n m = absurd (n refl)
reading_one t d g r (Err OutOfMemory) h k n m = absurd (m refl)
reading_one t d g (Err BadIri) s h k n m = absurd h
reading_one t d g (Err BadEscape) s h k n m = absurd h
reading_one t d g (Err NameTooLong) s h k n m = absurd h
reading_one t d g (Err UnknownPrefix) s h k n m = absurd h
reading_one t d g r (Err BadIri) h k n m = absurd k
reading_one t d g r (Err BadEscape) h k n m = absurd k
reading_one t d g r (Err NameTooLong) h k n m = absurd k
reading_one t d g r (Err UnknownPrefix) h k n m = absurd k

-- ---- a value is the value of its own parts
truth_again : (text canonical : List ℕ) → IsTruth text canonical → IsTruth canonical canonical
truth_again t c (inl h) = inl (inl h.1, h.1)
truth_again t c (inr h) = inr (inl h.1, h.1)

spelled_again : (datatype text canonical : List ℕ) → Spells datatype text canonical → Spells datatype canonical canonical
spelled_again d t c (integer e i f) =
    let again = integer_again t i in integer e (subst IsInteger (sym f) again.0) (f ∙ sym again.1 ∙ ap integer_text (sym f))
spelled_again d t c (boolean e h) = boolean e (truth_again t c h)
spelled_again d t c (other n m f) = other n m refl

or_string_again : (datatype : List ℕ) → datatype_or_string (datatype_or_string datatype) ≡ datatype_or_string datatype
unfolding xsd_string
or_string_again [] = refl
or_string_again (b ∷ bs) = refl

datatype_again : (datatype tag : List ℕ) → datatype_of (datatype_of datatype tag) (map to_ascii_lowercase tag) ≡ datatype_of datatype tag
datatype_again d [] = or_string_again d
datatype_again d (b ∷ bs) = refl

small_again : (b : ℕ) → to_ascii_lowercase (to_ascii_lowercase b) ≡ to_ascii_lowercase b
small_again b = grind (arith, nat_tests)

tag_again : (tag : List ℕ) → map to_ascii_lowercase (map to_ascii_lowercase tag) ≡ map to_ascii_lowercase tag
tag_again [] = refl
tag_again (b ∷ bs) = ap (λ (c : ℕ). c ∷ map to_ascii_lowercase (map to_ascii_lowercase bs)) (small_again b) ∙ ap (λ (cs : List ℕ). to_ascii_lowercase b ∷ cs) (tag_again bs)

pub value_again : (text datatype tag : List ℕ) (value : Value) → IsValueOf text datatype tag value → IsValueOf value.text value.datatype value.tag value
value_again t d g v h =
    let same = ap (λ (z : List ℕ). datatype_of z v.tag) h.datatype_is ∙ ap (λ (z : List ℕ). datatype_of (datatype_of d g) z) h.tag_is ∙ datatype_again d g in record {
      datatype_is = h.datatype_is ∙ sym same;
      tag_is = h.tag_is ∙ sym (tag_again g) ∙ ap (map to_ascii_lowercase) (sym h.tag_is);
      spells = subst (λ (z : List ℕ). Spells z v.text v.text) (sym same) (spelled_again (datatype_of d g) t v.text h.spells);
    }
