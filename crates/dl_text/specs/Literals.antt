-- The value that a literal has.
use Rattle.std.specs.Prelude.{◌≡◌, ◌≢◌, ◌⊎◌, ℕ, List, [], ◌∷◌, Result, Ok, Err, map, codes}
use Rattle.std.specs.Char.{to_ascii_lowercase}
use Rattle.dl_base.specs.declared.names.Value.{Value}
use Rattle.dl_text.specs.Values.{IsInteger, integer_text}
use Rattle.dl_text.specs.Namespaces.{xsd_integer, xsd_boolean, xsd_string, lang_string}
use Rattle.dl_text.specs.declared.faults.TextFault.{TextFault}
use Rattle.dl_text.specs.declared.faults.TextFault.TheVariants.{BadIri, BadEscape, BadLiteral, NameTooLong, UnknownPrefix, OutOfMemory}

-- the datatype as written, or xsd:string where none is written
abbrev pub datatype_or_string : List ℕ → List ℕ
datatype_or_string [] = xsd_string
datatype_or_string (b ∷ bs) = b ∷ bs

-- the datatype of a literal: rdf:langString with a tag, else the written one, else xsd:string
abbrev pub datatype_of : List ℕ → List ℕ → List ℕ
datatype_of datatype [] = datatype_or_string datatype
datatype_of datatype (b ∷ bs) = lang_string

abbrev pub IsYes : List ℕ → Type 0
IsYes text = (text ≡ codes "true") ⊎ (text ≡ codes "1")

abbrev pub IsNo : List ℕ → Type 0
IsNo text = (text ≡ codes "false") ⊎ (text ≡ codes "0")

-- the text is a truth value, and canonical is how it is written
abbrev pub IsTruth : List ℕ → List ℕ → Type 0
IsTruth text canonical = (IsYes text × (canonical ≡ codes "true")) ⊎ (IsNo text × (canonical ≡ codes "false"))

-- the text is one of the datatype, and canonical is how its value is written
pub data Spells (datatype text canonical : List ℕ) : Type 0 where
  integer : datatype ≡ xsd_integer → IsInteger text → canonical ≡ integer_text text → Spells datatype text canonical
  boolean : datatype ≡ xsd_boolean → IsTruth text canonical → Spells datatype text canonical
  other : datatype ≢ xsd_integer → datatype ≢ xsd_boolean → canonical ≡ text → Spells datatype text canonical

-- the value of a literal with this text, this datatype and this tag, empty where none is written
pub record IsValueOf (text datatype tag : List ℕ) (value : Value) : Type 0 where
  pub datatype_is : value.datatype ≡ datatype_of datatype tag
  pub tag_is : value.tag ≡ map to_ascii_lowercase tag
  pub spells : Spells (datatype_of datatype tag) text value.text

-- the canonical text of a truth value, exactly where there is one
abbrev pub SpellsTruth : List ℕ → Result (List ℕ) TextFault → Type 0
SpellsTruth text (Ok canonical) = IsTruth text canonical
SpellsTruth text (Err BadLiteral) = (canonical : List ℕ) → ¬ IsTruth text canonical
SpellsTruth text (Err OutOfMemory) = Unit {0}
SpellsTruth text (Err BadIri) = ⊥
SpellsTruth text (Err BadEscape) = ⊥
SpellsTruth text (Err NameTooLong) = ⊥
SpellsTruth text (Err UnknownPrefix) = ⊥

-- the canonical text, exactly where there is one
abbrev pub SpellsText : List ℕ → List ℕ → Result (List ℕ) TextFault → Type 0
SpellsText datatype text (Ok canonical) = Spells datatype text canonical
SpellsText datatype text (Err BadLiteral) = (canonical : List ℕ) → ¬ Spells datatype text canonical
SpellsText datatype text (Err OutOfMemory) = Unit {0}
SpellsText datatype text (Err BadIri) = ⊥
SpellsText datatype text (Err BadEscape) = ⊥
SpellsText datatype text (Err NameTooLong) = ⊥
SpellsText datatype text (Err UnknownPrefix) = ⊥

-- the value, exactly where the literal has one
abbrev pub ReadsValue : List ℕ → List ℕ → List ℕ → Result Value TextFault → Type 0
ReadsValue text datatype tag (Ok value) = IsValueOf text datatype tag value
ReadsValue text datatype tag (Err BadLiteral) = (value : Value) → ¬ IsValueOf text datatype tag value
ReadsValue text datatype tag (Err OutOfMemory) = Unit {0}
ReadsValue text datatype tag (Err BadIri) = ⊥
ReadsValue text datatype tag (Err BadEscape) = ⊥
ReadsValue text datatype tag (Err NameTooLong) = ⊥
ReadsValue text datatype tag (Err UnknownPrefix) = ⊥
