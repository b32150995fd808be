-- What each reader says, by cases on its answer. The cases exclude each other, so the answer is the one.
use Rattle.std.specs.Prelude.{◌≡◌, ◌<◌, ◌≤◌, ℕ, List, Bool, true, false, Result, Ok, Err, length}
use Rattle.dl_text.specs.Escapes.{Undoes}
use Rattle.dl_text.specs.Iris.{IsIri}
use Rattle.dl_text.specs.declared.escapes.Escapes.{Escapes}
use Rattle.dl_text.specs.declared.escapes.Escapes.TheVariants.{Iri, Full, Owl}
use Rattle.dl_text.specs.declared.reading.StringRule.{StringRule}
use Rattle.dl_text.specs.declared.reading.StringRule.TheVariants as rules
use Rattle.dl_text.specs.declared.faults.TextFault.{TextFault}
use Rattle.dl_text.specs.declared.faults.TextFault.TheVariants.{BadIri, BadEscape, BadLiteral, NameTooLong, UnknownPrefix, OutOfMemory}

abbrev pub longest_iri : ℕ
longest_iri = 4096

abbrev pub longest_text : ℕ
longest_text = 65536

-- raw stands for text, with escapes undone or as it is
abbrev pub IriText : Bool → List ℕ → List ℕ → Type 0
IriText true raw text = Undoes Iri raw text
IriText false raw text = text ≡ raw

abbrev pub ReadsIri : Bool → List ℕ → Result (List ℕ) TextFault → Type 0
ReadsIri escapes raw (Ok name) = IriText escapes raw name × IsIri name × (length name ≤ longest_iri)
ReadsIri escapes raw (Err BadEscape) = (text : List ℕ) → ¬ IriText escapes raw text
ReadsIri escapes raw (Err BadIri) = (text : List ℕ) × IriText escapes raw text × ¬ IsIri text
ReadsIri escapes raw (Err NameTooLong) = (text : List ℕ) × IriText escapes raw text × IsIri text × (longest_iri < length text)
ReadsIri escapes raw (Err OutOfMemory) = Unit {0}
ReadsIri escapes raw (Err BadLiteral) = ⊥
ReadsIri escapes raw (Err UnknownPrefix) = ⊥

-- the name is this text, which is an IRI
abbrev pub NamesIri : List ℕ → Result (List ℕ) TextFault → Type 0
NamesIri text (Ok name) = (name ≡ text) × IsIri text × (length text ≤ longest_iri)
NamesIri text (Err BadIri) = ¬ IsIri text
NamesIri text (Err NameTooLong) = IsIri text × (longest_iri < length text)
NamesIri text (Err OutOfMemory) = Unit {0}
NamesIri text (Err BadEscape) = ⊥
NamesIri text (Err BadLiteral) = ⊥
NamesIri text (Err UnknownPrefix) = ⊥

-- the answer with its value seen by view
abbrev pub seen : {X Y E : Type 0} → (X → Y) → Result X E → Result Y E
seen view (Ok x) = Ok (view x)
seen view (Err e) = Err e

-- what undoing gives
abbrev pub IsUndone : Escapes → List ℕ → Result (List ℕ) TextFault → Type 0
IsUndone rule raw (Ok text) = Undoes rule raw text
IsUndone rule raw (Err BadEscape) = (text : List ℕ) → ¬ Undoes rule raw text
IsUndone rule raw (Err OutOfMemory) = Unit {0}
IsUndone rule raw (Err BadIri) = ⊥
IsUndone rule raw (Err NameTooLong) = ⊥
IsUndone rule raw (Err BadLiteral) = ⊥
IsUndone rule raw (Err UnknownPrefix) = ⊥

abbrev pub rule_of : StringRule → Escapes
rule_of rules.Full = Full
rule_of rules.Owl = Owl

-- the name is the text, of at most so many bytes
abbrev pub IsNamed : ℕ → List ℕ → Result (List ℕ) TextFault → Type 0
IsNamed longest text (Ok name) = (name ≡ text) × (length text ≤ longest)
IsNamed longest text (Err NameTooLong) = longest < length text
IsNamed longest text (Err OutOfMemory) = Unit {0}
IsNamed longest text (Err BadEscape) = ⊥
IsNamed longest text (Err BadIri) = ⊥
IsNamed longest text (Err BadLiteral) = ⊥
IsNamed longest text (Err UnknownPrefix) = ⊥

abbrev pub ReadsString : Escapes → List ℕ → Result (List ℕ) TextFault → Type 0
ReadsString rule raw (Ok name) = Undoes rule raw name × (length name ≤ longest_text)
ReadsString rule raw (Err BadEscape) = (text : List ℕ) → ¬ Undoes rule raw text
ReadsString rule raw (Err NameTooLong) = (text : List ℕ) × Undoes rule raw text × (longest_text < length text)
ReadsString rule raw (Err OutOfMemory) = Unit {0}
ReadsString rule raw (Err BadIri) = ⊥
ReadsString rule raw (Err BadLiteral) = ⊥
ReadsString rule raw (Err UnknownPrefix) = ⊥
