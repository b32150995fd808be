-- Names and terms: what a name stands for, and which term it becomes.
use Rattle.std.specs.Prelude.{◌≤◌, ℕ, List, [], ◌∷◌, ◌++◌, length, Bool, true, false, ◌&&◌, ◌||◌, ◌==◌, if◌then◌else◌, nat_lt, nat_le, Option, Some, None, Result, Ok, Err, position, slice_get}
use Rattle.std.specs.List.{list_all}
use Rattle.std.specs.Char.{is_ascii_alphabetic}
use Rattle.std.specs.Str.{bytes_eq}
use Rattle.dl_base.specs.declared.terms.Kind.{Kind}
use Rattle.dl_base.specs.declared.terms.Kind.TheVariants as kinds
use Rattle.dl_base.specs.declared.terms.Term.{Term}
use Rattle.dl_base.specs.Ontologies.{AreNamedOnce}
use Rattle.dl_base.specs.Vocabularies.{names_of, bare}
use Rattle.dl_text.specs.Iris.{is_iri_byte, is_scheme_byte}
use Rattle.dl_text.specs.Outcomes.{longest_iri}
use Rattle.dl_text.specs.Prefixes.{Bindings, iri_of}
use Rattle.dl_text.specs.declared.kinds.ReadKind.{ReadKind}
use Rattle.dl_text.specs.declared.kinds.ReadKind.TheVariants.{UnknownPrefix, BadIri, NameTooLong, NotDlLite, Syntax, TwoKinds, TooManyTerms}
use Rattle.owl_syntax.specs.Trees.{iri, blank, digits, prefixed, literal}
use Rattle.owl_read.specs.Builtins.{is_barred}
use Rattle.owl_read.specs.Items.{Item, Single, Word, Group, line_of}
use Rattle.owl_read.specs.Outcomes.{Refusal, ◌>>=◌}

abbrev pub Terms : Type 0
Terms = List (List ℕ × Kind)

-- how many terms an ontology may have
abbrev pub most_terms : ℕ
most_terms = 4000

-- few terms, and no two of one name
pub record IsSound (terms : Terms) : Type 0 where
  pub once : AreNamedOnce (bare terms)
  pub few : length terms ≤ most_terms

-- what names are read by: the prefixes, and the terms so far by number, each with its kind
pub record Naming : Type 0 where
  pub prefixes : Bindings
  pub terms : Terms

-- scheme bytes and a colon, and anything behind them
abbrev pub has_scheme : List ℕ → Bool
has_scheme [] = false
has_scheme (b ∷ bs) = b == 58 || (is_scheme_byte b && has_scheme bs)

abbrev pub is_absolute : List ℕ → Bool
is_absolute [] = false
is_absolute (first ∷ rest) = is_ascii_alphabetic first && has_scheme rest

-- the test of the definition IsIri of dl_text
unfoldable pub is_iri : List ℕ → Bool
is_iri text = is_absolute text && list_all is_iri_byte text

-- the name with this text
abbrev pub named : ℕ → List ℕ → Result (List ℕ) Refusal
named line text = if is_iri text then (if nat_le (length text) longest_iri then Ok text else Err (line, NameTooLong)) else Err (line, BadIri)

abbrev pub expanded : ℕ → List ℕ → Option (List ℕ) → Result (List ℕ) Refusal
expanded line local None = Err (line, UnknownPrefix)
expanded line local (Some space) = named line (space ++ local)

-- the name that a prefixed name stands for: the prefix's IRI and then the local part
unfoldable pub resolved : Bindings → ℕ → List ℕ → List ℕ → Result (List ℕ) Refusal
resolved prefixes line prefix local = expanded line local (iri_of prefixes prefix)

-- the name at a place where nothing else may stand; blank is the refusal of a blank node there
unfoldable pub name_at : ReadKind → Naming → Item → Result (Naming × List ℕ) Refusal
name_at blanks s (Single (iri line text)) = Ok (s, text)
name_at blanks s (Single (prefixed line prefix local)) = resolved s.prefixes line prefix local >>= λ name. Ok (s, name)
name_at blanks s (Single (blank line label)) = Err (line, blanks)
name_at blanks s (Single (digits line text)) = Err (line, Syntax)
name_at blanks s (Single (literal line text tag datatype)) = Err (line, Syntax)
name_at blanks s (Word line text args) = Err (line, NotDlLite)
name_at blanks s (Group line args) = Err (line, Syntax)

-- whether a name stands here that stands for the one that is sought
abbrev pub names : List ℕ → Result (Naming × List ℕ) Refusal → Bool
names sought (Ok x) = bytes_eq x.1 sought
names sought (Err e) = false

unfoldable pub is_name : List ℕ → Naming → Item → Bool
is_name sought s item = names sought (name_at Syntax s item)

abbrev pub same_kind : Kind → Kind → Bool
same_kind kinds.Class kinds.Class = true
same_kind kinds.Role kinds.Role = true
same_kind kinds.Attr kinds.Attr = true
same_kind kinds.Note kinds.Note = true
same_kind one other = false

abbrev pub term : ℕ → Term
term number = record { 0 = number }

-- the term that the name is, if it is of the kind
abbrev pub known : Naming → Kind → ℕ → ℕ → Option (List ℕ × Kind) → Result (Naming × Term) Refusal
known s kind line number None = Err (line, TwoKinds)
known s kind line number (Some entry) = if same_kind entry.1 kind then Ok (s, term number) else Err (line, TwoKinds)

-- a new term, which comes last
abbrev pub added : Naming → Kind → ℕ → List ℕ → Result (Naming × Term) Refusal
added s kind line name =
    if nat_lt (length s.terms) most_terms
    then Ok (record { prefixes = s.prefixes; terms = s.terms ++ (name, kind) ∷ [] }, term (length s.terms))
    else Err (line, TooManyTerms)

abbrev pub placed : Naming → Kind → ℕ → List ℕ → Option ℕ → Result (Naming × Term) Refusal
placed s kind line name None = added s kind line name
placed s kind line name (Some number) = known s kind line number (slice_get s.terms number)

-- the term of the name: the one that has the name, which must be of this kind, or else a new one
unfoldable pub numbered : Kind → Naming → ℕ → List ℕ → Result (Naming × Term) Refusal
numbered kind s line name = placed s kind line name (position (bytes_eq name) (names_of s.terms))

-- the name as a term of this kind, unless it has another meaning
unfoldable pub term_named : Kind → Naming → ℕ → List ℕ → Result (Naming × Term) Refusal
term_named kind s line name = if is_barred kind name then Err (line, NotDlLite) else numbered kind s line name

-- the term at a place of a property
unfoldable pub property_at : Kind → Naming → Item → Result (Naming × Term) Refusal
property_at kind s item = do
  name ← name_at Syntax s item
  term_named kind name.0 (line_of item) name.1
