-- The value at a place of a literal.
use Rattle.std.specs.Prelude.{ℕ, List, [], ◌∷◌, length, map, codes, Bool, true, false, not, ◌&&◌, ◌||◌, ◌==◌, if◌then◌else◌, nat_lt, Option, Some, None, Result, Ok, Err}
use Rattle.std.specs.Char.{is_ascii_digit, to_ascii_lowercase}
use Rattle.std.specs.List.{list_all}
use Rattle.std.specs.Str.{bytes_eq}
use Rattle.dl_base.specs.declared.names.Value.{Value}
use Rattle.dl_text.specs.Literals.{datatype_of}
use Rattle.dl_text.specs.Namespaces.{xsd_integer, xsd_boolean}
use Rattle.dl_text.specs.Values.{digits_of, integer_text}
use Rattle.dl_text.specs.declared.kinds.ReadKind.TheVariants.{BadLiteral, Syntax}
use Rattle.owl_syntax.specs.Trees.{Datatype, untyped, other, by_iri, by_name, literal}
use Rattle.owl_read.specs.Items.{Item, Single, line_of}
use Rattle.owl_read.specs.Outcomes.{Refusal, ◌>>=◌}
use Rattle.owl_read.specs.Scopes.{Naming, resolved, name_at}

-- the text without the backslashes of its escapes; behind one, a byte stands for itself
abbrev pub undone : Bool → List ℕ → List ℕ
undone escaped [] = []
undone escaped (b ∷ bs) = if not escaped && b == 92 then undone true bs else b ∷ undone false bs

abbrev pub is_integer : List ℕ → Bool
is_integer text = nat_lt 0 (length (digits_of text)) && list_all is_ascii_digit (digits_of text)

abbrev pub is_yes : List ℕ → Bool
is_yes text = bytes_eq text (codes "true") || bytes_eq text (codes "1")

abbrev pub is_no : List ℕ → Bool
is_no text = bytes_eq text (codes "false") || bytes_eq text (codes "0")

abbrev pub truth_of : List ℕ → Option (List ℕ)
truth_of text = if is_yes text then Some (codes "true") else (if is_no text then Some (codes "false") else None)

-- how the value of a text of the datatype is written, if the text is one
abbrev pub canonical : List ℕ → List ℕ → Option (List ℕ)
canonical datatype text =
    if bytes_eq datatype xsd_integer then (if is_integer text then Some (integer_text text) else None)
    else (if bytes_eq datatype xsd_boolean then truth_of text else Some text)

abbrev pub valued : Naming → ℕ → List ℕ → List ℕ → Option (List ℕ) → Result (Naming × Value) Refusal
valued s line datatype tag None = Err (line, BadLiteral)
valued s line datatype tag (Some text) = Ok (s, record { datatype = datatype_of datatype tag; tag = map to_ascii_lowercase tag; text = text })

-- the value of a literal with this raw text, the name of its datatype, empty where none is written, and its tag
unfoldable pub value_of : Naming → ℕ → List ℕ → List ℕ → List ℕ → Result (Naming × Value) Refusal
value_of s line raw datatype tag = valued s line datatype tag (canonical (datatype_of datatype tag) (undone false raw))

-- the name of a written datatype, empty where none is written
unfoldable pub datatype_at : Naming → ℕ → Datatype → Result (Naming × List ℕ) Refusal
datatype_at s line untyped = Ok (s, [])
datatype_at s line other = Err (line, Syntax)
datatype_at s line (by_iri at text) = Ok (s, text)
datatype_at s line (by_name at prefix local) = resolved s.prefixes at prefix local >>= λ name. Ok (s, name)

-- the value at a place where nothing but a literal may stand
unfoldable pub literal_at : Naming → Item → Result (Naming × Value) Refusal
literal_at s (Single (literal line text tag datatype)) = do
  name ← datatype_at s line datatype
  value_of name.0 line text name.1 tag
literal_at s item = name_at Syntax s item >>= λ name. Err (line_of item, Syntax)
