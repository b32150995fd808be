-- What raw text stands for once its escapes are undone.
use Rattle.std.specs.Prelude.{◌≡◌, ◌≢◌, ℕ, List, [], ◌∷◌, ◌++◌, length, Option, Some, None, Bool, if◌then◌else◌, ◌==◌, codes}
use Rattle.std.specs.Char.{IsScalar, encode_utf8}
use Rattle.std.specs.Str.Parse.{AllDigits, digits_value}
use Rattle.std.specs.List.{flat_map, list_any}
use Rattle.dl_text.specs.Going.{Goes}
use Rattle.dl_text.specs.declared.escapes.Escapes.{Escapes}
use Rattle.dl_text.specs.declared.escapes.Escapes.TheVariants.{Iri, Full, Owl, Local}

abbrev pub backslash : ℕ
backslash = 92

-- the bytes that a backslash may stand before in a local part: PN_LOCAL_ESC of SPARQL 1.1
abbrev pub is_local_escape : ℕ → Bool
is_local_escape e = list_any (λ c. e == c) (codes "_~.-!$&'()*+,;=/?#@%")

-- the byte that a backslash and this byte stand for
abbrev pub short_of : Escapes → ℕ → Option ℕ
short_of Iri e = None
short_of Local e = if is_local_escape e then Some e else None
short_of Owl e = if e == 34 then Some 34 else if e == 92 then Some 92 else None
short_of Full e =
    if e == 34 then Some 34 else if e == 92 then Some 92 else if e == 39 then Some 39
    else if e == 116 then Some 9 else if e == 98 then Some 8 else if e == 110 then Some 10
    else if e == 114 then Some 13 else if e == 102 then Some 12 else None

-- how many digits follow a backslash and this byte: four behind u, eight behind U
abbrev pub width_of : Escapes → ℕ → Option ℕ
width_of Owl mark = None
width_of Local mark = None
width_of Iri mark = if mark == 117 then Some 4 else if mark == 85 then Some 8 else None
width_of Full mark = if mark == 117 then Some 4 else if mark == 85 then Some 8 else None

-- the hexadecimal digits name this character
pub record Names (digits : List ℕ) (code : ℕ) : Type 0 where
  pub hex : AllDigits 16 digits
  pub value : code ≡ digits_value 16 digits
  pub scalar : IsScalar code

-- raw begins with one byte or one escape that stands for out, and then comes rest
pub data Stands (rule : Escapes) (raw out rest : List ℕ) : Type 0 where
  plain : (b : ℕ) → b ≢ backslash → raw ≡ b ∷ rest → out ≡ b ∷ [] → Stands rule raw out rest
  short : (e b : ℕ) → short_of rule e ≡ Some b → raw ≡ backslash ∷ e ∷ rest → out ≡ b ∷ [] → Stands rule raw out rest
  coded : (mark code : ℕ) (digits : List ℕ) → width_of rule mark ≡ Some (length digits) → Names digits code
      → raw ≡ backslash ∷ mark ∷ (digits ++ rest) → out ≡ encode_utf8 code → Stands rule raw out rest

-- the pieces, joined
abbrev pub joined : List (List ℕ) → List ℕ
joined pieces = flat_map (λ (p : List ℕ). p) pieces

-- raw stands for text
abbrev pub Undoes : Escapes → List ℕ → List ℕ → Type 0
Undoes rule raw text = (pieces : List (List ℕ)) × Goes (Stands rule) raw pieces [] × (text ≡ joined pieces)
