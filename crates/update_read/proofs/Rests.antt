-- What may still come behind each spot of the reader, and the triples that it has.
use Rattle.std.proofs.Common.{◌≡◌, ◌⊎◌, ℕ, List, [], ◌∷◌, ◌++◌, map}
use Rattle.std.specs.List.{flat_map}
use Rattle.dl_text.specs.Going.{Goes}
use Rattle.dl_text.specs.Prefixes.{Bindings, with_prefix}
use Rattle.update_read.specs.declared.spots.Spot.{Spot}
use Rattle.update_read.specs.declared.spots.Spot.TheVariants as spots
use Rattle.update_read.specs.declared.spots.Step.{Step}
use Rattle.update_read.specs.declared.spots.Step.TheVariants as steps
use Rattle.update_read.specs.declared.syntax.Operation.{Operation}
use Rattle.update_read.specs.declared.syntax.SpelledName.{SpelledName}
use Rattle.update_read.specs.declared.syntax.SpelledVerb.{SpelledVerb}
use Rattle.update_read.specs.declared.syntax.SpelledDatatype.{SpelledDatatype}
use Rattle.update_read.specs.declared.syntax.SpelledDatatype.TheVariants as datatypes
use Rattle.update_read.specs.declared.syntax.SpelledObject.{SpelledObject}
use Rattle.update_read.specs.declared.syntax.SpelledObject.TheVariants as objects
use Rattle.update_read.specs.declared.syntax.Stem.{Stem}
use Rattle.update_read.specs.declared.tokens.Keyword.TheVariants as keywords
use Rattle.update_read.specs.declared.tokens.Mark.TheVariants as marks
use Rattle.update_read.specs.Grammar.{mark, keyword, full_iri, prefix_name, name, verb, One, IsLiteralEnd, IsObject, IsNextObject, Property, IsNextProperty, Group, IsNextGroup, IsTriples, Statement, say, property_says, operation_says, IsUpdate}
use Rattle.update_read.specs.Tokens.{Lexeme}
use Rattle.update_read.specs.Reading.{stem_of}

-- the statement of a triple
abbrev pub stated : Bindings → Stem → SpelledObject → Statement
stated b stem o = record { bindings = b; stem = stem; object = o }

-- behind an operation
abbrev pub AtEnd : Bindings → List Lexeme → List Statement → Type 0
AtEnd b s out = ((s ≡ []) × (out ≡ [])) ⊎ ((m : List Lexeme) × One mark s marks.Semicolon m × IsUpdate b m out)

-- where an operation must end
abbrev pub AtClose : Bindings → List Lexeme → List Statement → Type 0
AtClose b s out = (m : List Lexeme) × One mark s marks.CloseBrace m × AtEnd b m out

-- behind a group
pub record AtGroupEnd (b : Bindings) (operation : Operation) (s : List Lexeme) (out : List Statement) : Type 0 where
  pub groups : List Group
  pub groups_end : List Lexeme
  pub dot_ends : List Lexeme
  pub later : List Statement
  pub goes : Goes IsNextGroup s groups groups_end
  pub dot : (groups_end ≡ dot_ends) ⊎ One mark groups_end marks.Dot dot_ends
  pub close : AtClose b dot_ends later
  pub is : out ≡ operation_says b operation groups ++ later

-- where a group may stand
pub record AtGroups (b : Bindings) (operation : Operation) (s : List Lexeme) (out : List Statement) : Type 0 where
  pub groups : List Group
  pub ends : List Lexeme
  pub later : List Statement
  pub triples : IsTriples s groups ends
  pub close : AtClose b ends later
  pub is : out ≡ operation_says b operation groups ++ later

-- behind a verb's objects
pub record AtPropertyEnd (b : Bindings) (operation : Operation) (subject : SpelledName) (s : List Lexeme) (out : List Statement) : Type 0 where
  pub properties : List (List Property)
  pub ends : List Lexeme
  pub later : List Statement
  pub goes : Goes IsNextProperty s properties ends
  pub rest : AtGroupEnd b operation ends later
  pub is : out ≡ flat_map (property_says (say b operation subject)) (flat_map (λ (ps : List Property). ps) properties) ++ later

-- behind an object
pub record AtObjectEnd (b : Bindings) (stem : Stem) (s : List Lexeme) (out : List Statement) : Type 0 where
  pub more : List SpelledObject
  pub ends : List Lexeme
  pub later : List Statement
  pub goes : Goes IsNextObject s more ends
  pub rest : AtPropertyEnd b stem.operation stem.subject ends later
  pub is : out ≡ map (stated b stem) more ++ later

-- where an object must stand
pub record AtObject (b : Bindings) (stem : Stem) (s : List Lexeme) (out : List Statement) : Type 0 where
  pub it : SpelledObject
  pub ends : List Lexeme
  pub later : List Statement
  pub object : IsObject s it ends
  pub rest : AtObjectEnd b stem ends later
  pub is : out ≡ stated b stem it ∷ later

-- where a verb must stand
pub record AtVerb (b : Bindings) (operation : Operation) (subject : SpelledName) (s : List Lexeme) (out : List Statement) : Type 0 where
  pub it : SpelledVerb
  pub ends : List Lexeme
  pub is_verb : One verb s it ends
  pub rest : AtObject b (stem_of operation subject it) ends out

-- behind a string
pub record AtLiteralEnd (b : Bindings) (stem : Stem) (line : ℕ) (text : List ℕ) (s : List Lexeme) (out : List Statement) : Type 0 where
  pub tagged : List ℕ
  pub datatype : SpelledDatatype
  pub ends : List Lexeme
  pub later : List Statement
  pub end : IsLiteralEnd s tagged datatype ends
  pub rest : AtObjectEnd b stem ends later
  pub is : out ≡ stated b stem (objects.Literal line text tagged datatype) ∷ later

-- behind a string and ^^
pub record AtDatatype (b : Bindings) (stem : Stem) (line : ℕ) (text : List ℕ) (s : List Lexeme) (out : List Statement) : Type 0 where
  pub it : SpelledName
  pub ends : List Lexeme
  pub later : List Statement
  pub is_name : One name s it ends
  pub rest : AtObjectEnd b stem ends later
  pub is : out ≡ stated b stem (objects.Literal line text [] (datatypes.Written it)) ∷ later

abbrev pub AtBrace : Bindings → Operation → List Lexeme → List Statement → Type 0
AtBrace b operation s out = (m : List Lexeme) × One mark s marks.OpenBrace m × AtGroups b operation m out

-- what may come behind the spot, with these triples
abbrev pub Rest : Bindings → Spot → List Lexeme → List Statement → Type 0
Rest b spots.Start s out = IsUpdate b s out
Rest b spots.Prefix s out = (named iri : List ℕ) × (m n : List Lexeme) × One prefix_name s named m × One full_iri m iri n × IsUpdate (with_prefix b named iri) n out
Rest b (spots.Named named) s out = (iri : List ℕ) × (n : List Lexeme) × One full_iri s iri n × IsUpdate (with_prefix b named iri) n out
Rest b spots.Base s out = (iri : List ℕ) × (n : List Lexeme) × One full_iri s iri n × IsUpdate b n out
Rest b (spots.Word operation line) s out = (m : List Lexeme) × One keyword s keywords.Data m × AtBrace b operation m out
Rest b (spots.Data operation) s out = AtBrace b operation s out
Rest b (spots.Group operation) s out = AtGroups b operation s out
Rest b (spots.Subject operation subject) s out = AtVerb b operation subject s out
Rest b (spots.Verb stem) s out = AtObject b stem s out
Rest b (spots.Text stem line text) s out = AtLiteralEnd b stem line text s out
Rest b (spots.Hats stem line text) s out = AtDatatype b stem line text s out
Rest b (spots.Object stem) s out = AtObjectEnd b stem s out
Rest b (spots.Semicolon operation subject) s out = AtVerb b operation subject s out ⊎ AtPropertyEnd b operation subject s out
Rest b spots.Done s out = AtEnd b s out

-- what may come behind the step
abbrev pub Moves : Bindings → Step → List Lexeme → List Statement → Type 0
Moves b steps.Stuck s out = ⊥
Moves b (steps.On spot) s out = Rest b spot s out
Moves b (steps.Bind named iri) s out = IsUpdate (with_prefix b named iri) s out
Moves b (steps.Say stem o spot) s out = (later : List Statement) × Rest b spot s later × (out ≡ stated b stem o ∷ later)
