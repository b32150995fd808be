-- Names and values by number, and the facts that links stand for.
use Rattle.std.specs.Prelude.{◌≡◌, ℕ, ◌<◌, Bool, true, List, [], ◌++◌, Some, length, slice_get, slice_index_or}
use Rattle.dl_base.specs.declared.names.Value.{Value}
use Rattle.dl_base.specs.declared.statements.Fact.{Fact}
use Rattle.dl_base.specs.declared.statements.Fact.TheVariants as fact
use Rattle.dl_base.specs.declared.terms.Term.{Term}
use Rattle.fact_index.specs.declared.places.Link.{Link}
use Rattle.fact_index.specs.declared.places.Shape.{Shape}
use Rattle.fact_index.specs.declared.places.Shape.TheVariants as shape

-- no element stands at two places
abbrev pub AreOnce : {X : Type 0} → List X → Type 0
AreOnce {X} xs = (i j : ℕ) (x : X) → slice_get xs i ≡ Some x → slice_get xs j ≡ Some x → i ≡ j

-- the second list is the first with more at its end
abbrev pub IsGrown : {X : Type 0} → List X → List X → Type 0
IsGrown {X} old new = (more : List X) × (new ≡ old ++ more)

-- the element at i is k, which is equal to the item
abbrev pub StandsFor : {X : Type 0} → (X → X → Bool) → List X → X → ℕ → X → Type 0
StandsFor eq xs item i k = (slice_get xs i ≡ Some k) × (eq item k ≡ true)

-- the names and the values by number
pub record Numbered : Type 0 where
  pub names : List (List ℕ)
  pub values : List Value

-- each name and value of the first keeps its number
pub record Extends (old new : Numbered) : Type 0 where
  pub names : IsGrown old.names new.names
  pub values : IsGrown old.values new.values

-- the value without any bytes
abbrev pub no_value : Value
no_value = record { datatype = []; tag = []; text = [] }

abbrev pub name_at : Numbered → ℕ → List ℕ
name_at n i = slice_index_or n.names i []

abbrev pub value_at : Numbered → ℕ → Value
value_at n i = slice_index_or n.values i no_value

abbrev pub fact_by : Numbered → Shape → Term → ℕ → ℕ → Fact
fact_by n shape.Class t a b = fact.Class t (name_at n a)
fact_by n shape.Role t a b = fact.Role t (name_at n a) (name_at n b)
fact_by n shape.Attr t a b = fact.Attr t (name_at n a) (value_at n b)

-- the fact that the link stands for
abbrev pub fact_at : Numbered → Link → Fact
fact_at n l = fact_by n l.shape l.term l.from l.to

abbrev pub AreWithin : Numbered → Shape → ℕ → ℕ → Type 0
AreWithin n shape.Class a b = (a < length n.names) × (b ≡ 0)
AreWithin n shape.Role a b = (a < length n.names) × (b < length n.names)
AreWithin n shape.Attr a b = (a < length n.names) × (b < length n.values)

-- the numbers of the link are numbers of names and values
abbrev pub IsWithin : Numbered → Link → Type 0
IsWithin n l = AreWithin n l.shape l.from l.to

-- the link stands for the fact
abbrev pub IsLinkOf : Numbered → Fact → Link → Type 0
IsLinkOf n f l = IsWithin n l × (fact_at n l ≡ f)
