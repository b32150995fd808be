-- The tree of a document, without where it lies in memory.
use Rattle.std.specs.Prelude.{ℕ, List, [], ◌∷◌}
use Rattle.owl_syntax.specs.declared.nodes.Node.{Node, Word', Group', Iri, Prefixed, Blank, Digits, Literal', Row_of-Node, end_of-Node, more_of-Node, Held-Node-Literal-3, None', Some'}
use Rattle.owl_syntax.specs.declared.nodes.Document.{Document}
use Rattle.owl_syntax.specs.declared.nodes.PrefixLine.{PrefixLine}

-- the datatype of a literal: none, or the IRI or prefixed name that stands there; no document has another one
pub data Datatype : Type 0 where
  untyped other : Datatype
  by_iri : (line : ℕ) (text : List ℕ) → Datatype
  by_name : (line : ℕ) (prefix local : List ℕ) → Datatype

-- a node with no parentheses
pub data Leaf : Type 0 where
  iri blank digits : (line : ℕ) (text : List ℕ) → Leaf
  prefixed : (line : ℕ) (prefix local : List ℕ) → Leaf
  literal : (line : ℕ) (text tag : List ℕ) (datatype : Datatype) → Leaf

-- nodes beside each other: none, or one more behind those before it
pub data Forest : Type 0 where
  none : Forest
  leaf : (before : Forest) (it : Leaf) → Forest
  word : (before : Forest) (line : ℕ) (text : List ℕ) (args : Forest) → Forest
  group : (before : Forest) (line : ℕ) (args : Forest) → Forest

abbrev pub datatype_of : Node → Datatype
datatype_of (Iri line text) = by_iri line text.now
datatype_of (Prefixed line prefix local) = by_name line prefix.now local.now
datatype_of (Word' line text shape args) = other
datatype_of (Group' line shape args) = other
datatype_of (Blank line label) = other
datatype_of (Digits line text) = other
datatype_of (Literal' line text tag datatype) = other

abbrev pub held_datatype : Held-Node-Literal-3 → Datatype
held_datatype None' = untyped
held_datatype (Some' p node) = datatype_of node

-- the nodes before, and behind them one node more
abbrev mutual
  pub attach : Forest → Node → Forest
  attach before (Word' line text shape args) = word before line text.now (row_from none args)
  attach before (Group' line shape args) = group before line (row_from none args)
  attach before (Iri line text) = leaf before (iri line text.now)
  attach before (Prefixed line prefix local) = leaf before (prefixed line prefix.now local.now)
  attach before (Blank line label) = leaf before (blank line label.now)
  attach before (Digits line text) = leaf before (digits line text.now)
  attach before (Literal' line text tag datatype) = leaf before (literal line text.now tag.now (held_datatype datatype))

  pub row_from : {m : _} → Forest → Row_of-Node m → Forest
  row_from before end_of-Node = before
  row_from before (more_of-Node node rest) = row_from (attach before node) rest

abbrev pub forest_from : Forest → List Node → Forest
forest_from before [] = before
forest_from before (node ∷ nodes) = forest_from (attach before node) nodes

-- the nodes of a list
abbrev pub forest_of : List Node → Forest
forest_of nodes = forest_from none nodes

-- what a document says: its prefix lines and its root
pub record Content : Type 0 where
  pub prefixes : List PrefixLine
  pub root : Forest

abbrev pub content_of : Document → Content
content_of document = record { prefixes = document.prefixes.items; root = attach none document.root }
