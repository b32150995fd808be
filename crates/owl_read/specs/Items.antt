-- The nodes of a document beside each other, in the order of the text.
use Rattle.std.specs.Prelude.{ℕ, List, [], ◌∷◌, ◌++◌, Option, Some, None}
use Rattle.owl_syntax.specs.declared.nodes.Node.{Node, Word', Group', Iri, Prefixed, Blank, Digits, Literal'}
use Rattle.owl_syntax.specs.Trees.{Leaf, iri, blank, digits, prefixed, literal, Forest, none, leaf, word, group, row_from, held_datatype}

-- one node: a name, a number or a literal; a word with what stands in its parentheses; or parentheses without a word
pub data Item : Type 0 where
  Single : (it : Leaf) → Item
  Word : (line : ℕ) (text : List ℕ) (args : Forest) → Item
  Group : (line : ℕ) (args : Forest) → Item

-- the nodes from left to right
abbrev pub items_of : Forest → List Item
items_of none = []
items_of (leaf before it) = items_of before ++ Single it ∷ []
items_of (word before line text args) = items_of before ++ Word line text args ∷ []
items_of (group before line args) = items_of before ++ Group line args ∷ []

-- what stands inside the parentheses of the last node
abbrev pub inside : Forest → List Item
inside (word before line text args) = items_of args
inside other = []

abbrev pub line_of_leaf : Leaf → ℕ
line_of_leaf (iri line text) = line
line_of_leaf (blank line label) = line
line_of_leaf (digits line text) = line
line_of_leaf (prefixed line prefix local) = line
line_of_leaf (literal line text tag datatype) = line

-- the line of the node's first token
abbrev pub line_of : Item → ℕ
line_of (Single it) = line_of_leaf it
line_of (Word line text args) = line
line_of (Group line args) = line

-- a word's line, its text and what stands in its parentheses
abbrev pub word_in : Item → Option (ℕ × List ℕ × List Item)
word_in (Word line text args) = Some (line, text, items_of args)
word_in (Single it) = None
word_in (Group line args) = None

-- a node as the tree holds it
abbrev pub item_of : Node → Item
item_of (Word' line text shape args) = Word line text.now (row_from none args)
item_of (Group' line shape args) = Group line (row_from none args)
item_of (Iri line text) = Single (iri line text.now)
item_of (Prefixed line prefix local) = Single (prefixed line prefix.now local.now)
item_of (Blank line label) = Single (blank line label.now)
item_of (Digits line text) = Single (digits line text.now)
item_of (Literal' line text tag datatype) = Single (literal line text.now tag.now (held_datatype datatype))
