-- The nodes of a tree as items.
use Rattle.std.proofs.Common.{◌≡◌, List, [], ◌∷◌, ◌++◌, refl, sym, ap, ◌∙◌, append_assoc}
use Rattle.std.proofs.Common.{ℕ, Bor, rules}
use Rattle.std.specs.Prelude.{map, Vec}
use Rattle.std.specs.Global.{Global}
use Rattle.owl_syntax.specs.declared.nodes.Node as declared
use Rattle.owl_syntax.specs.declared.nodes.Node.{the_lemmas}
use Rattle.owl_syntax.proofs.TreeLaws.{row_from_items}
use Rattle.std.proofs.lemmas.List.{append-nil}
use Rattle.owl_syntax.specs.declared.nodes.Node.{Node, Word', Group', Iri, Prefixed, Blank, Digits, Literal', Row_of-Node, end_of-Node, more_of-Node}
use Rattle.owl_syntax.specs.declared.nodes.Node.TheBlock.{items-the_row-Node}
use Rattle.owl_syntax.specs.Trees.{Forest, none, attach, row_from, forest_from, forest_of}
use Rattle.owl_read.specs.Items.{Item, Word, items_of, item_of, inside}

pub items_attach : (before : Forest) (node : Node) → items_of (attach before node) ≡ items_of before ++ item_of node ∷ []
items_attach before (Word' line text shape args) = refl
items_attach before (Group' line shape args) = refl
items_attach before (Iri line text) = refl
items_attach before (Prefixed line prefix local) = refl
items_attach before (Blank line label) = refl
items_attach before (Digits line text) = refl
items_attach before (Literal' line text tag datatype) = refl

one_more : (before : Forest) (node : Node) (nodes : List Node) (all : List Item) → all ≡ items_of (attach before node) ++ map item_of nodes → all ≡ items_of before ++ map item_of (node ∷ nodes)
one_more before node nodes all e = e ∙ ap (λ (is : List Item). is ++ map item_of nodes) (items_attach before node) ∙ simp append_assoc

-- what stands behind what stood before
items_from : {m : _} → (before : Forest) (row : Row_of-Node m) → items_of (row_from before row) ≡ items_of before ++ map item_of (items-the_row-Node m row)
items_from before end_of-Node = sym (append-nil (items_of before))
items_from before (more_of-Node node rest) = one_more before node (items-the_row-Node _ rest) _ (items_from (attach before node) rest)

-- what stands in a word's parentheses
pub row_items : {m : _} → (row : Row_of-Node m) → items_of (row_from none row) ≡ map item_of (items-the_row-Node m row)
row_items row = items_from none row

pub forest_items : (before : Forest) (nodes : List Node) → items_of (forest_from before nodes) ≡ items_of before ++ map item_of nodes
forest_items before [] = sym (append-nil (items_of before))
forest_items before (node ∷ nodes) = one_more before node nodes _ (forest_items (attach before node) nodes)

-- a word of the code
pub item_word : (node : Node) (line : ℕ) (text : Bor (List ℕ)) (args : Vec Node Global) → node ≡ declared.Word line text args → item_of node ≡ Word line text.now (forest_of args.items)
item_word node line text args e = rw e (search (rules, the_lemmas, row_from_items))

-- what stands inside a word of the code
pub inside_word : (node : Node) (line : ℕ) (text : Bor (List ℕ)) (args : Vec Node Global) → node ≡ declared.Word line text args → inside (attach none node) ≡ map item_of args.items
inside_word node line text args e = rw e (search (rules, the_lemmas, row_items))
