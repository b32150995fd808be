-- Annotations in front, one after another.
use Rattle.std.proofs.Common.{◌≡◌, ℕ, Bool, true, false, List, [], ◌∷◌, ◌++◌, Some, Result, Ok, Err, refl, sym, ◌∙◌, ap}
use Rattle.std.specs.Prelude.{map, if◌then◌else◌}
use Rattle.owl_syntax.specs.declared.nodes.Node.{Node}
use Rattle.owl_syntax.specs.Trees.{Forest, none, leaf, word, group, forest_of}
use Rattle.owl_read.specs.Annotations.{front_by, front_at, annotations_in, annotations_at}
use Rattle.owl_read.specs.Items.{Item, Single, Word, Group, items_of, item_of}
use Rattle.owl_read.specs.Outcomes.{Refusal, ◌>>=◌, run}
use Rattle.owl_read.specs.Scopes.{Naming}
use Rattle.owl_read.proofs.NodeLaws.{forest_items}
use Rattle.owl_read.proofs.RunLaws.{run_push}

abbrev Fronts : Type 0
Fronts = Naming × Bool

-- behind annotations alone one node more
abbrev front_step : Fronts → Item → Result Fronts Refusal
front_step x item = if x.1 then front_at x.0 item else Ok (x.0, false)

more : (s : Naming) (items : List Item) (item : Item) (r : Result Fronts Refusal) → r ≡ run front_step (s, true) items
    → (r >>= λ x. front_step x item) ≡ run front_step (s, true) (items ++ item ∷ [])
more s items item r e = ap (λ (q : Result Fronts Refusal). q >>= λ x. front_step x item) e ∙ sym (run_push front_step items item (s, true))

annotations_run : (s : Naming) (f : Forest) → annotations_in s f ≡ run front_step (s, true) (items_of f)
unfolding annotations_in front_at
annotations_run s none = refl
annotations_run s (leaf before it) = more s (items_of before) (Single it) (annotations_in s before) (annotations_run s before)
annotations_run s (word before line text args) = more s (items_of before) (Word line text args) (annotations_in s before) (annotations_run s before)
annotations_run s (group before line args) = more s (items_of before) (Group line args) (annotations_in s before) (annotations_run s before)

abbrev place : Result Fronts Refusal → Result Naming Refusal
place r = r >>= λ x. Ok x.0

-- where something else has stood, nothing more is read
stays : (s : Naming) (items : List Item) → run front_step (s, false) items ≡ Ok (s, false)
stays s [] = refl
stays s (item ∷ items) = stays s items

on : (items : List Item) (go : (t : Naming) → place (run front_step (t, true) items) ≡ annotations_at t items) (r : Result Fronts Refusal)
    → place (r >>= λ x. run front_step x items) ≡ (r >>= λ x. if x.1 then annotations_at x.0 items else Ok x.0)
on items go (Ok (t, true)) = go t
on items go (Ok (t, false)) = ap place (stays t items)
on items go (Err e) = refl

annotations_list : (items : List Item) (s : Naming) → place (run front_step (s, true) items) ≡ annotations_at s items
unfolding annotations_at
annotations_list [] s = refl
annotations_list (item ∷ items) s = on items (λ t. annotations_list items t) (front_at s item)

-- what stands in a tree is read as in a list
pub annotations_same : (s : Naming) (f : Forest) → place (annotations_in s f) ≡ annotations_at s (items_of f)
annotations_same s f = ap place (annotations_run s f) ∙ annotations_list (items_of f) s

-- an annotation by its word
pub front_word : (s : Naming) (item : Item) (line : ℕ) (text : List ℕ) (nodes : List Node) → item ≡ Word line text (forest_of nodes)
    → front_at s item ≡ front_by (λ t. annotations_at t (map item_of nodes)) s (Some (line, text, map item_of nodes))
unfolding front_at
front_word s item line text nodes e =
    let is = forest_items none nodes in
    ap (front_at s) e
    ∙ (λ i. front_by (λ t. annotations_same t (forest_of nodes) i) s (Some (line, text, items_of (forest_of nodes))))
    ∙ (λ i. front_by (λ t. annotations_at t (is i)) s (Some (line, text, is i)))
