-- The parts of right sides beside each other, one side after another.
use Rattle.std.proofs.Common.{◌≡◌, ℕ, List, [], ◌∷◌, ◌++◌, Result, Ok, Err, refl, sym, ◌∙◌, ap}
use Rattle.std.proofs.lemmas.List.{append-nil}
use Rattle.std.specs.Prelude.{map}
use Rattle.owl_syntax.specs.declared.nodes.Node.{Node}
use Rattle.owl_syntax.specs.Trees.{Forest, none, leaf, word, group, forest_of}
use Rattle.owl_read.proofs.NodeLaws.{forest_items}
use Rattle.owl_read.specs.declared.sides.Part.{Part}
use Rattle.owl_read.specs.Concepts.{right_with, word_right, rights_in, right_at}
use Rattle.owl_read.specs.Items.{Item, Single, Word, Group, items_of, item_of}
use Rattle.owl_read.specs.Outcomes.{Refusal, ◌>>=◌, run, with_front}
use Rattle.owl_read.specs.Scopes.{Naming}
use Rattle.owl_read.proofs.RunLaws.{run_push, front_twice}

abbrev pub Parts : Type 0
Parts = Naming × List Part

-- behind what was found, the parts of one right side more
abbrev pub right_step : Parts → Item → Result Parts Refusal
right_step found item = with_front found.1 (right_at found.0 item)

-- one side more
behind_front : (front : List Part) (item : Item) (r : Result Parts Refusal) → with_front front (r >>= λ x. right_step x item) ≡ (with_front front r >>= λ x. right_step x item)
behind_front front item (Ok x) = front_twice front x.1 (right_at x.0 item)
behind_front front item (Err e) = refl

more : (front : List Part) (item : Item) (items : List Item) (s : Naming) (r : Result Parts Refusal) → with_front front r ≡ run right_step (s, front) items
    → with_front front (r >>= λ x. right_step x item) ≡ run right_step (s, front) (items ++ item ∷ [])
more front item items s r e = behind_front front item r ∙ ap (λ (q : Result Parts Refusal). q >>= λ x. right_step x item) e ∙ sym (run_push right_step items item (s, front))

pub rights_run : (front : List Part) (s : Naming) (f : Forest) → with_front front (rights_in s f) ≡ run right_step (s, front) (items_of f)
unfolding rights_in
rights_run front s none = ap (λ (ps : List Part). Ok (s, ps)) (append-nil front)
rights_run front s (leaf before it) = more front (Single it) (items_of before) s (rights_in s before) (rights_run front s before)
rights_run front s (word before line text args) = more front (Word line text args) (items_of before) s (rights_in s before) (rights_run front s before)
rights_run front s (group before line args) = more front (Group line args) (items_of before) s (rights_in s before) (rights_run front s before)

-- a right side by its word
pub word_case : (s : Naming) (item : Item) (line : ℕ) (text : List ℕ) (nodes : List Node) → item ≡ Word line text (forest_of nodes)
    → right_at s item ≡ word_right (λ u. rights_in u (forest_of nodes)) s line text (map item_of nodes)
unfolding right_with
word_case s item line text nodes e = ap (right_at s) e ∙ ap (word_right (λ u. rights_in u (forest_of nodes)) s line text) (forest_items none nodes)

-- right sides beside each other, as a loop takes them
pub rights_start : (front : List Part) (s : Naming) (nodes : List Node) → run right_step (s, front) (map item_of nodes) ≡ with_front front (rights_in s (forest_of nodes))
rights_start front s nodes = ap (run right_step (s, front)) (sym (forest_items none nodes)) ∙ sym (rights_run front s (forest_of nodes))
