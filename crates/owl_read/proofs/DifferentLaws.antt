-- Individuals of which none is named twice, as a loop takes them.
use Rattle.std.proofs.Common.{◌≡◌, ℕ, Bool, true, false, cond, List, ◌∷◌, Result, Ok, Err, refl, sym, ◌∙◌, ap}
use Rattle.std.specs.Prelude.{◌||◌}
use Rattle.std.specs.List.{list_any}
use Rattle.std.specs.Str.{bytes_eq}
use Rattle.std.specs.BTreeSet.{BTreeSet, contains}
use Rattle.std.specs.Cmp.Lexicographic.{slice_cmp}
use Rattle.std.specs.Ordering.{nat_cmp, is_eq}
use Rattle.std.proofs.lemmas.Bool.{cond-true, cond-false}
use Rattle.std.proofs.lemmas.Map.Text.{is_eq-slice_cmp}
use Rattle.dl_text.specs.declared.kinds.ReadKind.TheVariants as kinds
use Rattle.owl_read.specs.Items.{Item, line_of}
use Rattle.owl_read.specs.Outcomes.{Refusal, ◌>>=◌}
use Rattle.owl_read.specs.Places.{individual_at}
use Rattle.owl_read.specs.Rows.{different_at}
use Rattle.owl_read.specs.Scopes.{Naming}

-- the name is one of these
abbrev pub is_one : List (List ℕ) → List ℕ → Bool
is_one names q = list_any (λ (one : List ℕ). bytes_eq one q) names

module _ (names : List (List ℕ)) (s t : Naming) (item : Item) (items : List Item) (name : List ℕ) (all : Result Naming Refusal) (is : individual_at s item ≡ Ok (t, name)) where
  abbrev Then : Naming × List ℕ → Result Naming Refusal
  Then x = cond (is_one names x.1) (Err (line_of item, kinds.NotDlLite)) (different_at (x.1 ∷ names) x.0 items)

  pub different_on : is_one names name ≡ false → different_at names s (item ∷ items) ≡ all → different_at (name ∷ names) t items ≡ all
  unfolding different_at
  different_on new h = sym (ap (λ (r : Result (Naming × List ℕ) Refusal). r >>= Then) is ∙ cond-false (is_one names name) _ _ new) ∙ h

  pub different_stops : is_one names name ≡ true → different_at names s (item ∷ items) ≡ all → all ≡ Err (line_of item, kinds.NotDlLite)
  unfolding different_at
  different_stops old h = sym h ∙ ap (λ (r : Result (Naming × List ℕ) Refusal). r >>= Then) is ∙ cond-true (is_one names name) _ _ old

or_is : (a b : Bool) → cond a true b ≡ (a || b)
or_is true b = refl
or_is false b = refl

-- the set with one name more
pub names_more : (before after : BTreeSet (List ℕ)) (names : List (List ℕ)) (name : List ℕ)
    → ((q : List ℕ) → contains (slice_cmp nat_cmp) before q ≡ is_one names q)
    → ((q : List ℕ) → contains (slice_cmp nat_cmp) after q ≡ cond (is_eq (slice_cmp nat_cmp name q)) true (contains (slice_cmp nat_cmp) before q))
    → (q : List ℕ) → contains (slice_cmp nat_cmp) after q ≡ is_one (name ∷ names) q
names_more before after names name h u q =
    u q ∙ (λ i. cond (is_eq-slice_cmp name q i) true (h q i)) ∙ or_is (bytes_eq name q) (is_one names q)
