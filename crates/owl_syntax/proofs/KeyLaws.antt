-- The set of the names of prefix lines.
use Rattle.std.proofs.Common.{◌≡◌, ℕ, List, [], ◌∷◌, ◌++◌, Bool, true, false, refl, ap, sym, ◌∙◌}
use Rattle.std.specs.Prelude.{◌||◌}
use Rattle.std.specs.BTreeSet.{insert_key}
use Rattle.std.specs.Cmp.Lexicographic.{slice_cmp}
use Rattle.std.specs.List.{list_any}
use Rattle.std.specs.Ordering.{nat_cmp, is_eq, match_ordering}
use Rattle.std.specs.Str.{bytes_eq}
use Rattle.std.specs.declared.cmp.Ordering.{Ordering}
use Rattle.std.specs.declared.cmp.Ordering.TheVariants.{Less, Equal, Greater}
use Rattle.std.proofs.lemmas.Map.Text.{is_eq-slice_cmp}
use Rattle.std.proofs.lemmas.Slice.Eq.{bytes_eq-Decides}
use Rattle.owl_syntax.specs.declared.nodes.PrefixLine.{PrefixLine}
use Rattle.owl_syntax.specs.Grammar.{has_name}
use Rattle.owl_syntax.specs.Names.{HasSameNames}

abbrev pub hits : List ℕ → List ℕ → Bool
hits x key = is_eq (slice_cmp nat_cmp x key)

twice : (a r : Bool) → (a || r) ≡ (a || (a || r))
twice true r = refl
twice false r = refl

turned : (a b r : Bool) → (b || (a || r)) ≡ (a || (b || r))
turned true true r = refl
turned true false r = refl
turned false true r = refl
turned false false r = refl

same_key : (k y : List ℕ) → slice_cmp nat_cmp k y ≡ Equal → k ≡ y
same_key k y e = (bytes_eq-Decides k y).0 (sym (is_eq-slice_cmp k y) ∙ ap is_eq e)

any_insert : (x k : List ℕ) (ks : List (List ℕ)) → list_any (hits x) (insert_key (slice_cmp nat_cmp) ks k) ≡ (hits x k || list_any (hits x) ks)
any_insert x k [] = refl
any_insert x k (y ∷ ys) = on (slice_cmp nat_cmp k y) refl (any_insert x k ys)
  where
    on : (o : Ordering) → slice_cmp nat_cmp k y ≡ o → list_any (hits x) (insert_key (slice_cmp nat_cmp) ys k) ≡ (hits x k || list_any (hits x) ys)
        → list_any (hits x) (match_ordering o (k ∷ y ∷ ys) (y ∷ ys) (y ∷ insert_key (slice_cmp nat_cmp) ys k)) ≡ (hits x k || (hits x y || list_any (hits x) ys))
    on Less e h = refl
    on Equal e h = twice (hits x y) (list_any (hits x) ys) ∙ ap (λ (z : List ℕ). hits x z || (hits x y || list_any (hits x) ys)) (sym (same_key k y e))
    on Greater e h = ap (λ (b : Bool). hits x y || b) h ∙ turned (hits x k) (hits x y) (list_any (hits x) ys)

or_last : (a b : Bool) → (a || (b || false)) ≡ (b || a)
or_last true true = refl
or_last true false = refl
or_last false true = refl
or_last false false = refl

shift : (a b c : Bool) → ((a || b) || c) ≡ (a || (b || c))
shift true b c = refl
shift false b c = refl

has_push : (lines : List PrefixLine) (line : PrefixLine) (x : List ℕ) → has_name (lines ++ line ∷ []) x ≡ (bytes_eq x line.name || has_name lines x)
has_push [] line x = refl
has_push (l ∷ lines) line x = ap (λ (b : Bool). bytes_eq x l.name || b) (has_push lines line x) ∙ turned (bytes_eq x line.name) (bytes_eq x l.name) (has_name lines x)

pub same_none : (lines : List PrefixLine) (keys : List (List ℕ)) → lines ≡ [] → keys ≡ [] → HasSameNames lines keys
same_none lines keys e f x = ap (λ (l : List PrefixLine). has_name l x) e ∙ sym (ap (list_any (hits x)) f)

pub same_more : (lines more : List PrefixLine) (keys next : List (List ℕ)) (line : PrefixLine) → HasSameNames lines keys → more ≡ lines ++ line ∷ [] → next ≡ insert_key (slice_cmp nat_cmp) keys line.name
    → HasSameNames more next
same_more lines more keys next line h e f x =
    ap (λ (l : List PrefixLine). has_name l x) e ∙ has_push lines line x ∙ ap (λ (b : Bool). b || has_name lines x) (sym (is_eq-slice_cmp x line.name)) ∙ ap (λ (b : Bool). hits x line.name || b) (h x)
    ∙ sym (any_insert x line.name keys) ∙ sym (ap (list_any (hits x)) f)
