-- The table at the start keeps the rule.
use Rattle.std.proofs.Common.{◌≡◌, ℕ, zero, suc, ◌^◌, ◌<◌, List, [], ◌∷◌, sym, refl, subst, inl, arith, Option, Some}
use Rattle.std.proofs.lemmas.List.Elements.{All-cons, All-nil}
use mathlib.Core.Option.{some, some-injective, some-ne-none}
use lib.ListN.{get_elem?}
use Rattle.atomic_table.specs.Table.{opening as laid}
use Rattle.dl_base.specs.declared.requests.Entry.{Entry}
use Rattle.history_lock.specs.declared.histories.Opening.{Opening}
use Rattle.history_lock.specs.declared.rule.View.{View}
use Rattle.history_lock.specs.Rule.{first_view, IsInside, IsCarried, Fits, MeetsRule}
use Rattle.history_lock.proofs.Growing.{prefix_self, numbered_none}

module _ {S : Type 0} (opening : S → Opening) (entries : S → List Entry) where
  pub starts : (x : S) (items : List (Option S)) (o : Opening) → items ≡ Some x ∷ [] → o ≡ opening x → entries x ≡ [] → (opening x).limit < 2 ^ 64 → MeetsRule opening entries (laid (0 ∷ 0 ∷ 0 ∷ []) items (first_view o))
  starts x items o held same none_yet small = subst (λ (z : List (Option S) × Opening). MeetsRule opening entries (laid (0 ∷ 0 ∷ 0 ∷ []) z.0 (first_view z.1))) (λ i. (sym held i, sym same i)) record {
    log = [];
    next = 0;
    serving = 0;
    queue = [];
    start = opening x;
    made = 1;
    owner = λ c. c;
    words = refl;
    next_is = omega arith;
    below = omega arith;
    small = (omega arith, small);
    numbered = numbered_none;
    made_is = refl;
    few = omega arith;
    queued = refl;
    home = inl (x, refl, none_yet, refl, λ j v e inside. alone (λ u. IsInside u.stage → ⊥) j v (λ i. i) e inside);
    editors = All-nil (λ (y : Entry). y.editor < 1);
    longest = (0, first_view (opening x), refl, tt, refl);
    each = λ j v e. only (Fits (opening x) 1 (λ c. c) 0 [] []) (first_view (opening x)) record {
      stands = tt;
      live = λ _. record {
        same = refl;
        begins = prefix_self [];
        placed = refl;
        zeroth = λ _. refl;
        itself = (0, omega arith, refl);
        carries = All-cons (IsCarried 1 (λ c. c) [] 0 []) 0 [] (omega arith, refl, refl) (All-nil (IsCarried 1 (λ c. c) [] 0 []));
      };
    } j v e;
  }
    where
      only : (K : ℕ → View → Type 0) (u : View) → K 0 u → (j : ℕ) (v : View) → get_elem? (u ∷ []) j ≡ some v → K j v
      only K u k zero v e = subst (K 0) (some-injective u v e) k
      only K u k (suc j) v e = absurd (some-ne-none v (sym e))

      alone : (K : View → Type 0) (j : ℕ) (v : View) → K (first_view (opening x)) → get_elem? (first_view (opening x) ∷ []) j ≡ some v → K v
      alone K zero v k e = subst K (some-injective (first_view (opening x)) v e) k
      alone K (suc j) v k e = absurd (some-ne-none v (sym e))
