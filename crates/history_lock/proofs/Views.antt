-- Lists of seats: one of them changed, or one more.
use Rattle.std.proofs.Common.{◌≡◌, ◌≢◌, ◌⊎◌, ℕ, zero, suc, ◌+◌, ◌<◌, ◌≤◌, List, [], ◌∷◌, ◌++◌, length, set, sym, refl, ap, ◌∙◌, subst, ⊎_elim, inl, inr, arith}
use mathlib.Core.Option.{some, some-injective, some-ne-none}
use mathlib.Core.Logic.{dite}
use native.Mathlib.Decide.{ℕ_discrete}
use lib.ListN.{get_elem?}
use Rattle.atomic_table.proofs.Lists.{at_set, set_here, set_else}
use Rattle.dl_base.specs.declared.requests.Entry.{Entry}
use Rattle.history_lock.specs.declared.rule.View.{View}
use Rattle.history_lock.specs.declared.rule.Stage.{Stage}
use Rattle.history_lock.specs.declared.rule.Stage.TheVariants.{Spent, Out, Joined, Waiting, Taken, Looked}
use Rattle.history_lock.specs.Rule.{tickets, tickets_in, IsLive, IsSeen}

pub at_below : {A : Type 0} (l : List A) (i : ℕ) (a : A) → get_elem? l i ≡ some a → i < length l
at_below [] i a e = absurd (some-ne-none a (sym e))
at_below (x ∷ xs) zero a e = omega arith
at_below (x ∷ xs) (suc i) a e = omega (arith, at_below xs i a e)

-- what holds of the changed seat and of all others holds of all
pub stay : (K : ℕ → View → Type 0) (vs : List View) (me : ℕ) (w : View) → K me w → ((j : ℕ) (d : View) → j ≢ me → get_elem? vs j ≡ some d → K j d)
    → (j : ℕ) (d : View) → get_elem? (set vs me w) j ≡ some d → K j d
stay K vs me w mine others j d e = ⊎_elim (λ (t : (j ≡ me) × (w ≡ d)). subst (λ (x : ℕ × View). K x.0 x.1) (λ i. (sym t.0 i, t.1 i)) mine)
    (λ (t : (j ≢ me) × (get_elem? vs j ≡ some d)). others j d t.0 t.1) (at_set vs me j w d e)

-- whoever has the same place is the same seat
pub same_view : (vs : List View) (i j : ℕ) (v w : View) → i ≡ j → get_elem? vs i ≡ some v → get_elem? vs j ≡ some w → v ≡ w
same_view vs i j v w e a b = some-injective v w (sym a ∙ (ap (get_elem? vs) e ∙ b))

pub at_snoc_place : {A : Type 0} (l : List A) (a b : A) (j : ℕ) → get_elem? (l ++ a ∷ []) j ≡ some b → (get_elem? l j ≡ some b) ⊎ ((j ≡ length l) × (a ≡ b))
at_snoc_place [] a b zero e = inr (refl, some-injective a b e)
at_snoc_place [] a b (suc j) e = absurd (some-ne-none b (sym e))
at_snoc_place (x ∷ xs) a b zero e = inl e
at_snoc_place (x ∷ xs) a b (suc j) e = ⊎_elim inl (λ (t : (j ≡ length xs) × (a ≡ b)). inr (ap suc t.0, t.1)) (at_snoc_place xs a b j e)

pub tickets_set : (vs : List View) (i : ℕ) (v w : View) → get_elem? vs i ≡ some v → tickets_in (set vs i w) + tickets v.stage ≡ tickets_in vs + tickets w.stage
tickets_set [] i v w e = absurd (some-ne-none v (sym e))
tickets_set (x ∷ xs) zero v w e = omega (arith, ap (λ (u : View). tickets u.stage) (some-injective x v e))
tickets_set (x ∷ xs) (suc i) v w e = omega (arith, tickets_set xs i v w e)

tickets_one : (st : Stage) → tickets st ≤ 1
tickets_one Spent = omega arith
tickets_one Out = omega arith
tickets_one (Joined a b) = omega arith
tickets_one (Waiting t) = omega arith
tickets_one (Taken t h) = omega arith
tickets_one (Looked t) = omega arith

pub tickets_few : (vs : List View) → tickets_in vs ≤ length vs
tickets_few [] = omega arith
tickets_few (v ∷ vs) = omega (arith, tickets_few vs, tickets_one v.stage)

pub tickets_snoc : (vs : List View) (v : View) → tickets_in (vs ++ v ∷ []) ≡ tickets_in vs + tickets v.stage
tickets_snoc [] v = omega arith
tickets_snoc (x ∷ xs) v = omega (arith, tickets_snoc xs v)

-- a step that leaves what the seat has seen leaves that some seat has seen the whole history
pub still_seen : (log : List Entry) (vs : List View) (id : ℕ) (v w : View) → get_elem? vs id ≡ some v → (IsLive v.stage → IsLive w.stage) → w.seen ≡ v.seen → IsSeen log vs → IsSeen log (set vs id w)
still_seen log vs id v w at live same (i, u, there, lives, whole) = dite (ℕ_discrete i id)
    (λ e. let one : u ≡ v = same_view vs i id u v e there at in (id, w, set_here vs id w (at_below vs id v at), live (subst (λ (x : View). IsLive x.stage) one lives), same ∙ (sym (ap (λ (x : View). x.seen) one) ∙ whole)))
    (λ other. (i, u, set_else vs id i w other ∙ there, lives, whole))
