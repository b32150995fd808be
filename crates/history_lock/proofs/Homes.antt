-- Where the state is, after a step.
use Rattle.std.proofs.Common.{◌≡◌, ℕ, List, [], ◌∷◌, ◌++◌, length, get_or, set, sym, ap, ◌∙◌, subst, ⊎_elim, inl, inr, Option, Some, None}
use mathlib.Core.Logic.{dite}
use mathlib.Core.Option.{none, some}
use mathlib.Core.Option as maybe
use native.Mathlib.Decide.{ℕ_discrete}
use lib.ListN.{get_elem?}
use lib.Seq.{set-get_or}
use Rattle.atomic_table.specs.Table.{State, Me, rest}
use Rattle.atomic_table.proofs.Lists.{set_here, set_else, set_again, at_longer}
use Rattle.dl_base.specs.declared.requests.Entry.{Entry}
use Rattle.history_lock.specs.declared.histories.Opening.{Opening}
use Rattle.history_lock.specs.declared.rule.View.{View}
use Rattle.history_lock.specs.Rule.{IsInside, IsHome, MeetsRule}
use Rattle.history_lock.proofs.Views.{at_below, stay, same_view, at_snoc_place}

-- the value in the slot taken last
abbrev pub slot_of : {S : Type 0} → List (ℕ × Option S) → Option S
slot_of [] = None
slot_of (c ∷ cs) = c.1

-- the state in the slot taken last, or d
abbrev pub held_of : {S : Type 0} → S → List (ℕ × Option S) → S
held_of d [] = d
held_of d ((k, Some y) ∷ cs) = y
held_of d ((k, None) ∷ cs) = d

-- the slot held, after a plain read and write of it
pub exchanged : {S : Type 0} (m m' : Me (Option S) View) (was now : Option S) → m.1 ≡ (0, was) ∷ [] → m' ≡ (m.0, (0, now) ∷ rest m.1) → (m'.0 ≡ m.0) × (m'.1 ≡ (0, now) ∷ [])
exchanged {S} m m' was now holding is = (ap (λ (x : Me (Option S) View). x.0) is, ap (λ (x : Me (Option S) View). x.1) is ∙ ap (λ (cs : List (ℕ × Option S)). (0, now) ∷ rest cs) holding)

module _ {S : Type 0} (opening : S → Opening) (entries : S → List Entry) where
  -- after a step of a seat that does not come into a turn or end one
  pub home_stays : (start : Opening) (log : List Entry) (s : State (Option S) View) (ws : List ℕ) (id : ℕ) (v w : View) → get_elem? s.views id ≡ some v → (IsInside v.stage → IsInside w.stage) → (IsInside w.stage → IsInside v.stage) → IsHome opening entries start log s
      → IsHome opening entries start log record { words = ws; homes = s.homes; views = set s.views id w }
  home_stays start log s ws id v w at goes back (inl (x, homes, history, begun, nobody)) =
      inl (x, homes, history, begun, stay (λ _ u. IsInside u.stage → ⊥) s.views id w (λ i. nobody id v at (back i)) (λ j d _ there. nobody j d there))
  home_stays start log s ws id v w at goes back (inr (out, (i, u, there, inside))) = dite (ℕ_discrete i id)
      (λ e. inr (out, (id, w, set_here s.views id w (at_below s.views id v at), goes (subst (λ (x : View). IsInside x.stage) (same_view s.views i id u v e there at) inside))))
      (λ other. inr (out, (i, u, set_else s.views id i w other ∙ there, inside)))

  -- beside a new seat
  pub snoc_home : (start : Opening) (log : List Entry) (ws : List ℕ) (hs : List (maybe.Option (Option S))) (vs : List View) (w : View) → (IsInside w.stage → ⊥) → IsHome opening entries start log record { words = ws; homes = hs; views = vs }
      → IsHome opening entries start log record { words = ws; homes = hs; views = vs ++ w ∷ [] }
  snoc_home start log ws hs vs w out (inl (x, homes, history, begun, nobody)) =
      inl (x, homes, history, begun, λ j d e inside. ⊎_elim (λ (t : get_elem? vs j ≡ some d). nobody j d t inside) (λ (t : (j ≡ length vs) × (w ≡ d)). out (subst (λ (u : View). IsInside u.stage) (sym t.1) inside)) (at_snoc_place vs w d j e))
  snoc_home start log ws hs vs w out (inr (away, (i, u, there, inside))) = inr (away, (i, u, at_longer vs (w ∷ []) i u there, inside))

  -- while a seat is in its turn, the slot is out
  pub out_now : (s : State (Option S) View) (r : MeetsRule opening entries s) (id : ℕ) (v : View) → get_elem? s.views id ≡ some v → IsInside v.stage → IsHome opening entries r.start r.log s → s.homes ≡ none ∷ []
  out_now s r id v at inside (inl (x, homes, history, begun, nobody)) = absurd (nobody id v at inside)
  out_now s r id v at inside (inr h) = h.0

  -- a step that changes nothing keeps the rule
  pub unmoved : (s : State (Option S) View) (r : MeetsRule opening entries s) (i id : ℕ) (v : View) → get_elem? s.views id ≡ some v → MeetsRule opening entries record { words = set s.words i (get_or s.words i 0); homes = s.homes; views = set s.views id v }
  unmoved s r i id v at = subst (λ (x : List ℕ × List View). MeetsRule opening entries record { words = x.0; homes = s.homes; views = x.1 }) (λ k. (sym (set-get_or s.words i 0) k, sym (set_again s.views id v at) k)) r
