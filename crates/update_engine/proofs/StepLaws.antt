-- The steps of the loops, and what they come to.
use Rattle.std.proofs.Common.{◌≡◌, ℕ, zero, suc, ◌<◌, ◌+◌, List, [], ◌∷◌, ◌++◌, length, take, get_or, sym, ◌∙◌, ap, subst, inl, inr, ◌⊎◌, ⊎_elim, arith}
use Rattle.std.specs.Prelude.{◌↔◌, Some, slice_get, Contains}
use Rattle.std.proofs.Math.Seq.{take-length}
use Rattle.std.proofs.lemmas.List.Elements.{Contains-append_left, Contains-append_right, Contains-append_cases}
use Rattle.dl_base.specs.declared.axioms.Axiom.{Axiom}
use Rattle.dl_base.specs.declared.statements.Fact.{Fact}
use Rattle.dl_base.specs.Clash.{IsConsistent, HasClash}
use Rattle.dl_base.specs.Derivation.{InClosure, row_of}
use Rattle.dl_base.specs.FactOrder.{AreSorted, fact_cmp}
use Rattle.dl_base.specs.Picks.{Picks, Collects}
use Rattle.dl_base.specs.Updates.{Lists, Meets, IsWellFormed, IsRemoved, IsPut}
use Rattle.dl_base.proofs.Members.{here, there, alone, among}
use Rattle.dl_base.proofs.Collecting.{collects_append}
use Rattle.dl_base.proofs.PicksLaws.{from_picks, into_picks, picks_sorted}
use Rattle.dl_base.proofs.ClashLaws.{clash_along}
use Rattle.dl_base.proofs.ClosureLaws.{derived_more, from_one, member_in_closure}
use Rattle.dl_base.proofs.MeetingLaws.{meets_back}
use Rattle.tbox_closure.proofs.LoopLaws.{take_on}
use Rattle.dl_laws.proofs.Stepping.{step_updates, step_loses}
use Rattle.update_engine.specs.declared.answers.Step.{Step}
use Rattle.update_engine.specs.Stepping.{FollowsFrom, IsStep}
use Rattle.update_engine.proofs.JudgeLaws.{at_place, same_at}

pub follow_step : (axioms : List Axiom) (removed : List Fact) (i : ℕ) (g : Fact) (xs ys : List Fact) → i < length removed → g ≡ get_or removed i g
    → Collects (FollowsFrom axioms removed) i xs → Lists (InClosure axioms (g ∷ [])) ys → Collects (FollowsFrom axioms removed) (i + 1) (xs ++ ys)
follow_step axioms removed i g xs ys l e h k =
    let at = at_place removed i g l e in
    collects_append (FollowsFrom axioms removed) i xs ys h (λ x. (
      (λ m. (g, at, (k.each x).0 m)),
      λ r. (k.each x).1 (subst (λ z. InClosure axioms (z ∷ []) x) (same_at removed i r.0 g r.1 at) r.2),
    ))

pub member_of : {X : Type 0} (xs : List X) (i : ℕ) (x : X) → slice_get xs i ≡ Some x → Contains xs x
member_of [] i x e = cc
member_of (y ∷ xs) zero x e = let same : y ≡ x = cc in subst (Contains (y ∷ xs)) same (here y xs)
member_of (y ∷ xs) (suc i) x e = there y xs x (member_of xs i x e)

pub place_in : {X : Type 0} (xs : List X) (x : X) → Contains xs x → (i : ℕ) × (i < length xs) × (slice_get xs i ≡ Some x)
place_in xs x (i, l, e) = (i, l, at_place xs i x l (sym e))

pub follow_all : (axioms : List Axiom) (removed xs : List Fact) → Collects (FollowsFrom axioms removed) (length removed) xs → (f : Fact) → Contains xs f ↔ ((g : Fact) × Contains removed g × InClosure axioms (g ∷ []) f)
follow_all axioms removed xs h f = (
  (λ m. let r = (h f).0 m in (r.2.0, member_of removed r.0 r.2.0 r.2.1, r.2.2)),
  λ k. let p = place_in removed k.0 k.1 in (h f).1 (p.0, p.1, (k.0, p.2, k.2)),
)

abbrev pub Joins : List Fact → List Fact → List Fact → Type 0
Joins old xs now = (f : Fact) → Contains now f ↔ (Contains old f ⊎ Contains xs f)

pub join_none : (old xs : List Fact) → Joins old (take 0 xs) old
join_none old xs f = ((λ m. inl m), λ h. ⊎_elim (λ m. m) (λ m. absurd (omega (arith, m.1))) h)

pub join_step : (old xs now : List Fact) (i : ℕ) (x : Fact) → i < length xs → x ≡ get_or xs i x → Joins old (take i xs) now → Joins old (take (i + 1) xs) (now ++ x ∷ [])
join_step old xs now i x l e h = subst (λ z. Joins old z (now ++ x ∷ [])) (sym (take_on xs i x l e)) (λ f. (
  (λ m. ⊎_elim (λ k. ⊎_elim (λ j. inl j) (λ j. inr (Contains-append_left (take i xs) (x ∷ []) f j)) ((h f).0 k)) (λ k. inr (Contains-append_right (take i xs) (x ∷ []) f k)) (Contains-append_cases now (x ∷ []) f m)),
  λ z. ⊎_elim
      (λ j. Contains-append_left now (x ∷ []) f ((h f).1 (inl j)))
      (λ j. ⊎_elim (λ k. Contains-append_left now (x ∷ []) f ((h f).1 (inr k))) (λ k. Contains-append_right now (x ∷ []) f k) (Contains-append_cases (take i xs) (x ∷ []) f j))
      z,
))

pub join_end : (old xs now : List Fact) (i : ℕ) → i ≡ length xs → Joins old (take i xs) now → Joins old xs now
join_end old xs now i e h = subst (λ z. Joins old z now) (ap (λ n. take n xs) e ∙ take-length xs) h

pub through : (P : Fact → Type 0) (xs ys : List Fact) → ((f : Fact) → Contains ys f ↔ Contains xs f) → ((f : Fact) → Contains xs f ↔ P f) → (f : Fact) → Contains ys f ↔ P f
through P xs ys h k f = ((λ m. (k f).0 ((h f).0 m)), λ q. (h f).1 ((k f).1 q))

module _ (axioms : List Axiom) (old inserts deletes : List Fact) (consistent : IsConsistent axioms old) (well : IsWellFormed axioms inserts deletes) where
  -- what consistent facts entail has no clash of its own
  pub entailed_alone : (f : Fact) → InClosure axioms old f → ¬ HasClash axioms (f ∷ [])
  entailed_alone f h clash = consistent (clash_along axioms (f ∷ []) old (λ g m. subst (InClosure axioms old) (alone f g m) h) clash)

  module _ (gone entailed : List Fact) (removes : Lists (IsRemoved axioms old inserts deletes) gone) (sorted : AreSorted entailed)
      (follows : (f : Fact) → Contains entailed f ↔ ((g : Fact) × Contains gone g × InClosure axioms (g ∷ []) f)) where
    -- what a removed fact entails is entailed
    pub in_old : (f : Fact) → Contains entailed f → InClosure axioms old f
    in_old f m = let r = (follows f).0 m in derived_more axioms (r.0 ∷ []) old (among r.0 old ((removes.each r.0).0 r.1).0) (row_of f) r.2

    less_is : (less : List Fact) → Picks (Meets axioms inserts deletes) entailed less → (f : Fact) → Contains less f ↔ (InClosure axioms old f × Meets axioms inserts deletes f)
    less_is less picked f = (
      (λ m. let r = from_picks (Meets axioms inserts deletes) entailed less f picked m in (in_old f r.0, r.1)),
      λ h.
          let one = from_one axioms old (row_of f) h.0 in
          into_picks (Meets axioms inserts deletes) entailed less f picked
          ((follows f).1 (one.0, (removes.each one.0).1 (one.1, meets_back axioms inserts deletes f one.0 one.2 h.1), one.2)) h.1,
    )

    abbrev Stays : Fact → Type 0
    Stays f = ¬ Meets axioms inserts deletes f

    pub come_is : (kept come : List Fact) → Picks Stays entailed kept → Joins kept inserts come → (f : Fact) → Contains come f ↔ IsPut axioms old inserts deletes f
    come_is kept come picked joins f = (
      (λ m. ⊎_elim
          (λ k. let r = from_picks Stays entailed kept f picked k in let g = (follows f).0 r.0 in inr ((g.0, (removes.each g.0).0 g.1, g.2), r.1))
          (λ k. inl k)
          ((joins f).0 m)),
      λ h. ⊎_elim
          (λ k. (joins f).1 (inr k))
          (λ k. (joins f).1 (inl (into_picks Stays entailed kept f picked ((follows f).1 (k.0.0, (removes.each k.0.0).1 k.0.1, k.0.2)) k.1)))
          h,
    )

    pub step_is : (step : Step) → step.removed.items ≡ gone → Picks (Meets axioms inserts deletes) entailed step.lost.items
        → AreSorted step.put.items → ((f : Fact) → Contains step.put.items f ↔ IsPut axioms old inserts deletes f)
        → Picks (λ f. ¬ Contains old f) step.put.items step.added.items → IsStep axioms old inserts deletes step
    step_is step same picked order puts unheld =
        let come = step.put.items in
        let more = step.added.items in
        let less = step.lost.items in
        record {
          well_formed = well;
          removed = subst (Lists (IsRemoved axioms old inserts deletes)) (sym same) removes;
          put = record { sorted = order; each = puts };
          added = record {
            sorted = picks_sorted (λ f. ¬ Contains old f) fact_cmp come more unheld order;
            each = λ f. (
              (λ m. let r = from_picks (λ z. ¬ Contains old z) come more f unheld m in (inr ((puts f).0 r.0), r.1)),
              λ h. into_picks (λ z. ¬ Contains old z) come more f unheld ((puts f).1 (⊎_elim (λ k. absurd (h.1 k.0)) (λ k. k) h.0)) h.1,
            );
          };
          lost = λ new stored.
              let loses = step_loses axioms old inserts deletes new consistent well stored in
              record {
                sorted = picks_sorted (Meets axioms inserts deletes) fact_cmp entailed less picked sorted;
                each = λ f. ((λ m. (loses f).1 ((less_is less picked f).0 m)), λ h. (less_is less picked f).1 ((loses f).0 h));
              };
          update = λ new stored. (step_updates axioms old inserts deletes new consistent well stored).0;
          consistent = λ new stored. (step_updates axioms old inserts deletes new consistent well stored).1;
        }
