-- Dropping repeats.
use Rattle.std.proofs.Common.{◌≡◌, ℕ, ◌<◌, ◌+◌, List, [], ◌∷◌, ◌++◌, length, take, get_or, refl, sym, ◌∙◌, ap, subst, inl, inr, ◌⊎◌, ⊎_elim}
use Rattle.std.specs.Prelude.{Contains, ◌↔◌}
use Rattle.std.proofs.lemmas.List.Elements.{Contains-push, Contains-push_cases, Contains-append_left}
use Rattle.dl_base.specs.declared.statements.Fact.{Fact}
use Rattle.dl_base.specs.Repeats.{IsOnceAfter, IsOnce}
use Rattle.dl_base.proofs.Members.{here, there, nowhere, cons_cases}
use Rattle.dl_base.proofs.VocabularyLaws.{take_on}

pub new_push : (seen facts kept : List Fact) (f : Fact) → IsOnceAfter seen facts kept → ¬ Contains seen f → ¬ Contains facts f → IsOnceAfter seen (facts ++ f ∷ []) (kept ++ f ∷ [])
new_push seen [] kept f h n m = inr (n, ([], ap (λ (zs : List Fact). zs ++ f ∷ []) h, refl))
new_push seen (g ∷ facts) kept f (inl h) n m = inl (h.0, new_push seen facts kept f h.1 n (λ k. m (there g facts f k)))
new_push seen (g ∷ facts) kept f (inr h) n m =
    inr (
      h.0,
      (
        h.1.0 ++ f ∷ [],
        ap (λ (zs : List Fact). zs ++ f ∷ []) h.1.1,
        new_push (g ∷ seen) facts h.1.0 f h.1.2
            (λ k. ⊎_elim (λ e. m (subst (λ (z : Fact). Contains (g ∷ facts) z) e (here g facts))) n (cons_cases g seen f k))
            (λ k. m (there g facts f k)),
      ),
    )

pub old_push : (seen facts kept : List Fact) (f : Fact) → IsOnceAfter seen facts kept → Contains seen f ⊎ Contains facts f → IsOnceAfter seen (facts ++ f ∷ []) kept
old_push seen [] kept f h (inl m) = inl (m, h)
old_push seen [] kept f h (inr m) = absurd (nowhere f m)
old_push seen (g ∷ facts) kept f (inl h) m =
    inl (h.0, old_push seen facts kept f h.1 (⊎_elim inl (λ k. ⊎_elim (λ e. inl (subst (Contains seen) e h.0)) inr (cons_cases g facts f k)) m))
old_push seen (g ∷ facts) kept f (inr h) m =
    inr (
      h.0,
      (
        h.1.0,
        h.1.1,
        old_push (g ∷ seen) facts h.1.0 f h.1.2
            (⊎_elim (λ k. inl (there g seen f k)) (λ k. ⊎_elim (λ e. inl (subst (λ (z : Fact). Contains (g ∷ seen) z) e (here g seen))) inr (cons_cases g facts f k)) m),
      ),
    )

module _ (facts : List Fact) (i : ℕ) (f : Fact) (l : i < length facts) (e : f ≡ get_or facts i f) where
  pub once_more : (kept : List Fact) → IsOnce (take i facts) kept → ¬ Contains (take i facts) f → IsOnce (take (i + 1) facts) (kept ++ f ∷ [])
  once_more kept h n = subst (λ (zs : List Fact). IsOnce zs (kept ++ f ∷ [])) (sym (take_on facts i f l e)) (new_push [] (take i facts) kept f h (nowhere f) n)

  pub once_again : (kept : List Fact) → IsOnce (take i facts) kept → Contains (take i facts) f → IsOnce (take (i + 1) facts) kept
  once_again kept h m = subst (λ (zs : List Fact). IsOnce zs kept) (sym (take_on facts i f l e)) (old_push [] (take i facts) kept f h (inr m))

-- repeats are dropped in one way
once_one_after : (seen facts one other : List Fact) → IsOnceAfter seen facts one → IsOnceAfter seen facts other → one ≡ other
once_one_after seen [] one other h k = h ∙ sym k
once_one_after seen (f ∷ facts) one other (inl h) (inl k) = once_one_after seen facts one other h.1 k.1
once_one_after seen (f ∷ facts) one other (inl h) (inr k) = absurd (k.0 h.0)
once_one_after seen (f ∷ facts) one other (inr h) (inl k) = absurd (h.0 k.0)
once_one_after seen (f ∷ facts) one other (inr h) (inr k) = h.1.1 ∙ ap (λ (zs : List Fact). f ∷ zs) (once_one_after (f ∷ seen) facts h.1.0 k.1.0 h.1.2 k.1.2) ∙ sym k.1.1

pub once_is_one : (facts one other : List Fact) → IsOnce facts one → IsOnce facts other → one ≡ other
once_is_one = once_one_after []

-- and none is lost
into_once : (seen facts kept : List Fact) (f : Fact) → IsOnceAfter seen facts kept → Contains facts f → Contains seen f ⊎ Contains kept f
into_once seen [] kept f h m = absurd (nowhere f m)
into_once seen (g ∷ facts) kept f (inl h) m = ⊎_elim (λ e. inl (subst (Contains seen) e h.0)) (λ k. into_once seen facts kept f h.1 k) (cons_cases g facts f m)
into_once seen (g ∷ facts) kept f (inr h) m =
    let into : Contains (g ∷ h.1.0) f → Contains kept f = λ k. subst (λ (zs : List Fact). Contains zs f) (sym h.1.1) k in
    ⊎_elim (λ e. inr (into (subst (λ (z : Fact). Contains (g ∷ h.1.0) z) e (here g h.1.0))))
    (λ k. ⊎_elim (λ n. ⊎_elim (λ e. inr (into (subst (λ (z : Fact). Contains (g ∷ h.1.0) z) e (here g h.1.0)))) inl (cons_cases g seen f n)) (λ n. inr (into (there g h.1.0 f n))) (into_once (g ∷ seen) facts h.1.0 f h.1.2 k))
    (cons_cases g facts f m)

from_once : (seen facts kept : List Fact) (f : Fact) → IsOnceAfter seen facts kept → Contains kept f → Contains facts f
from_once seen [] kept f h m = absurd (nowhere f (subst (λ (zs : List Fact). Contains zs f) h m))
from_once seen (g ∷ facts) kept f (inl h) m = there g facts f (from_once seen facts kept f h.1 m)
from_once seen (g ∷ facts) kept f (inr h) m =
    ⊎_elim (λ e. subst (λ (z : Fact). Contains (g ∷ facts) z) e (here g facts)) (λ k. there g facts f (from_once (g ∷ seen) facts h.1.0 f h.1.2 k)) (cons_cases g h.1.0 f (subst (λ (zs : List Fact). Contains zs f) h.1.1 m))

pub once_has : (facts kept : List Fact) → IsOnce facts kept → (f : Fact) → Contains kept f ↔ Contains facts f
once_has facts kept h f = (from_once [] facts kept f h, λ m. ⊎_elim (λ n. absurd (nowhere f n)) (λ k. k) (into_once [] facts kept f h m))

-- the set has the facts so far, and one more
pub seen_more : (facts : List Fact) (i : ℕ) (f : Fact) → i < length facts → f ≡ get_or facts i f → (keys more : List Fact)
    → ((g : Fact) → Contains keys g ↔ Contains (take i facts) g) → ((g : Fact) → Contains more g ↔ ((g ≡ f) ⊎ Contains keys g))
    → (g : Fact) → Contains more g ↔ Contains (take (i + 1) facts) g
seen_more facts i f l e keys more before now g = subst (λ (zs : List Fact). Contains more g ↔ Contains zs g) (sym (take_on facts i f l e)) (
  (λ m. ⊎_elim (λ k. subst (λ (z : Fact). Contains (take i facts ++ f ∷ []) z) (sym k) (Contains-push (take i facts) f)) (λ k. Contains-append_left (take i facts) (f ∷ []) g ((before g).0 k)) ((now g).0 m)),
  λ m. (now g).1 (⊎_elim (λ k. inr ((before g).1 k)) (λ k. inl (sym k)) (Contains-push_cases (take i facts) f g m)),
)
