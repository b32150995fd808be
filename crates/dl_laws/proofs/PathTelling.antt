-- Whether there is a path: an edge more or less.
use Rattle.std.proofs.Common.{◌≡◌, ℕ, List, [], ◌∷◌, refl, sym, ap, subst, inl, inr, ◌⊎◌, ⊎_elim}
use Rattle.std.specs.Prelude.{Contains}
use Rattle.std.proofs.lemmas.Bool.{cases_eq}
use Rattle.dl_base.proofs.Members.{here, there, nowhere, cons_cases}
use Rattle.dl_laws.specs.Paths.{Path}
use Rattle.dl_laws.specs.Paths as graph
use Rattle.dl_laws.proofs.Telling.{Told}

path_more : (e : ℕ × ℕ) (es : List (ℕ × ℕ)) (i j : ℕ) → Path es i j → Path (e ∷ es) i j
path_more e es i j (graph.itself z) = graph.itself i
path_more e es i j (graph.further x k y p m) = graph.further i k j (path_more e es i k p) (there e es (k, j) m)

path_on : (es : List (ℕ × ℕ)) (i j k : ℕ) → Path es i j → Path es j k → Path es i k
path_on es i j k p (graph.itself z) = p
path_on es i j k p (graph.further x l y q m) = graph.further i l k (path_on es i j l p q) m

path_none : (i j : ℕ) → Path [] i j → i ≡ j
path_none i j (graph.itself z) = refl
path_none i j (graph.further x k y p m) = absurd (nowhere (k, j) m)

abbrev Around : ℕ × ℕ → List (ℕ × ℕ) → ℕ → ℕ → Type 0
Around e es i j = Path es i j ⊎ (Path es i e.0 × Path es e.1 j)

around_more : (e : ℕ × ℕ) (es : List (ℕ × ℕ)) (i k j : ℕ) → Around e es i k → Contains es (k, j) → Around e es i j
around_more e es i k j (inl p) m = inl (graph.further i k j p m)
around_more e es i k j (inr p) m = inr (p.0, graph.further e.1 k j p.1 m)

around_edge : (e : ℕ × ℕ) (es : List (ℕ × ℕ)) (i k j : ℕ) → Around e es i k → e.0 ≡ k → e.1 ≡ j → Around e es i j
around_edge e es i k j (inl p) x y = inr (subst (Path es i) (sym x) p, subst (Path es e.1) y (graph.itself e.1))
around_edge e es i k j (inr p) x y = inr (p.0, subst (Path es e.1) y (graph.itself e.1))

around : (e : ℕ × ℕ) (es : List (ℕ × ℕ)) (i j : ℕ) → Path (e ∷ es) i j → Around e es i j
around e es i j (graph.itself z) = inl (graph.itself i)
around e es i j (graph.further x k y p m) = ⊎_elim
    (λ h. around_edge e es i k j (around e es i k p) (ap (λ (z : ℕ × ℕ). z.0) h) (ap (λ (z : ℕ × ℕ). z.1) h))
    (λ n. around_more e es i k j (around e es i k p) n)
    (cons_cases e es (k, j) m)

through : (e : ℕ × ℕ) (es : List (ℕ × ℕ)) (i j : ℕ) → Path es i e.0 → Path es e.1 j → Path (e ∷ es) i j
through e es i j p q = path_on (e ∷ es) i e.1 j (graph.further i e.0 e.1 (path_more e es i e.0 p) (here (e.0, e.1) es)) (path_more e es e.1 j q)

tell : (e : ℕ × ℕ) (es : List (ℕ × ℕ)) (i j : ℕ) → Told (Path es i j) → Told (Path es i e.0) → Told (Path es e.1 j) → Told (Path (e ∷ es) i j)
tell e es i j (inl p) k l = inl (path_more e es i j p)
tell e es i j (inr n) (inl p) (inl q) = inl (through e es i j p q)
tell e es i j (inr n) (inl p) (inr m) = inr (λ h. ⊎_elim n (λ k. m k.1) (around e es i j h))
tell e es i j (inr n) (inr m) l = inr (λ h. ⊎_elim n (λ k. m k.0) (around e es i j h))

pub told_path : (es : List (ℕ × ℕ)) (i j : ℕ) → Told (Path es i j)
told_path [] i j = ⊎_elim (λ h. inl (subst (Path [] i) h (graph.itself i))) (λ n. inr (λ p. n (path_none i j p))) (cases_eq i j)
told_path (e ∷ es) i j = tell e es i j (told_path es i j) (told_path es i e.0) (told_path es e.1 j)
