-- Facts of which none stands twice, behind others.
use Rattle.std.proofs.Common.{◌≡◌, suc, List, [], ◌∷◌, ◌++◌, length, Global, arith, refl, sym, ◌∙◌, ap, subst, inl, inr, ⊎_elim}
use Rattle.std.specs.Iterator.{Yields}
use Rattle.std.specs.Prelude.{Contains, ◌↔◌}
use Rattle.std.specs.Vec.Iter.{into_iter_items, into_iter_len, into_iter_steps}
use Rattle.std.specs.declared.vec.IntoIter.{IntoIter}
use Rattle.std.proofs.lemmas.List.{append_assoc, append-nil}
use Rattle.std.proofs.lemmas.List.Elements.{Contains-append_cases, Contains-append_left}
use Rattle.dl_base.specs.declared.statements.Fact.{Fact}
use Rattle.dl_base.specs.Repeats.{IsOnceAfter, IsOnce}
use Rattle.dl_base.proofs.Members.{here, there, nowhere, cons_cases}
use Rattle.dl_base.proofs.RepeatsLaws.{new_push, old_push, once_has}
use Rattle.loading.specs.Loading.{IsPushedUnless}

-- where repeats are dropped, none is left
settled : (seen facts kept : List Fact) → IsOnceAfter seen facts kept → IsOnceAfter seen kept kept
settled seen [] kept h = subst (λ (zs : List Fact). IsOnceAfter seen zs zs) (sym h) refl
settled seen (f ∷ facts) kept (inl h) = settled seen facts kept h.1
settled seen (f ∷ facts) kept (inr h) = subst (λ (zs : List Fact). IsOnceAfter seen zs zs) (sym h.1.1) (inr (h.0, (h.1.0, refl, settled (f ∷ seen) facts h.1.0 h.1.2)))

pub once_settled : (facts kept : List Fact) → IsOnce facts kept → IsOnce kept kept
once_settled = settled []

not_seen : (seen facts kept : List Fact) (f : Fact) → IsOnceAfter seen facts kept → Contains kept f → ¬ Contains seen f
not_seen seen [] kept f h m = absurd (nowhere f (subst (λ (zs : List Fact). Contains zs f) h m))
not_seen seen (g ∷ facts) kept f (inl h) m = not_seen seen facts kept f h.1 m
not_seen seen (g ∷ facts) kept f (inr h) m = λ s. ⊎_elim
    (λ e. h.0 (subst (Contains seen) (sym e) s))
    (λ k. not_seen (g ∷ seen) facts h.1.0 f h.1.2 k (there g seen f s))
    (cons_cases g h.1.0 f (subst (λ (zs : List Fact). Contains zs f) h.1.1 m))

first_of : List Fact → Fact → Fact
first_of [] d = d
first_of (f ∷ facts) d = f

rest_of : List Fact → List Fact
rest_of [] = []
rest_of (f ∷ facts) = facts

middle : (front rest : List Fact) (f : Fact) → Contains (front ++ f ∷ rest) f
middle [] rest f = here f rest
middle (g ∷ front) rest f = there g (front ++ f ∷ rest) f (middle front rest f)

-- what stands behind the front isn't in it
fresh : (seen facts kept front rest : List Fact) (f : Fact) → IsOnceAfter seen facts kept → kept ≡ front ++ f ∷ rest → ¬ Contains front f
unfolding first_of rest_of
fresh seen [] kept front rest f h e = absurd (nowhere f (subst (λ (zs : List Fact). Contains zs f) (sym e ∙ h) (middle front rest f)))
fresh seen (g ∷ facts) kept front rest f (inl h) e = fresh seen facts kept front rest f h.1 e
fresh seen (g ∷ facts) kept [] rest f (inr h) e = nowhere f
fresh seen (g ∷ facts) kept (y ∷ front) rest f (inr h) e =
    let same : g ∷ h.1.0 ≡ y ∷ (front ++ f ∷ rest) = sym h.1.1 ∙ e in
    let first : g ≡ y = ap (λ (zs : List Fact). first_of zs g) same in
    let later : h.1.0 ≡ front ++ f ∷ rest = ap rest_of same in
    λ m. ⊎_elim
    (λ k. not_seen (g ∷ seen) facts h.1.0 f h.1.2 (subst (λ (zs : List Fact). Contains zs f) (sym later) (middle front rest f)) (subst (Contains (g ∷ seen)) (first ∙ k) (here g seen)))
    (fresh (g ∷ seen) facts h.1.0 front rest f h.1.2 later)
    (cons_cases y front f m)

-- what is known is given
pub known_given : (known copies slice given : List Fact) (f : Fact) → ((g : Fact) → Contains known g ↔ Contains copies g) → copies ≡ slice → slice ≡ given → Contains known f ↔ Contains given f
known_given known copies slice given f same a b = let e : copies ≡ given = a ∙ b in subst (λ (fs : List Fact). Contains known f ↔ Contains fs f) e (same f)

-- dropping repeats of the given facts and of those behind them that came so far leaves these
abbrev pub Joins : List Fact → List Fact → List Fact → Type 0
Joins given came all = (facts : List Fact) → IsOnce facts given → IsOnce (facts ++ came) all

pub joins_none : (given : List Fact) → Joins given [] given
joins_none given facts h = subst (λ (zs : List Fact). IsOnce zs given) (sym (append-nil facts)) h

module _ (given came all known : List Fact) (f : Fact) (so_far : Joins given came all) (same : Contains known f ↔ Contains given f) where
  together : (facts then : List Fact) → IsOnce ((facts ++ came) ++ f ∷ []) then → IsOnce (facts ++ (came ++ f ∷ [])) then
  together facts then h = subst (λ (zs : List Fact). IsOnce zs then) (append_assoc facts came (f ∷ [])) h

  -- one more, which didn't come before
  pub joins_more : (¬ Contains came f) → (then : List Fact) → IsPushedUnless known all f then → Joins given (came ++ f ∷ []) then
  joins_more k then (inl (m, e)) facts h =
      together facts then (old_push [] (facts ++ came) then f (subst (IsOnce (facts ++ came)) (sym e) (so_far facts h)) (inr (Contains-append_left facts came f ((once_has facts given h f).0 (same.0 m)))))
  joins_more k then (inr (n, e)) facts h =
      let apart : ¬ Contains (facts ++ came) f = λ m. ⊎_elim (λ s. n (same.1 ((once_has facts given h f).1 s))) k (Contains-append_cases facts came f m) in
      together facts then (subst (IsOnce ((facts ++ came) ++ f ∷ [])) (sym e) (new_push [] (facts ++ came) all f (so_far facts h) (nowhere f) apart))

-- what an iterator over facts gave, and what is left
taken : (s : IntoIter Fact Global) (came : List Fact) (t : IntoIter Fact Global) → Yields into_iter_steps s came t → into_iter_items s ≡ came ++ into_iter_items t
taken s [] t y = ap into_iter_items y
taken s (f ∷ came) t y = y.1.0 ∙ ap (λ (fs : List Fact). f ∷ fs) (taken y.0 came t y.2)

left : (s : IntoIter Fact Global) (came : List Fact) (t : IntoIter Fact Global) → Yields into_iter_steps s came t → into_iter_len s ≡ length (into_iter_items s) → into_iter_len t ≡ length (into_iter_items t)
left s [] t y e = subst (λ (u : IntoIter Fact Global). into_iter_len u ≡ length (into_iter_items u)) y e
left s (f ∷ came) t y e = left y.0 came t y.2 (let l : length (into_iter_items s) ≡ suc (length (into_iter_items y.0)) = ap length y.1.0 in let k = y.1.1 in omega (arith, e, l, k))

none_left : (facts : List Fact) → length facts ≡ 0 → facts ≡ []
none_left [] e = refl
none_left (f ∷ facts) e = cc

module _ (facts : List Fact) (s : IntoIter Fact Global) (came : List Fact) (t : IntoIter Fact Global) (begins : into_iter_items s ≡ facts) (y : Yields into_iter_steps s came t) where
  -- the next of facts of which none stands twice didn't come before
  pub not_yet : (f : Fact) (u : IntoIter Fact Global) → IsOnce facts facts → into_iter_items t ≡ f ∷ into_iter_items u → ¬ Contains came f
  not_yet f u h e = fresh [] facts facts came (into_iter_items u) f h (sym begins ∙ taken s came t y ∙ ap (λ (fs : List Fact). came ++ fs) e)

  -- at the end all came
  pub all_came : into_iter_len s ≡ length facts → into_iter_len t ≡ 0 → came ≡ facts
  all_came n e =
      let l : into_iter_len t ≡ length (into_iter_items t) = left s came t y (n ∙ ap length (sym begins)) in
      let none : into_iter_items t ≡ [] = none_left (into_iter_items t) (sym l ∙ e) in
      sym (sym begins ∙ taken s came t y ∙ ap (λ (fs : List Fact). came ++ fs) none ∙ append-nil came)
