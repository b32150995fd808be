-- An index of given facts, and of changed ones.
use Rattle.std.proofs.Common.{◌≡◌, ℕ, ◌<◌, ◌≤◌, ◌+◌, ◌^◌, true, false, List, [], ◌∷◌, ◌++◌, length, take, get_or, sym, ◌∙◌, ap, subst, inl, inr, ◌⊎◌, ⊎_elim, arith}
use Rattle.std.specs.Prelude.{Contains, ◌↔◌}
use Rattle.std.proofs.lemmas.List.{take_all}
use Rattle.std.proofs.lemmas.List.Elements.{Contains-append_left, Contains-push, Contains-push_cases}
use Rattle.dl_base.specs.Changing.{Fits, IsChanged}
use Rattle.dl_base.specs.FactOrder.{AreSorted}
use Rattle.dl_base.specs.declared.requests.Changed.{Changed}
use Rattle.dl_base.specs.declared.statements.Fact.{Fact}
use Rattle.dl_base.proofs.VocabularyLaws.{take_on}
use Rattle.fact_delta.specs.Deltas.{Over, standing, with_all, without, IsApplied, AreMarked, Fits as DeltaFits}
use Rattle.fact_index.specs.Keeping.{IsKept}

-- the index has the facts, and no others
abbrev pub HasAll : List Fact → List Fact → Type 0
HasAll facts held = (f : Fact) → Contains held f ↔ Contains facts f

pub has_none : HasAll [] []
has_none f = ((λ m. m), λ m. m)

pub has_more : (facts held new : List Fact) (g : Fact) → ((f : Fact) → Contains new f ↔ ((f ≡ g) ⊎ Contains held f)) → HasAll facts held → HasAll (facts ++ g ∷ []) new
has_more facts held new g put h f = (
  (λ m. ⊎_elim (λ e. subst (Contains (facts ++ g ∷ [])) (sym e) (Contains-push facts g)) (λ k. Contains-append_left facts (g ∷ []) f ((h f).0 k)) ((put f).0 m)),
  λ m. (put f).1 (⊎_elim (λ k. inr ((h f).1 k)) (λ e. inl (sym e)) (Contains-push_cases facts g f m)),
)

pub has_next : (facts : List Fact) (i : ℕ) (f g : Fact) (held new : List Fact) → i < length facts → f ≡ get_or facts i f → g ≡ f → ((k : Fact) → Contains new k ↔ ((k ≡ g) ⊎ Contains held k)) → HasAll (take i facts) held → HasAll (take (i + 1) facts) new
has_next facts i f g held new l at is put h = subst (λ (us : List Fact). HasAll us new) (ap (λ (z : Fact). take i facts ++ z ∷ []) is ∙ sym (take_on facts i f l at)) (has_more (take i facts) held new g put h)

pub has_end : (facts : List Fact) (i : ℕ) (held : List Fact) → length facts ≤ i → HasAll (take i facts) held → HasAll facts held
has_end facts i held past h = subst (λ (us : List Fact). HasAll us held) (take_all i facts past) h

-- an index with nothing that came or went
pub stands_alone : (d e : Over) (base : List Fact) → e ≡ d → d.base ≡ base → (d.came ≡ []) × (d.went ≡ []) → standing e ≡ base
stands_alone d e base same b (came, went) = ap standing same ∙ ((λ i. with_all (came i) (without (went i) d.base)) ∙ b)

pub alone_kept : (d e : Over) (base : List Fact) → e ≡ d → d.base ≡ base → (d.came ≡ []) × (d.went ≡ []) → AreSorted base → length base < 2 ^ 64 → IsKept e
alone_kept d e base same b nothing sorted room = record {
  sorted = subst AreSorted (sym (stands_alone d e base same b nothing)) sorted;
  room =
      let all : length e.base ≡ length base = ap (λ (o : Over). length o.base) same ∙ ap length b in
      let none : length e.came ≡ 0 = ap (λ (o : Over). length o.came) same ∙ ap length nothing.0 in
      omega (arith, all, none, room);
}

module _ (old : List Fact) (changed : List Changed) (gone come : List Fact) (goes : AreMarked changed false gone) (comes : AreMarked changed true come) where
  pub fits_marked : Fits old changed → DeltaFits old gone come
  fits_marked fits = record { go = λ f m. fits.go f ((goes f).0 m); come = λ f m. fits.come f ((comes f).0 m) }

  pub applied_changed : (new : List Fact) → IsApplied old gone come new → IsChanged old changed new
  applied_changed new h f = (
    (λ m. ⊎_elim (λ (o, n). inl (o, λ k. n ((goes f).1 k))) (λ k. inr ((comes f).0 k)) ((h f).0 m)),
    λ s. (h f).1 (⊎_elim (λ (o, n). inl (o, λ k. n ((goes f).0 k))) (λ k. inr ((comes f).1 k)) s),
  )

-- the same facts are a change of the same
pub changed_same : (old : List Fact) (changed : List Changed) (new it : List Fact) → IsChanged old changed new → ((f : Fact) → Contains it f ↔ Contains new f) → IsChanged old changed it
changed_same old changed new it h same f = ((λ m. (h f).0 ((same f).0 m)), λ s. (same f).1 ((h f).1 s))
