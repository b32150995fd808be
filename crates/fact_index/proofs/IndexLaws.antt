-- The facts of an index, by its links.
use Rattle.std.proofs.Common.{◌≡◌, ℕ, ◌<◌, ◌≤◌, Bool, true, List, [], ◌∷◌, length, get_or, map, refl, sym, ◌∙◌, ap, subst, inl, inr, ◌⊎◌, ⊎_elim, arith}
use Rattle.std.specs.Prelude.{Contains, ◌↔◌, Some, None}
use Rattle.std.proofs.lemmas.List.{length-append, get_or_append_left}
use Rattle.dl_base.specs.FactOrder.{fact_cmp, AreSorted}
use Rattle.std.specs.List.Sorted.{IsStrictlySortedBy}
use Rattle.dl_base.specs.declared.statements.Fact.{Fact}
use Rattle.dl_base.specs.declared.statements.Fact.TheVariants as fact
use Rattle.dl_base.specs.declared.terms.Term.{Term}
use Rattle.dl_base.proofs.Members.{here, there, nowhere, cons_cases}
use Rattle.dl_base.proofs.OrderLaws.{fact_total, exact_facts}
use Rattle.fact_index.specs.Numbers.{Numbered, Extends, IsGrown, IsLinkOf, IsWithin, fact_at, fact_by, name_at, value_at, no_value}
use Rattle.fact_index.specs.Numbers as numbers
use Rattle.fact_index.specs.Looking.{in_order, facts_of, AreWithin}
use Rattle.fact_index.specs.declared.places.Link.{Link}
use Rattle.fact_index.specs.declared.places.Shape.{Shape}
use Rattle.fact_index.specs.declared.places.Shape.TheVariants as shape
use Rattle.fact_index.proofs.LinkLaws.{IsPut, IsTaken}
use Rattle.fact_delta.proofs.OrderedLaws.{from_insert, into_insert, sorted_insert}

-- the facts in order
pub in_order_sorted : (fs : List Fact) → AreSorted (in_order fs)
unfolding IsStrictlySortedBy
in_order_sorted [] = tt
in_order_sorted (f ∷ fs) = sorted_insert fact_cmp fact_total exact_facts (in_order fs) f (in_order_sorted fs)

pub from_order : (fs : List Fact) (g : Fact) → Contains (in_order fs) g → Contains fs g
from_order [] g m = m
from_order (f ∷ fs) g m = ⊎_elim (λ e. subst (Contains (f ∷ fs)) e (here f fs)) (λ k. there f fs g (from_order fs g k)) (from_insert fact_cmp fact_total exact_facts (in_order fs) f g m)

pub into_order : (fs : List Fact) (g : Fact) → Contains fs g → Contains (in_order fs) g
into_order [] g m = m
into_order (f ∷ fs) g m = into_insert fact_cmp fact_total exact_facts (in_order fs) f g (⊎_elim inl (λ k. inr (into_order fs g k)) (cons_cases f fs g m))

pub from_map : (h : Link → Fact) (ls : List Link) (g : Fact) → Contains (map h ls) g → (l : Link) × Contains ls l × (h l ≡ g)
from_map h [] g m = absurd (nowhere g m)
from_map h (l ∷ ls) g m = ⊎_elim (λ e. (l, here l ls, e)) (λ k. let (a, b, c) = from_map h ls g k in (a, there l ls a b, c)) (cons_cases (h l) (map h ls) g m)

into_map : (h : Link → Fact) (ls : List Link) (l : Link) → Contains ls l → Contains (map h ls) (h l)
into_map h [] l m = absurd (nowhere l m)
into_map h (k ∷ ls) l m = ⊎_elim (λ e. subst (λ (z : Link). Contains (h k ∷ map h ls) (h z)) e (here (h k) (map h ls))) (λ n. there (h k) (map h ls) (h l) (into_map h ls l n)) (cons_cases k ls l m)

map_same : (h k : Link → Fact) (ls : List Link) → ((l : Link) → Contains ls l → h l ≡ k l) → map h ls ≡ map k ls
map_same h k [] e = refl
map_same h k (l ∷ ls) e = let a = e l (here l ls) in let b = map_same h k ls (λ m c. e m (there l ls m c)) in λ i. a i ∷ b i

abbrev HeldBy : Numbered → List Link → Fact → Type 0
HeldBy n links f = (l : Link) × Contains links l × (fact_at n l ≡ f)

pub held_by : (n : Numbered) (links : List Link) (f : Fact) → Contains (facts_of n links) f ↔ HeldBy n links f
held_by n links f = (
  (λ m. from_map (fact_at n) links f (from_order (map (fact_at n) links) f m)),
  λ (l, m, e). into_order (map (fact_at n) links) f (subst (Contains (map (fact_at n) links)) e (into_map (fact_at n) links l m)),
)

pub facts_sorted : (n : Numbered) (links : List Link) → AreSorted (facts_of n links)
facts_sorted n links = in_order_sorted (map (fact_at n) links)

-- the same links stand for the same facts
pub same_links : (n : Numbered) (links made : List Link) (facts : List Fact) → ((l : Link) → Contains made l ↔ Contains links l) → ((f : Fact) → Contains (facts_of n links) f ↔ Contains facts f) → (f : Fact) → Contains (facts_of n made) f ↔ Contains facts f
same_links n links made facts same are f = (
  (λ m. let (l, d, e) = (held_by n made f).0 m in (are f).0 ((held_by n links f).1 (l, (same l).0 d, e))),
  λ m. let (l, d, e) = (held_by n links f).0 ((are f).1 m) in (held_by n made f).1 (l, (same l).1 d, e),
)

-- numbers stay with their names and values
module _ {X : Type 0} (xs ys : List X) (g : IsGrown xs ys) where
  longer : length xs ≤ length ys
  longer = subst (λ (zs : List X). length xs ≤ length zs) (sym g.1) (omega (arith, length-append xs g.0))

  reads : (i : ℕ) (d : X) → i < length xs → get_or ys i d ≡ get_or xs i d
  reads i d l = ap (λ (zs : List X). get_or zs i d) g.1 ∙ get_or_append_left xs g.0 d i l

module _ (n m : Numbered) (x : Extends n m) where
  abbrev StaysBy : Shape → Term → ℕ → ℕ → Type 0
  StaysBy s t i j = numbers.AreWithin m s i j × (fact_by m s t i j ≡ fact_by n s t i j)

  within_by : (s : Shape) (t : Term) (i j : ℕ) → numbers.AreWithin n s i j → StaysBy s t i j
  within_by shape.Class t i j w =
      let more = longer _ _ x.names in
      let e : name_at m i ≡ name_at n i = reads _ _ x.names i [] w.0 in
      ((omega (arith, more, w.0), w.1), λ q. fact.Class t (e q))
  within_by shape.Role t i j w =
      let more = longer _ _ x.names in
      let e : name_at m i ≡ name_at n i = reads _ _ x.names i [] w.0 in
      let f : name_at m j ≡ name_at n j = reads _ _ x.names j [] w.1 in
      ((omega (arith, more, w.0), omega (arith, more, w.1)), λ q. fact.Role t (e q) (f q))
  within_by shape.Attr t i j w =
      let more = longer _ _ x.names in
      let most = longer _ _ x.values in
      let e : name_at m i ≡ name_at n i = reads _ _ x.names i [] w.0 in
      let f : value_at m j ≡ value_at n j = reads _ _ x.values j no_value w.1 in
      ((omega (arith, more, w.0), omega (arith, most, w.1)), λ q. fact.Attr t (e q) (f q))

  stays : (l : Link) → IsWithin n l → IsWithin m l × (fact_at m l ≡ fact_at n l)
  stays l w = within_by l.shape l.term l.from l.to w

  module _ (links : List Link) (within : AreWithin n links) where
    pub still_within : AreWithin m links
    still_within l c = (stays l (within l c)).0

    -- the facts stay the same
    pub facts_kept : facts_of m links ≡ facts_of n links
    facts_kept = ap in_order (map_same (fact_at m) (fact_at n) links (λ l c. (stays l (within l c)).1))

    module _ (f : Fact) (k : Link) (linked : (l : Link) → IsLinkOf m f l ↔ (l ≡ k)) where
      k_is : IsLinkOf m f k
      k_is = (linked k).1 refl

      k_held : Contains links k ↔ Contains (facts_of n links) f
      k_held = (
        (λ c. (held_by n links f).1 (k, c, sym (stays k (within k c)).1 ∙ k_is.1)),
        λ c. let (l, d, e) = (held_by n links f).0 c in let s = stays l (within l d) in subst (Contains links) ((linked l).0 (s.0, s.1 ∙ e)) d,
      )

      pub put_added : (b : Bool) → ((b ≡ true) ↔ ¬ Contains links k) → (b ≡ true) ↔ ¬ Contains (facts_of n links) f
      put_added b h = ((λ e c. h.0 e (k_held.1 c)), λ g. h.1 (λ c. g (k_held.0 c)))

      module _ (new : List Link) (put : IsPut k links new) where
        pub put_within : AreWithin m new
        put_within l c = ⊎_elim (λ e. subst (IsWithin m) (sym e) k_is.0) (λ d. still_within l d) ((put l).0 c)

        pub put_held : (g : Fact) → Contains (facts_of m new) g ↔ ((g ≡ f) ⊎ Contains (facts_of n links) g)
        put_held g = (
          (λ c. let (l, d, e) = (held_by m new g).0 c in ⊎_elim
              (λ q. inl (sym e ∙ ap (fact_at m) q ∙ k_is.1))
              (λ h. inr ((held_by n links g).1 (l, h, sym (stays l (within l h)).1 ∙ e)))
              ((put l).0 d)),
          λ s. (held_by m new g).1 (⊎_elim
              (λ e. (k, (put k).1 (inl refl), k_is.1 ∙ sym e))
              (λ c. let (l, d, e) = (held_by n links g).0 c in (l, (put l).1 (inr d), (stays l (within l d)).1 ∙ e))
              s),
        )

module _ (n : Numbered) (links : List Link) (within : AreWithin n links) (f : Fact) where
  -- no link stands for the fact
  pub not_held : ((l : Link) → IsLinkOf n f l ↔ (None ≡ Some l)) → ¬ Contains (facts_of n links) f
  not_held h c = let (l, d, e) = (held_by n links f).0 c in let no : None ≡ Some l = (h l).0 (within l d, e) in cc

  module _ (k : Link) (h : (l : Link) → IsLinkOf n f l ↔ (Some k ≡ Some l)) where
    is_k : (l : Link) → IsLinkOf n f l → l ≡ k
    is_k l w = let e : Some k ≡ Some l = (h l).0 w in cc

    k_stands : fact_at n k ≡ f
    k_stands = ((h k).1 refl).1

    pub held_at : Contains links k ↔ Contains (facts_of n links) f
    held_at = (
      (λ c. (held_by n links f).1 (k, c, k_stands)),
      λ c. let (l, d, e) = (held_by n links f).0 c in subst (Contains links) (is_k l (within l d, e)) d,
    )

    module _ (new : List Link) (taken : IsTaken k links new) where
      pub taken_within : AreWithin n new
      taken_within l c = within l ((taken l).0 c).0

      pub taken_held : (g : Fact) → Contains (facts_of n new) g ↔ (Contains (facts_of n links) g × ¬ (g ≡ f))
      taken_held g = (
        (λ c. let (l, d, e) = (held_by n new g).0 c in let r = (taken l).0 d in ((held_by n links g).1 (l, r.0, e), λ q. r.1 (is_k l (within l r.0, e ∙ q)))),
        λ (c, s). let (l, d, e) = (held_by n links g).0 c in (held_by n new g).1 (l, (taken l).1 (d, λ q. s (sym e ∙ ap (fact_at n) q ∙ k_stands)), e),
      )
