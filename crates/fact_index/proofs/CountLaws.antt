-- How many facts an index has, and all of them.
use Rattle.std.proofs.Common.{◌≡◌, ℕ, suc, ◌<◌, ◌+◌, List, [], ◌∷◌, ◌++◌, length, take, get_or, map, refl, sym, ◌∙◌, ap, subst, arith}
use Rattle.std.specs.Prelude.{Contains, ◌↔◌, Some}
use Rattle.std.proofs.lemmas.Option.{slice_get-get_or}
use Rattle.std.proofs.lemmas.List.{map-append, take_more}
use Rattle.dl_base.specs.FactOrder.{fact_cmp, AreSorted}
use Rattle.dl_base.specs.declared.statements.Fact.{Fact}
use Rattle.dl_base.specs.declared.terms.Term.{Term}
use Rattle.dl_base.proofs.Members.{here, there}
use Rattle.dl_base.proofs.OrderLaws.{fact_total, exact_facts}
use Rattle.dl_base.proofs.SortedLaws.{same_sorted}
use Rattle.fact_index.specs.Numbers.{Numbered, AreOnce, IsWithin, fact_at, fact_by}
use Rattle.fact_index.specs.Numbers as numbers
use Rattle.fact_index.specs.Looking.{in_order, facts_of, AreWithin}
use Rattle.fact_index.specs.declared.places.Link.{Link}
use Rattle.fact_index.specs.declared.places.Shape.{Shape}
use Rattle.fact_index.specs.declared.places.Shape.TheVariants as shape
use Rattle.fact_index.proofs.FactLaws.{link_with, class_parts, role_parts, attr_parts}
use Rattle.fact_index.proofs.IndexLaws.{facts_sorted, from_map, from_order, into_order}
use Rattle.fact_delta.proofs.OrderedLaws.{length_insert}

-- the list without its first element
once_tail : {X : Type 0} (x : X) (xs : List X) → AreOnce (x ∷ xs) → AreOnce xs
once_tail x xs o i j y e f = let same : suc i ≡ suc j = o (suc i) (suc j) y e f in omega (arith, same)

once_head : {X : Type 0} (x : X) (xs : List X) → AreOnce (x ∷ xs) → ¬ Contains xs x
once_head x xs o (k, l, e) = let same : 0 ≡ suc k = o 0 (suc k) x refl (slice_get-get_or xs k x l ∙ ap Some e) in omega (arith, same)

module _ (n : Numbered) (once : AreOnce n.names × AreOnce n.values) where
  same_by : (s : Shape) (t : Term) (i j : ℕ) (m : Link) → numbers.AreWithin n s i j → IsWithin n m → fact_by n s t i j ≡ fact_at n m → link_with s t i j ≡ m
  same_by shape.Class t i j m w v e =
      let (s, u, g, z) = (class_parts n t _ m).0 (v, sym e) in
      let (s', u', g', z') = (class_parts n t _ (link_with shape.Class t i j)).0 (w, refl) in
      let f : i ≡ m.from = once.0 i m.from _ g' g in
      let o : j ≡ m.to = z' ∙ sym z in
      λ q. link_with (sym s q) (sym u q) (f q) (o q)
  same_by shape.Role t i j m w v e =
      let (s, u, g, z) = (role_parts n t _ _ m).0 (v, sym e) in
      let (s', u', g', z') = (role_parts n t _ _ (link_with shape.Role t i j)).0 (w, refl) in
      let f : i ≡ m.from = once.0 i m.from _ g' g in
      let o : j ≡ m.to = once.0 j m.to _ z' z in
      λ q. link_with (sym s q) (sym u q) (f q) (o q)
  same_by shape.Attr t i j m w v e =
      let (s, u, g, z) = (attr_parts n t _ _ m).0 (v, sym e) in
      let (s', u', g', z') = (attr_parts n t _ _ (link_with shape.Attr t i j)).0 (w, refl) in
      let f : i ≡ m.from = once.0 i m.from _ g' g in
      let o : j ≡ m.to = once.1 j m.to _ z' z in
      λ q. link_with (sym s q) (sym u q) (f q) (o q)

  same_fact : (l m : Link) → IsWithin n l → IsWithin n m → fact_at n l ≡ fact_at n m → l ≡ m
  same_fact l m w v e = same_by l.shape l.term l.from l.to m w v e

  pub as_many : (links : List Link) → AreOnce links → AreWithin n links → length (facts_of n links) ≡ length links
  as_many [] o w = refl
  as_many (l ∷ links) o w =
      let fresh = λ (m : Contains (in_order (map (fact_at n) links)) (fact_at n l)).
      let (k, c, e) = from_map (fact_at n) links (fact_at n l) (from_order (map (fact_at n) links) (fact_at n l) m) in
      once_head l links o (subst (Contains links) (same_fact k l (w k (there l links k c)) (w l (here l links)) e) c) in
      length_insert fact_cmp fact_total exact_facts (in_order (map (fact_at n) links)) (fact_at n l) fresh ∙ ap suc (as_many links (once_tail l links o) (λ k c. w k (there l links k c)))

-- the facts of all links, in order
pub all_held : (n : Numbered) (links : List Link) (found ordered : List Fact) → found ≡ map (fact_at n) links → AreSorted ordered → ((f : Fact) → Contains ordered f ↔ Contains found f) → ordered ≡ facts_of n links
all_held n links found ordered e s o = same_sorted fact_cmp fact_total exact_facts ordered (facts_of n links) s (facts_sorted n links)
    (λ f m. into_order (map (fact_at n) links) f (subst (λ (us : List Fact). Contains us f) e ((o f).0 m)))
    (λ f m. (o f).1 (subst (λ (us : List Fact). Contains us f) (sym e) (from_order (map (fact_at n) links) f m)))

-- one link more
pub map_next : (h : Link → Fact) (links : List Link) (i : ℕ) (d : Link) (facts new : List Fact) (g : Fact) → i < length links → facts ≡ map h (take i links) → g ≡ h (get_or links i d) → new ≡ facts ++ g ∷ [] → new ≡ map h (take (i + 1) links)
map_next h links i d facts new g l e is more =
    more ∙ (λ q. e q ++ is q ∷ []) ∙ sym (map-append h (take i links) (get_or links i d ∷ [])) ∙ ap (map h) (sym (take_more links i d l))
