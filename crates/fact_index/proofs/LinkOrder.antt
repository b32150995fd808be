-- The order of links is total and tells any two apart; the links of a run stand together in it.
use Rattle.std.proofs.Common.{◌≡◌, ℕ, zero, suc, true, refl, sym, ap, subst, arith}
use Rattle.std.specs.Prelude.{Option, None, Some}
use Rattle.std.specs.Cmp.{IsTotalOrder, nat_cmp_is}
use Rattle.std.specs.Ordering.{ordering_then, ordering_reverse, is_le, nat_cmp}
use Rattle.std.specs.declared.cmp.Ordering.{Ordering}
use Rattle.std.specs.declared.cmp.Ordering.TheVariants.{Less, Equal, Greater}
use Rattle.std.proofs.lemmas.Bool.{false≢true}
use Rattle.std.proofs.lemmas.Cmp.{tied_itself, nat_cmp_total}
use Rattle.std.proofs.lemmas.Map.Lookups.{exact_unsigned}
use Rattle.dl_base.specs.FactOrder.{term_cmp}
use Rattle.dl_base.specs.declared.terms.Term.{Term}
use Rattle.fact_index.specs.Links.{IsIn, IsGiven, least_of, given_or_least}
use Rattle.fact_index.specs.declared.places.Link.{Link}
use Rattle.fact_index.specs.declared.places.Run.{Run}
use Rattle.fact_index.specs.declared.places.Shape.{Shape}
use Rattle.fact_index.specs.declared.places.Shape.TheVariants as shape
use Rattle.fact_index.specs.contracts.places.LinkOrd.TheImpl.Laws as law
use Rattle.fact_index.specs.contracts.places.LinkOrd.TheImpl as ord
use Rattle.fact_index.specs.contracts.places.ShapeOrd.TheImpl.Laws as shape_law
use Rattle.fact_index.specs.contracts.places.ShapeOrd.TheImpl as shape_ord

-- the derived `cmp` of links
abbrev pub link_cmp : Link → Link → Ordering
link_cmp = ord.ghosts.cmp

abbrev shape_cmp : Shape → Shape → Ordering
shape_cmp = shape_ord.ghosts.cmp

pub link_total : IsTotalOrder link_cmp
link_total = law.total-law

by_parts : (l m : Link) → link_cmp l m ≡ ordering_then (shape_cmp l.shape m.shape) (ordering_then (term_cmp l.term m.term) (ordering_then (nat_cmp l.from m.from) (nat_cmp l.to m.to)))
by_parts l m = refl

both : (o p : Ordering) → ordering_then o p ≡ Equal → (o ≡ Equal) × (p ≡ Equal)
both Less p h = cc
both Equal p h = (refl, h)
both Greater p h = cc

exact_shapes : (s t : Shape) → shape_cmp s t ≡ Equal → s ≡ t
exact_shapes shape.Class shape.Class h = refl
exact_shapes shape.Role shape.Role h = refl
exact_shapes shape.Attr shape.Attr h = refl
exact_shapes shape.Class shape.Role h = cc
exact_shapes shape.Class shape.Attr h = cc
exact_shapes shape.Role shape.Class h = cc
exact_shapes shape.Role shape.Attr h = cc
exact_shapes shape.Attr shape.Class h = cc
exact_shapes shape.Attr shape.Role h = cc

exact_terms : (p q : Term) → term_cmp p q ≡ Equal → p ≡ q
exact_terms p q h = ap (λ (n : ℕ). record { 0 = n }) (exact_unsigned p.0 q.0 h)

pub link_exact : (l m : Link) → link_cmp l m ≡ Equal → l ≡ m
link_exact l m h =
    let a = both _ _ h in
    let b = both _ _ a.1 in
    let c = both _ _ b.1 in
    let s : l.shape ≡ m.shape = exact_shapes _ _ a.0 in
    let t : l.term ≡ m.term = exact_terms _ _ b.0 in
    let f : l.from ≡ m.from = exact_unsigned _ _ c.0 in
    let g : l.to ≡ m.to = exact_unsigned _ _ c.1 in
    λ i. record { shape = s i; term = t i; from = f i; to = g i }

shape_total : IsTotalOrder shape_cmp
shape_total = shape_law.total-law

term_total : IsTotalOrder term_cmp
term_total = record {
  antisymm = λ p q. nat_cmp_total.antisymm p.0 q.0;
  trans = λ p q r. nat_cmp_total.trans p.0 q.0 r.0;
  congr = λ p q r. nat_cmp_total.congr p.0 q.0 r.0;
}

-- what isn't before x, and not after it either, is x
module _ {X : Type 0} (c : X → X → Ordering) (total : IsTotalOrder c) (exact : (x y : X) → c x y ≡ Equal → x ≡ y) where
  squeeze_by : (x y : X) (o u v : Ordering) → c x y ≡ o → is_le (ordering_then o u) ≡ true → is_le (ordering_then (ordering_reverse o) v) ≡ true → (x ≡ y) × (is_le u ≡ true) × (is_le v ≡ true)
  squeeze_by x y Less u v e f g = absurd (false≢true g)
  squeeze_by x y Equal u v e f g = (exact x y e, f, g)
  squeeze_by x y Greater u v e f g = absurd (false≢true f)

  squeeze : (x y z : X) (u v : Ordering) → x ≡ z → is_le (ordering_then (c x y) u) ≡ true → is_le (ordering_then (c y z) v) ≡ true → (x ≡ y) × (is_le u ≡ true) × (is_le v ≡ true)
  squeeze x y z u v e f g = squeeze_by x y (c x y) u v refl f (subst (λ (o : Ordering). is_le (ordering_then o v) ≡ true) (total.antisymm y x) (subst (λ (w : X). is_le (ordering_then (c y w) v) ≡ true) (sym e) g))

  tied : (x z : X) (u : Ordering) → x ≡ z → is_le u ≡ true → is_le (ordering_then (c x z) u) ≡ true
  tied x z u e h = subst (λ (w : X). is_le (ordering_then (c x w) u) ≡ true) e (subst (λ (o : Ordering). is_le (ordering_then o u) ≡ true) (sym (tied_itself total x)) h)

zero_least : (b : ℕ) → is_le (nat_cmp 0 b) ≡ true
zero_least zero = refl
zero_least (suc b) = ap is_le (sym (nat_cmp_is 0 (suc b) Less (omega arith)))

zero_first : (a : ℕ) (u : Ordering) → is_le u ≡ true → is_le (ordering_then (nat_cmp 0 a) u) ≡ true
zero_first zero u h = h
zero_first (suc a) u h = ap (λ (o : Ordering). is_le (ordering_then o u)) (sym (nat_cmp_is 0 (suc a) Less (omega arith)))

given_first : (g : Option ℕ) (a : ℕ) (u : Ordering) → IsGiven g a → is_le u ≡ true → is_le (ordering_then (nat_cmp (given_or_least g) a) u) ≡ true
given_first None a u e h = zero_first a u h
given_first (Some m) a u e h = tied nat_cmp nat_cmp_total exact_unsigned m a u e h

given_between : (g : Option ℕ) (a b : ℕ) (u v : Ordering) → is_le (ordering_then (nat_cmp (given_or_least g) a) u) ≡ true → is_le (ordering_then (nat_cmp a b) v) ≡ true → IsGiven g b → IsGiven g a
given_between None a b u v f h e = tt
given_between (Some m) a b u v f h e = (squeeze nat_cmp nat_cmp_total exact_unsigned m a b u v e f h).0

-- the links of a run aren't before its least
pub not_before : (r : Run) (l : Link) → IsIn r l → is_le (link_cmp (least_of r) l) ≡ true
not_before r l h =
    tied shape_cmp shape_total exact_shapes r.shape l.shape _ h.0
    (tied term_cmp term_total exact_terms r.term l.term _ h.1 (given_first r.from l.from _ h.2 (zero_least l.to)))

-- what comes before a link of the run, and not before the least, is in the run
pub between : (r : Run) (x y : Link) → is_le (link_cmp (least_of r) x) ≡ true → link_cmp x y ≡ Less → IsIn r y → IsIn r x
between r x y f g h =
    let a = squeeze shape_cmp shape_total exact_shapes r.shape x.shape y.shape _ _ h.0 f (ap is_le g) in
    let b = squeeze term_cmp term_total exact_terms r.term x.term y.term _ _ h.1 a.1 a.2 in
    (a.0, b.0, given_between r.from x.from y.from _ _ b.1 b.2 h.2)
