-- The link that stands for a fact.
use Rattle.std.proofs.Common.{◌≡◌, ℕ, ◌<◌, List, [], length, get_or, refl, sym, ◌∙◌, ap, subst}
use Rattle.std.specs.Prelude.{◌↔◌, Some, slice_get}
use Rattle.std.proofs.lemmas.Option.{slice_get_within, get_or_from_slice_get, slice_get-get_or}
use Rattle.dl_base.specs.declared.names.Value.{Value}
use Rattle.dl_base.specs.declared.statements.Fact.TheVariants as fact
use Rattle.dl_base.specs.declared.terms.Term.{Term}
use Rattle.fact_index.specs.Numbers.{Numbered, AreOnce, IsLinkOf, AreWithin, fact_by, no_value}
use Rattle.fact_index.specs.declared.places.Link.{Link}
use Rattle.fact_index.specs.declared.places.Shape.{Shape}
use Rattle.fact_index.specs.declared.places.Shape.TheVariants as shape

-- the element stands at n and nowhere else
abbrev pub IsNumberOf : {X : Type 0} → List X → X → ℕ → Type 0
IsNumberOf xs x n = (i : ℕ) → (slice_get xs i ≡ Some x) ↔ (n ≡ i)

module _ {X : Type 0} (xs : List X) (x : X) (n : ℕ) where
  pub number_found : ((i : ℕ) → (slice_get xs i ≡ Some x) ↔ (Some n ≡ Some i)) → IsNumberOf xs x n
  number_found h i = ((λ g. let e = (h i).0 g in cc), λ e. (h i).1 (ap Some e))

  pub number_once : AreOnce xs → slice_get xs n ≡ Some x → IsNumberOf xs x n
  number_once once g i = ((λ h. once n i x g h), λ e. subst (λ (j : ℕ). slice_get xs j ≡ Some x) e g)

-- an element by its place
module _ {X : Type 0} (xs : List X) (i : ℕ) (d x : X) where
  read_at : i < length xs → get_or xs i d ≡ x → slice_get xs i ≡ Some x
  read_at l e = slice_get-get_or xs i d l ∙ ap Some e

  at_read : slice_get xs i ≡ Some x → (i < length xs) × (get_or xs i d ≡ x)
  at_read g = (slice_get_within xs i x g, get_or_from_slice_get xs i x d g)

abbrev pub link_with : Shape → Term → ℕ → ℕ → Link
link_with s t a b = record { shape = s; term = t; from = a; to = b }

module _ (n : Numbered) where
  class_by : (s : Shape) (t u : Term) (i j : ℕ) (a : List ℕ) → (AreWithin n s i j × (fact_by n s t i j ≡ fact.Class u a)) ↔ ((s ≡ shape.Class) × (t ≡ u) × (slice_get n.names i ≡ Some a) × (j ≡ 0))
  class_by shape.Class t u i j a = (
    (λ (w, e). let f : get_or n.names i [] ≡ a = cc in (refl, cc, read_at n.names i [] a w.0 f, w.1)),
    λ (k, e, g, z). let r = at_read n.names i [] a g in ((r.0, z), λ q. fact.Class (e q) (r.1 q)),
  )
  class_by shape.Role t u i j a = ((λ (w, e). cc), λ h. let e = h.0 in cc)
  class_by shape.Attr t u i j a = ((λ (w, e). cc), λ h. let e = h.0 in cc)

  role_by : (s : Shape) (t u : Term) (i j : ℕ) (a b : List ℕ) → (AreWithin n s i j × (fact_by n s t i j ≡ fact.Role u a b)) ↔ ((s ≡ shape.Role) × (t ≡ u) × (slice_get n.names i ≡ Some a) × (slice_get n.names j ≡ Some b))
  role_by shape.Role t u i j a b = (
    (λ (w, e). let f : get_or n.names i [] ≡ a = cc in let g : get_or n.names j [] ≡ b = cc in (refl, cc, read_at n.names i [] a w.0 f, read_at n.names j [] b w.1 g)),
    λ (k, e, g, h). let r = at_read n.names i [] a g in let s = at_read n.names j [] b h in ((r.0, s.0), λ q. fact.Role (e q) (r.1 q) (s.1 q)),
  )
  role_by shape.Class t u i j a b = ((λ (w, e). cc), λ h. let e = h.0 in cc)
  role_by shape.Attr t u i j a b = ((λ (w, e). cc), λ h. let e = h.0 in cc)

  attr_by : (s : Shape) (t u : Term) (i j : ℕ) (a : List ℕ) (v : Value) → (AreWithin n s i j × (fact_by n s t i j ≡ fact.Attr u a v)) ↔ ((s ≡ shape.Attr) × (t ≡ u) × (slice_get n.names i ≡ Some a) × (slice_get n.values j ≡ Some v))
  attr_by shape.Attr t u i j a v = (
    (λ (w, e). let f : get_or n.names i [] ≡ a = cc in let g : get_or n.values j no_value ≡ v = cc in (refl, cc, read_at n.names i [] a w.0 f, read_at n.values j no_value v w.1 g)),
    λ (k, e, g, h). let r = at_read n.names i [] a g in let s = at_read n.values j no_value v h in ((r.0, s.0), λ q. fact.Attr (e q) (r.1 q) (s.1 q)),
  )
  attr_by shape.Class t u i j a v = ((λ (w, e). cc), λ h. let e = h.0 in cc)
  attr_by shape.Role t u i j a v = ((λ (w, e). cc), λ h. let e = h.0 in cc)

  pub class_parts : (t : Term) (a : List ℕ) (l : Link) → IsLinkOf n (fact.Class t a) l ↔ ((l.shape ≡ shape.Class) × (l.term ≡ t) × (slice_get n.names l.from ≡ Some a) × (l.to ≡ 0))
  class_parts t a l = class_by l.shape l.term t l.from l.to a

  pub role_parts : (t : Term) (a b : List ℕ) (l : Link) → IsLinkOf n (fact.Role t a b) l ↔ ((l.shape ≡ shape.Role) × (l.term ≡ t) × (slice_get n.names l.from ≡ Some a) × (slice_get n.names l.to ≡ Some b))
  role_parts t a b l = role_by l.shape l.term t l.from l.to a b

  pub attr_parts : (t : Term) (a : List ℕ) (v : Value) (l : Link) → IsLinkOf n (fact.Attr t a v) l ↔ ((l.shape ≡ shape.Attr) × (l.term ≡ t) × (slice_get n.names l.from ≡ Some a) × (slice_get n.values l.to ≡ Some v))
  attr_parts t a v l = attr_by l.shape l.term t l.from l.to a v

  pub class_linked : (t : Term) (a : List ℕ) (i : ℕ) → IsNumberOf n.names a i → (l : Link) → IsLinkOf n (fact.Class t a) l ↔ (l ≡ link_with shape.Class t i 0)
  class_linked t a i h l = (
    (λ k. let (s, e, g, z) = (class_parts t a l).0 k in let f = sym ((h l.from).0 g) in λ q. link_with (s q) (e q) (f q) (z q)),
    λ e. (class_parts t a l).1 (ap (λ (k : Link). k.shape) e, ap (λ (k : Link). k.term) e, (h l.from).1 (sym (ap (λ (k : Link). k.from) e)), ap (λ (k : Link). k.to) e),
  )

  pub role_linked : (t : Term) (a b : List ℕ) (i j : ℕ) → IsNumberOf n.names a i → IsNumberOf n.names b j → (l : Link) → IsLinkOf n (fact.Role t a b) l ↔ (l ≡ link_with shape.Role t i j)
  role_linked t a b i j h k l = (
    (λ m. let (s, e, g, z) = (role_parts t a b l).0 m in let f = sym ((h l.from).0 g) in let o = sym ((k l.to).0 z) in λ q. link_with (s q) (e q) (f q) (o q)),
    λ e. (role_parts t a b l).1 (ap (λ (k : Link). k.shape) e, ap (λ (k : Link). k.term) e, (h l.from).1 (sym (ap (λ (k : Link). k.from) e)), (k l.to).1 (sym (ap (λ (k : Link). k.to) e))),
  )

  pub attr_linked : (t : Term) (a : List ℕ) (v : Value) (i j : ℕ) → IsNumberOf n.names a i → IsNumberOf n.values v j → (l : Link) → IsLinkOf n (fact.Attr t a v) l ↔ (l ≡ link_with shape.Attr t i j)
  attr_linked t a v i j h k l = (
    (λ m. let (s, e, g, z) = (attr_parts t a v l).0 m in let f = sym ((h l.from).0 g) in let o = sym ((k l.to).0 z) in λ q. link_with (s q) (e q) (f q) (o q)),
    λ e. (attr_parts t a v l).1 (ap (λ (k : Link). k.shape) e, ap (λ (k : Link). k.term) e, (h l.from).1 (sym (ap (λ (k : Link). k.from) e)), (k l.to).1 (sym (ap (λ (k : Link). k.to) e))),
  )

pub in_some : (P : Link → Type 0) (k : Link) → ((l : Link) → P l ↔ (l ≡ k)) → (l : Link) → P l ↔ (Some k ≡ Some l)
in_some P k h l = ((λ p. ap Some (sym ((h l).0 p))), λ e. (h l).1 cc)
