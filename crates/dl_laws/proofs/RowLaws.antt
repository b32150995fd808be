-- Derivations and clashes of facts by those of rows.
use Rattle.std.proofs.Common.{◌≡◌, List, [], ◌∷◌, refl, subst, ⊎_elim}
use Rattle.std.specs.Prelude.{Contains}
use Rattle.dl_base.specs.declared.axioms.Axiom.{Axiom}
use Rattle.dl_base.specs.declared.statements.Fact.{Fact}
use Rattle.dl_base.specs.declared.statements.Fact.TheVariants as fact
use Rattle.dl_base.specs.declared.terms.RoleSide.TheVariants.{Direct, Inverse}
use Rattle.dl_base.specs.declared.terms.Basic.TheVariants as basic
use Rattle.dl_base.specs.Derivation as d
use Rattle.dl_base.specs.Derivation.{Row, Gives, Carries, Derived}
use Rattle.dl_base.specs.Clash as c
use Rattle.dl_base.specs.Clash.{HasClash}
use Rattle.dl_base.proofs.Members.{here, there, nowhere, cons_cases}
use Rattle.dl_laws.specs.Rows as rows
use Rattle.dl_laws.specs.Rows.{Leads, Contradict, Oppose, Start, OfConcept, OfRole, OfAttr, row, starts}

gives_start : (f : Fact) (r : Row) → Gives f r → (s : Start) × Contains (starts f) s × (row s ≡ r)
gives_start f r (d.class k a) = (OfConcept a (basic.Class k), here (OfConcept a (basic.Class k)) [], refl)
gives_start f r (d.role p a b) = (OfRole a b (Direct p), here (OfRole a b (Direct p)) (OfRole b a (Inverse p) ∷ []), refl)
gives_start f r (d.role_back p a b) = (OfRole b a (Inverse p), there (OfRole a b (Direct p)) (OfRole b a (Inverse p) ∷ []) (OfRole b a (Inverse p)) (here (OfRole b a (Inverse p)) []), refl)
gives_start f r (d.attr u a v) = (OfAttr a v u, here (OfAttr a v u) [], refl)

single : (f : Fact) (x s : Start) → Gives f (row x) → Contains (x ∷ []) s → Gives f (row s)
single f x s g m = ⊎_elim (λ e. subst (λ z. Gives f (row z)) e g) (λ n. absurd (nowhere s n)) (cons_cases x [] s m)

start_gives : (f : Fact) (s : Start) → Contains (starts f) s → Gives f (row s)
start_gives (fact.Class k a) s m = single (fact.Class k a) (OfConcept a (basic.Class k)) s (d.class k a) m
start_gives (fact.Role p a b) s m = ⊎_elim (λ e. subst (λ z. Gives (fact.Role p a b) (row z)) e (d.role p a b)) (λ n. single (fact.Role p a b) (OfRole b a (Inverse p)) s (d.role_back p a b) n) (cons_cases (OfRole a b (Direct p)) (OfRole b a (Inverse p) ∷ []) s m)
start_gives (fact.Attr u a v) s m = single (fact.Attr u a v) (OfAttr a v u) s (d.attr u a v) m

module _ (axioms : List Axiom) where
  pub leads_trans : (q r s : Row) → Leads axioms q r → Leads axioms r s → Leads axioms q s
  leads_trans q r s h (rows.itself z) = h
  leads_trans q r s h (rows.onward x y z k m) = rows.onward q y s (leads_trans q r y h k) m

  pub derived_on : (facts : List Fact) (q r : Row) → Derived axioms facts q → Leads axioms q r → Derived axioms facts r
  derived_on facts q r h (rows.itself z) = h
  derived_on facts q r h (rows.onward x y z k m) = d.carried y r (derived_on facts q y h k) m

  abbrev pub Comes : List Fact → Row → Type 0
  Comes facts r = (f : Fact) × (s : Start) × Contains facts f × Contains (starts f) s × Leads axioms (row s) r

  -- each row is led to by a start row of one of the facts
  pub comes : (facts : List Fact) (r : Row) → Derived axioms facts r → Comes facts r
  comes facts r (d.given f z m g) = let s = gives_start f r g in (f, s.0, m, s.1, subst (Leads axioms (row s.0)) s.2 (rows.itself (row s.0)))
  comes facts r (d.carried q z h k) = let p = comes facts q h in (p.0, p.1, p.2, p.3, rows.onward (row p.1) q r p.4 k)

  pub came : (facts : List Fact) (r : Row) → Comes facts r → Derived axioms facts r
  came facts r p = derived_on facts (row p.1) r (d.given p.0 (row p.1) p.2 (start_gives p.0 p.1 p.3)) p.4

  abbrev pub ClashOfRows : List Fact → Type 0
  ClashOfRows facts = (q : Row) × (r : Row) × Contradict axioms q r × Derived axioms facts q × Derived axioms facts r

  pub clash_rows : (facts : List Fact) → HasClash axioms facts → ClashOfRows facts
  clash_rows fs (c.concepts x b e m h i) = (_, _, rows.concepts x b e m, h, i)
  clash_rows fs (c.roles a b q r m h i) = (_, _, rows.roles a b q r m, h, i)
  clash_rows fs (c.attrs a v u w m h i) = (_, _, rows.attrs a v u w m, h, i)
  clash_rows fs (c.witness_roles q r s m h i j) = (_, _, rows.witness_roles q r s m i j, h, h)
  clash_rows fs (c.witness_in_roles q r s e m h i j) = (_, _, rows.witness_in_roles q r s e m i j, h, h)
  clash_rows fs (c.value_attrs u v w m h i j) = (_, _, rows.value_attrs u v w m i j, h, h)
  clash_rows fs (c.value_ranges u v w d e m n ne h i j) = (_, _, rows.value_ranges u v w d e m n ne i j, h, h)
  clash_rows fs (c.partners a b e q m ne h i) = (_, _, rows.partners a b e q m ne, h, i)
  clash_rows fs (c.values a v w u m ne h i) = (_, _, rows.values a v w u m ne, h, i)
  clash_rows fs (c.range a v u d m ne h) = (_, _, rows.range a v u d m ne, h, h)

  rows_clash_of : (fs : List Fact) (q r : Row) → Contradict axioms q r → Derived axioms fs q → Derived axioms fs r → HasClash axioms fs
  rows_clash_of fs q r (rows.concepts x b e m) h i = c.concepts x b e m h i
  rows_clash_of fs q r (rows.roles a b s t m) h i = c.roles a b s t m h i
  rows_clash_of fs q r (rows.attrs a v u w m) h i = c.attrs a v u w m h i
  rows_clash_of fs q r (rows.witness_roles s t u m i j) h k = c.witness_roles s t u m h i j
  rows_clash_of fs q r (rows.witness_in_roles s t u e m i j) h k = c.witness_in_roles s t u e m h i j
  rows_clash_of fs q r (rows.value_attrs u v w m i j) h k = c.value_attrs u v w m h i j
  rows_clash_of fs q r (rows.value_ranges u v w d e m n ne i j) h k = c.value_ranges u v w d e m n ne h i j
  rows_clash_of fs q r (rows.partners a b e s m ne) h i = c.partners a b e s m ne h i
  rows_clash_of fs q r (rows.values a v w u m ne) h i = c.values a v w u m ne h i
  rows_clash_of fs q r (rows.range a v u d m ne) h i = c.range a v u d m ne h

  pub rows_clash : (facts : List Fact) → ClashOfRows facts → HasClash axioms facts
  rows_clash facts p = rows_clash_of facts p.0 p.1 p.2 p.3 p.4

  -- two of the facts have start rows that oppose one another
  abbrev pub HaveOpposed : List Fact → Type 0
  HaveOpposed facts = (f : Fact) × (g : Fact) × (s : Start) × (t : Start) × Contains facts f × Contains facts g × Contains (starts f) s × Contains (starts g) t × Oppose axioms (row s) (row t)

  pub clash_opposed : (facts : List Fact) → HasClash axioms facts → HaveOpposed facts
  clash_opposed facts h =
      let p = clash_rows facts h in
      let x = comes facts p.0 p.3 in
      let y = comes facts p.1 p.4 in
      (x.0, y.0, x.1, y.1, x.2, y.2, x.3, y.3, (p.0, p.1, p.2, x.4, y.4))

  pub opposed_clash : (facts : List Fact) → HaveOpposed facts → HasClash axioms facts
  opposed_clash facts (f, g, s, t, m, n, i, j, (q, r, k, h, l)) = rows_clash facts (q, r, k, came facts q (f, s, m, i, h), came facts r (g, t, n, j, l))
