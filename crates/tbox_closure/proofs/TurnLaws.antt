-- Loops that mark rows.
use Rattle.std.proofs.Common.{◌≡◌, ℕ, ◌<◌, ◌+◌, ◌*◌, List, [], ◌∷◌, ◌++◌, length, take, get_or, sym, ◌∙◌, ap, subst, inl, inr, ◌⊎◌, ⊎_elim, arith}
use Rattle.std.specs.Prelude.{Contains, ◌↔◌}
use Rattle.std.specs.List.{flat_map}
use Rattle.std.proofs.lemmas.Bool.{cases_lt}
use Rattle.std.proofs.lemmas.List.Elements.{Contains-append_left, Contains-append_right, Contains-append_cases, Contains-get_or}
use Rattle.std.proofs.lemmas.List.{append-nil}
use Rattle.dl_laws.proofs.EdgeLaws.{in_flat_map}
use Rattle.dl_base.proofs.Members.{here, alone, nowhere}
use Rattle.dl_laws.specs.Paths.{Path}
use Rattle.tbox_closure.specs.Marks.{IsMarked, AreWide, row}
use Rattle.tbox_closure.specs.Graphs.{AreBelow, AreAlike, Gathers}
use Rattle.tbox_closure.specs.Disjointness.{IsPair, AreDeclared, IsDisjoint}
use Rattle.tbox_closure.proofs.RowLaws.{past_unmarked, path_outside}
use Rattle.tbox_closure.proofs.LoopLaws.{flat_more}

pub wide_alike : (n : ℕ) (rows : List (List ℕ)) → AreWide n rows → AreAlike rows
wide_alike n rows wide i j l m = wide i l ∙ sym (wide j m)

-- there is room for the mark of a node
pub room : (n i k : ℕ) (rows : List (List ℕ)) → AreWide n rows → i < length rows → k < n → k < 64 * length (row rows i)
room n i k rows wide l h = let w = wide i l in omega (arith, w, h)

-- what one step of `turn` marks
abbrev pub Turned : ℕ → List ℕ → ℕ → List (List ℕ) → List (List ℕ) → Type 0
Turned node marks n old new = (i k : ℕ) → IsMarked (row new k) i ↔ (IsMarked (row old k) i ⊎ ((i ≡ node) × (k < n) × IsMarked marks k))

pub turned_none : (node : ℕ) (marks : List ℕ) (old : List (List ℕ)) → Turned node marks 0 old old
turned_none node marks old i k = (λ h. inl h, λ s. ⊎_elim (λ h. h) (λ (e, l, h). absurd (omega (arith, l))) s)

pub turned_more : (node at : ℕ) (marks : List ℕ) (old mid new : List (List ℕ)) → Turned node marks at old mid → IsMarked marks at
    → ((i k : ℕ) → IsMarked (row new i) k ↔ (IsMarked (row mid i) k ⊎ ((i ≡ at) × (k ≡ node)))) → Turned node marks (at + 1) old new
turned_more node at marks old mid new before marked step i k = (
  λ h. ⊎_elim
      (λ x. ⊎_elim (λ y. inl y) (λ (e, l, m). inr (e, omega (arith, l), m)) ((before i k).0 x))
      (λ (e, f). inr (f, omega (arith, e), subst (IsMarked marks) (sym e) marked))
      ((step k i).0 h),
  λ s. (step k i).1 (⊎_elim
      (λ x. inl ((before i k).1 (inl x)))
      (λ (e, l, m). ⊎_elim (λ b. inl ((before i k).1 (inr (e, b, m)))) (λ b. inr (omega (arith, l, b), e)) (cases_lt k at))
      s),
)

pub turned_less : (node at : ℕ) (marks : List ℕ) (old mid : List (List ℕ)) → Turned node marks at old mid → ¬ IsMarked marks at → Turned node marks (at + 1) old mid
turned_less node at marks old mid before none i k = (
  λ h. ⊎_elim (λ y. inl y) (λ (e, l, m). inr (e, omega (arith, l), m)) ((before i k).0 h),
  λ s. (before i k).1 (⊎_elim
      (λ x. inl x)
      (λ (e, l, m). ⊎_elim (λ b. inr (e, b, m)) (λ b. let same : k ≡ at = omega (arith, l, b) in absurd (none (subst (IsMarked marks) same m))) (cases_lt k at))
      s),
)

-- the rows of the nodes below a number stand as columns
abbrev pub TurnedBelow : List (List ℕ) → ℕ → List (List ℕ) → Type 0
TurnedBelow rows node new = (i k : ℕ) → IsMarked (row new k) i ↔ ((i < node) × (k < length rows) × IsMarked (row rows i) k)

pub below_none : (rows new : List (List ℕ)) → ((i k : ℕ) → ¬ IsMarked (row new i) k) → TurnedBelow rows 0 new
below_none rows new none i k = (λ h. absurd (none k i h), λ (l, m, h). absurd (omega (arith, l)))

pub below_more : (rows : List (List ℕ)) (node : ℕ) (old new : List (List ℕ)) → TurnedBelow rows node old → Turned node (row rows node) (length rows) old new → TurnedBelow rows (node + 1) new
below_more rows node old new before step i k = (
  λ h. ⊎_elim
      (λ x. let p = (before i k).0 x in (omega (arith, p.0), p.1, p.2))
      (λ (e, l, m). (omega (arith, e), l, subst (λ (z : ℕ). IsMarked (row rows z) k) (sym e) m))
      ((step i k).0 h),
  λ (l, m, h). (step i k).1 (⊎_elim
      (λ b. inl ((before i k).1 (b, m, h)))
      (λ b. let same : i ≡ node = omega (arith, l, b) in inr (same, m, subst (λ (z : ℕ). IsMarked (row rows z) k) same h))
      (cases_lt i node)),
)

pub below_all : (rows : List (List ℕ)) (node : ℕ) (new : List (List ℕ)) → node ≡ length rows → TurnedBelow rows node new
    → (i k : ℕ) → IsMarked (row new k) i ↔ ((k < length rows) × IsMarked (row rows i) k)
below_all rows node new all before i k = (
  λ h. let p = (before i k).0 h in (p.1, p.2),
  λ (l, h). ⊎_elim
      (λ b. (before i k).1 (omega (arith, b, all), l, h))
      (λ b. absurd (past_unmarked rows i k b h))
      (cases_lt i (length rows)),
)

-- ---- declared pairs

abbrev pub Marked : ℕ → ℕ → List (List ℕ) → List (List ℕ) → Type 0
Marked at node old new = (i k : ℕ) → IsMarked (row new i) k ↔ (IsMarked (row old i) k ⊎ ((i ≡ at) × (k ≡ node)))

abbrev pub pair : ℕ → ℕ → ℕ × ℕ
pair d e = (d, e)

one_pair : (it : ℕ × ℕ) (x y : ℕ) → Contains (it ∷ []) (x, y) → (x ≡ it.0) × (y ≡ it.1)
one_pair it x y m = let h : it ≡ pair x y = alone it (pair x y) m in (sym (ap (λ (z : ℕ × ℕ). z.0) h), sym (ap (λ (z : ℕ × ℕ). z.1) h))

is_pair : (pairs : List (ℕ × ℕ)) (it : ℕ × ℕ) (x y : ℕ) → x ≡ it.0 → y ≡ it.1 → Contains (pairs ++ it ∷ []) (x, y)
is_pair pairs it x y p q = Contains-append_right pairs (it ∷ []) (pair x y)
    (subst (λ (z : ℕ). Contains (it ∷ []) (pair x z)) (sym q) (subst (λ (z : ℕ). Contains (it ∷ []) (pair z it.1)) (sym p) (here it [])))

pub pair_more : (pairs : List (ℕ × ℕ)) (it : ℕ × ℕ) (old mid new : List (List ℕ)) → AreDeclared pairs old → Marked it.0 it.1 old mid → Marked it.1 it.0 mid new → AreDeclared (pairs ++ it ∷ []) new
pair_more pairs it old mid new before one two x y = (
  λ h. ⊎_elim
      (λ m. ⊎_elim
      (λ o. ⊎_elim (λ c. inl (left x y c)) (λ c. inr (left y x c)) ((before x y).0 o))
      (λ (p, q). inl (is_pair pairs it x y p q))
      ((one x y).0 m))
      (λ (p, q). inr (is_pair pairs it y x q p))
      ((two x y).0 h),
  λ s. ⊎_elim
      (λ c. ⊎_elim
      (λ m. (two x y).1 (inl ((one x y).1 (inl ((before x y).1 (inl m))))))
      (λ m. (two x y).1 (inl ((one x y).1 (inr (one_pair it x y m)))))
      (Contains-append_cases pairs (it ∷ []) (pair x y) c))
      (λ c. ⊎_elim
      (λ m. (two x y).1 (inl ((one x y).1 (inl ((before x y).1 (inr m))))))
      (λ m. let p = one_pair it y x m in (two x y).1 (inr (p.1, p.0)))
      (Contains-append_cases pairs (it ∷ []) (pair y x) c))
      s,
)
  where
    left : (v w : ℕ) → Contains pairs (v, w) → Contains (pairs ++ it ∷ []) (v, w)
    left v w m = Contains-append_left pairs (it ∷ []) (pair v w) m

-- what is gathered, stood as columns and gathered again
pub disjoint_is : (edges pairs : List (ℕ × ℕ)) (n : ℕ) (one turned last : List (List ℕ)) → ((i j : ℕ) → Path edges i j → j < n → i < n) → ((d e : ℕ) → IsPair pairs d e → (d < n) × (e < n))
    → ((i k : ℕ) → IsMarked (row one i) k ↔ ((d : ℕ) × Path edges i d × IsPair pairs d k))
    → ((i k : ℕ) → IsMarked (row turned k) i ↔ ((k < n) × IsMarked (row one i) k))
    → ((i k : ℕ) → IsMarked (row last i) k ↔ Gathers edges turned i k)
    → (i k : ℕ) → IsMarked (row last i) k ↔ IsDisjoint edges pairs i k
disjoint_is edges pairs n one turned last back range first turn then i k = (
  λ h.
      let g = (then i k).0 h in
      let t = (turn k g.0).0 g.2 in
      let f = (first k g.0).0 t.1 in
      (g.0, f.0, g.1, f.1, ⊎_elim (λ m. inr m) (λ m. inl m) f.2),
  λ (d, e, p, q, m). (then i k).1 (d, p, (turn k d).1 ((range d e m).0, (first k d).1 (e, q, ⊎_elim (λ x. inr x) (λ x. inl x) m))),
)

-- the pair of an axiom is in range
pub pair_below : {X : Type 0} (f : X → List (ℕ × ℕ)) (xs : List X) (n i : ℕ) (x : X) (it : ℕ × ℕ) → i < length xs → x ≡ get_or xs i x → f x ≡ it ∷ [] → AreBelow n (flat_map f xs) → (it.0 < n) × (it.1 < n)
pair_below f xs n i x it l e p range =
    range it (in_flat_map f xs x it (subst (λ z. Contains xs z) (sym e) (Contains-get_or xs i x l)) (subst (λ (z : List (ℕ × ℕ)). Contains z it) (sym p) (here it [])))

pub declared_step : {X : Type 0} (f : X → List (ℕ × ℕ)) (xs : List X) (i : ℕ) (x : X) (it : ℕ × ℕ) (old mid new : List (List ℕ)) → i < length xs → x ≡ get_or xs i x → f x ≡ it ∷ []
    → AreDeclared (flat_map f (take i xs)) old → Marked it.0 it.1 old mid → Marked it.1 it.0 mid new → AreDeclared (flat_map f (take (i + 1) xs)) new
declared_step f xs i x it old mid new l e p before one two =
    subst (λ (z : List (ℕ × ℕ)). AreDeclared z new) (ap (λ (z : List (ℕ × ℕ)). flat_map f (take i xs) ++ z) (sym p) ∙ flat_more f xs i x l e)
    (pair_more (flat_map f (take i xs)) it old mid new before one two)

pub declared_skip : {X : Type 0} (f : X → List (ℕ × ℕ)) (xs : List X) (i : ℕ) (x : X) (rows : List (List ℕ)) → i < length xs → x ≡ get_or xs i x → f x ≡ []
    → AreDeclared (flat_map f (take i xs)) rows → AreDeclared (flat_map f (take (i + 1) xs)) rows
declared_skip f xs i x rows l e p before =
    subst (λ (z : List (ℕ × ℕ)). AreDeclared z rows) (sym (append-nil (flat_map f (take i xs))) ∙ ap (λ (z : List (ℕ × ℕ)). flat_map f (take i xs) ++ z) (sym p) ∙ flat_more f xs i x l e) before

pub pair_none : (rows : List (List ℕ)) → ((i k : ℕ) → ¬ IsMarked (row rows i) k) → AreDeclared [] rows
pair_none rows none d e = (λ h. absurd (none d e h), λ s. ⊎_elim (λ m. absurd (nowhere (pair d e) m)) (λ m. absurd (nowhere (pair e d) m)) s)

pub path_before : (edges : List (ℕ × ℕ)) (n : ℕ) → AreBelow n edges → (i j : ℕ) → Path edges i j → j < n → i < n
path_before edges n range i j p l = ⊎_elim (λ b. b) (λ b. let same = path_outside edges n range i j b p in omega (arith, same, l)) (cases_lt i n)
