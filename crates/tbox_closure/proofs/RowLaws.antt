-- Laws of rows of marks.
use Rattle.std.proofs.Common.{◌≡◌, ◌≢◌, ℕ, ◌<◌, ◌≤◌, ◌+◌, ◌-◌, ◌/◌, ◌%◌, ◌^◌, max, List, [], ◌∷◌, ◌++◌, length, take, get_or, set, refl, sym, ◌∙◌, ap, subst, inl, inr, ◌⊎◌, ⊎_elim, arith, get_or-set_same, get_or-set_other, length-set, sum_by, bit_or, w64, replicate, ◌*◌}
use Rattle.std.specs.Prelude.{Contains, ◌↔◌}
use Rattle.std.specs.Int.{bit_at}
use Rattle.std.specs.Int.Bits.{or_self}
use Rattle.std.proofs.lemmas.Nat.Bits.{bit_at_or, bit_at-lt, bit_at-zero, bit_at_set_same, bit_at_set_other}
use Rattle.std.proofs.lemmas.Bool.{cases_lt}
use Rattle.std.proofs.lemmas.List.Sums.{sum_by-set}
use Rattle.std.proofs.lemmas.List.{get_or_past, take_more, get_or-replicate, length-replicate, set-get_or}
use Rattle.std.proofs.lemmas.List.Elements.{Contains-push_cases, Contains-push, Contains-append_left}
use Rattle.dl_laws.specs.Paths as graph
use Rattle.dl_laws.specs.Paths.{Path}
use Rattle.tbox_closure.specs.Marks.{IsMarked, IsUnion, row}
use Rattle.tbox_closure.specs.Graphs.{AreBelow, AreRows, AreSound, Carries, Grows, AreClosed, AreFirst, AreAlike, AreAmong, AreBegun, AreMarked, Gathers, HaveSamePaths}

-- a number below 2 that is a maximum
max_one : (x a b : ℕ) → x ≡ max a b → a < 2 → b < 2 → x ≡ 1 → (a ≡ 1) ⊎ (b ≡ 1)
max_one x a b e la lb h = ⊎_elim (λ l. inr (omega (arith, e, l))) (λ l. inl (omega (arith, e, l))) (cases_lt a 1)

pub union_bit : (new a b : List ℕ) → IsUnion new a b → (k : ℕ)
    → bit_at (get_or new (k / 64) 0) (k % 64) ≡ max (bit_at (get_or a (k / 64) 0) (k % 64)) (bit_at (get_or b (k / 64) 0) (k % 64))
union_bit new a b u k = ap (λ n. bit_at n (k % 64)) (u (k / 64)) ∙ bit_at_or (get_or a (k / 64) 0) (get_or b (k / 64) 0) (k % 64)

pub union_either : (new a b : List ℕ) → IsUnion new a b → (k : ℕ) → IsMarked new k → IsMarked a k ⊎ IsMarked b k
union_either new a b u k h = max_one _ _ _ (union_bit new a b u k) (bit_at-lt (get_or a (k / 64) 0) (k % 64)) (bit_at-lt (get_or b (k / 64) 0) (k % 64)) h

pub union_first : (new a b : List ℕ) → IsUnion new a b → (k : ℕ) → IsMarked a k → IsMarked new k
union_first new a b u k h =
    let e = union_bit new a b u k in
    let l = bit_at-lt (get_or b (k / 64) 0) (k % 64) in
    omega (arith, e, l, h)

pub union_second : (new a b : List ℕ) → IsUnion new a b → (k : ℕ) → IsMarked b k → IsMarked new k
union_second new a b u k h =
    let e = union_bit new a b u k in
    let l = bit_at-lt (get_or a (k / 64) 0) (k % 64) in
    omega (arith, e, l, h)

-- a row is the new one or an old one
pub row_cases : (rows : List (List ℕ)) (from : ℕ) (united : List ℕ) → from < length rows → (P : ℕ → List ℕ → Type 0)
    → P from united → ((i : ℕ) → P i (get_or rows i [])) → (i : ℕ) → P i (get_or (set rows from united) i [])
row_cases rows from united l P here old i =
    ⊎_elim
    (λ b. let ne : i ≢ from = omega arith in subst (P i) (sym (get_or-set_other rows from i united [] ne)) (old i))
    (λ b. ⊎_elim
    (λ a. let ne : i ≢ from = omega arith in subst (P i) (sym (get_or-set_other rows from i united [] ne)) (old i))
    (λ a. let e : i ≡ from = omega arith in subst (λ (n : ℕ). P n (get_or (set rows from united) n [])) (sym e) (subst (P from) (sym (get_or-set_same rows from united [] l)) here))
    (cases_lt from i))
    (cases_lt i from)

-- ---- the loop over words

pub stepped_done : (k : ℕ) (into old from new : List ℕ) → k < length into → new ≡ set into k (bit_or (get_or into k 0) (get_or from k 0))
    → ((w : ℕ) → w < k → get_or into w 0 ≡ bit_or (get_or old w 0) (get_or from w 0)) → get_or into k 0 ≡ get_or old k 0
    → (w : ℕ) → w < k + 1 → get_or new w 0 ≡ bit_or (get_or old w 0) (get_or from w 0)
stepped_done k into old from new l is done at w h =
    ⊎_elim
    (λ b. let ne : w ≢ k = omega arith in ap (λ (xs : List ℕ). get_or xs w 0) is ∙ get_or-set_other into k w _ 0 ne ∙ done w b)
    (λ b. let e : w ≡ k = omega arith in
    subst (λ (n : ℕ). get_or new n 0 ≡ bit_or (get_or old n 0) (get_or from n 0)) (sym e)
    (ap (λ (xs : List ℕ). get_or xs k 0) is ∙ get_or-set_same into k _ 0 l ∙ ap (λ (n : ℕ). bit_or n (get_or from k 0)) at))
    (cases_lt w k)

pub stepped_rest : (k : ℕ) (into old new : List ℕ) (x : ℕ) → new ≡ set into k x → ((w : ℕ) → k ≤ w → get_or into w 0 ≡ get_or old w 0)
    → (w : ℕ) → k + 1 ≤ w → get_or new w 0 ≡ get_or old w 0
stepped_rest k into old new x is rest w h =
    let ne : w ≢ k = omega arith in ap (λ (xs : List ℕ). get_or xs w 0) is ∙ get_or-set_other into k w x 0 ne ∙ rest w (omega (arith, h))

pub spare_falls : (words : List ℕ) (k n : ℕ) → k < length words → get_or words k 0 < n → get_or words k 0 < 2 ^ 64
    → sum_by (λ w. 2 ^ 64 - w) (set words k n) < sum_by (λ w. 2 ^ 64 - w) words
spare_falls words k n l up fit = let e = sum_by-set (λ (w : ℕ). 2 ^ 64 - w) words k n 0 l in omega (arith, e, up, fit)

cong_or : {a b : ℕ} → a ≡ 0 → b ≡ 0 → bit_or a b ≡ 0
cong_or p q = rw (p, q) refl

pub union_all : (n : ℕ) (new old from : List ℕ) → length old ≤ n → length new ≡ length old → length from ≡ length old
    → ((w : ℕ) → w < n → get_or new w 0 ≡ bit_or (get_or old w 0) (get_or from w 0)) → IsUnion new old from
union_all n new old from l en ef done w =
    ⊎_elim (λ b. done w b)
    (λ b. get_or_past new w 0 (omega (arith, en, l, b)) ∙ sym (cong_or (get_or_past old w 0 (omega (arith, l, b))) (get_or_past from w 0 (omega (arith, ef, l, b)))))
    (cases_lt w n)

-- ---- the first row

-- a word that has the bit alone
one_bit : (x b i : ℕ) → b < 64 → x ≡ 0 → bit_at (bit_or x (1 * 2 ^ b % 2 ^ 64)) i ≡ 1 → i ≡ b
one_bit x b i l none h =
    ⊎_elim (λ a. absurd (other (omega arith))) (λ a. ⊎_elim (λ d. absurd (other (omega arith))) (λ d. omega (arith, a, d)) (cases_lt b i)) (cases_lt i b)
  where
    other : i ≢ b → ⊥
    other ne =
        let e = bit_at_set_other w64 x b l i ne in
        let z : bit_at x i ≡ 0 = ap (λ n. bit_at n i) none ∙ bit_at-zero i in
        omega (arith, e, z, h)

other_word : (words : List ℕ) (p q v i : ℕ) → q ≢ p → ((w : ℕ) → get_or words w 0 ≡ 0) → bit_at (get_or (set words p v) q 0) i ≡ 1 → ⊥
other_word words p q v i ne zero h =
    let e : bit_at (get_or (set words p v) q 0) i ≡ 0 = ap (λ n. bit_at n i) (get_or-set_other words p q v 0 ne ∙ zero q) ∙ bit_at-zero i in
    omega (arith, e, h)

pub first_alone : (words : List ℕ) (node x k : ℕ) → node / 64 < length words → ((w : ℕ) → get_or words w 0 ≡ 0) → x ≡ 0
    → IsMarked (set words (node / 64) (bit_or x (1 * 2 ^ (node % 64) % 2 ^ 64))) k → k ≡ node
first_alone words node x k l zero none h =
    ⊎_elim (λ b. let ne : k / 64 ≢ node / 64 = omega (arith, b) in absurd (other_word words (node / 64) (k / 64) _ (k % 64) ne zero h))
    (λ b. ⊎_elim (λ a. let ne : k / 64 ≢ node / 64 = omega (arith, a) in absurd (other_word words (node / 64) (k / 64) _ (k % 64) ne zero h))
    (λ a. let same : k / 64 ≡ node / 64 = omega (arith, a, b) in
    let v : ℕ = bit_or x (1 * 2 ^ (node % 64) % 2 ^ 64) in
    let at : bit_at v (k % 64) ≡ 1 = subst (λ (n : ℕ). bit_at n (k % 64) ≡ 1) (get_or-set_same words (node / 64) v 0 l)
    (subst (λ (n : ℕ). bit_at (get_or (set words (node / 64) v) n 0) (k % 64) ≡ 1) same h) in
    let rest : k % 64 ≡ node % 64 = one_bit x (node % 64) (k % 64) (omega arith) none at in
    omega (arith, same, rest))
    (cases_lt (node / 64) (k / 64)))
    (cases_lt (k / 64) (node / 64))

pub first_itself : (words : List ℕ) (node x k : ℕ) → node / 64 < length words → k ≡ node
    → IsMarked (set words (node / 64) (bit_or x (1 * 2 ^ (node % 64) % 2 ^ 64))) k
first_itself words node x k l e =
    let v : ℕ = bit_or x (1 * 2 ^ (node % 64) % 2 ^ 64) in
    let at : IsMarked (set words (node / 64) v) node = ap (λ (n : ℕ). bit_at n (node % 64)) (get_or-set_same words (node / 64) v 0 l) ∙ bit_at_set_same w64 x (node % 64) (omega arith) in
    subst (IsMarked (set words (node / 64) v)) (sym e) at

pub all_zero : (n w : ℕ) → get_or (replicate {A = ℕ} n 0) w 0 ≡ 0
all_zero n w =
    let z : ℕ = 0 in
    let len : length (replicate n z) ≡ n = length-replicate n z in
    ⊎_elim (λ b. get_or-replicate n w z z b) (λ b. get_or_past (replicate n z) w z (omega (arith, len, b))) (cases_lt w n)

-- ---- one carrying

pub any_default : (rows : List (List ℕ)) (i : ℕ) (d e : List ℕ) → i < length rows → get_or rows i d ≡ get_or rows i e
any_default rows i d e l = ap (λ (xs : List (List ℕ)). get_or xs i d) (sym (set-get_or rows i e)) ∙ get_or-set_same rows i (get_or rows i e) d l

pub carries_itself : (rows : List (List ℕ)) (from to : ℕ) → from ≡ to → Carries rows rows from to
carries_itself rows from to e = subst (Carries rows rows from) e record {
  united = get_or rows from [];
  new_is = sym (set-get_or rows from []);
  union = λ w. sym (or_self (get_or (get_or rows from []) w 0));
  alike = refl;
}

-- ---- carrying

module _ (edges : List (ℕ × ℕ)) where
  pub prepend : (i j k : ℕ) → Contains edges (i, j) → Path edges j k → Path edges i k
  prepend i j k m (graph.itself z) = graph.further i i z (graph.itself i) m
  prepend i j k m (graph.further z w u r e) = graph.further i w u (prepend i j w m r) e

  pub grows_same : (rows : List (List ℕ)) → Grows edges rows rows
  grows_same rows = record { alike = λ a. a; kept = λ i k h. h; sound = λ s. s; comes = λ i k h. (i, graph.itself i, h) }

  pub joined : (i j k : ℕ) → Path edges i j → Path edges j k → Path edges i k
  joined i j k p (graph.itself z) = p
  joined i j k p (graph.further z w u r e) = graph.further i w u (joined i j w p r) e

  joins : (a b : List (List ℕ)) → Grows edges a b → (i k : ℕ) → Gathers edges b i k → Gathers edges a i k
  joins a b p i k (j, r, h) = let c = p.comes j k h in (c.0, joined i j c.0 r c.1, c.2)

  pub grows_on : (a b c : List (List ℕ)) → Grows edges a b → Grows edges b c → Grows edges a c
  grows_on a b c p q = record { alike = λ h. q.alike (p.alike h); kept = λ i k h. q.kept i k (p.kept i k h); sound = λ s. q.sound (p.sound s); comes = λ i k h. joins a b p i k (q.comes i k h) }

  pub carried_grows : (old new : List (List ℕ)) (from to : ℕ) → from < length old → to < length old → Contains edges (from, to) → Carries old new from to → Grows edges old new
  carried_grows old new from to lf lt m c = record {
    alike = λ a. let each = row_cases old from c.united lf (λ i r. i < length old → length r ≡ length (row old from)) (λ _. c.alike) (λ i h. a i from h lf) in
        λ i j hi hj.
        let n : length new ≡ length old = ap length c.new_is ∙ length-set old from c.united in
        let at : (i : ℕ) → i < length old → length (get_or new i []) ≡ length (row old from) = λ i h. ap (λ (xs : List (List ℕ)). length (get_or xs i [])) c.new_is ∙ each i h in
        at i (omega (arith, n, hi)) ∙ sym (at j (omega (arith, n, hj)));
    kept = λ i k h. subst (λ (xs : List (List ℕ)). IsMarked (get_or xs i []) k) (sym c.new_is)
        (row_cases old from c.united lf (λ i r. IsMarked (row old i) k → IsMarked r k) (λ h. union_first c.united _ _ c.union k h) (λ i h. h) i h);
    comes = λ i k h. row_cases old from c.united lf (λ i r. IsMarked r k → Gathers edges old i k)
        (λ h. ⊎_elim (λ p. (from, graph.itself from, p)) (λ p. (to, graph.further from from to (graph.itself from) m, p)) (union_either c.united _ _ c.union k h))
        (λ i h. (i, graph.itself i, h)) i (subst (λ (xs : List (List ℕ)). IsMarked (get_or xs i []) k) c.new_is h);
    sound = λ s i k h. row_cases old from c.united lf (λ i r. IsMarked r k → Path edges i k)
        (λ h. ⊎_elim (λ p. s from k p) (λ p. prepend from to k m (s to k p)) (union_either c.united _ _ c.union k h))
        (λ i h. s i k h) i (subst (λ (xs : List (List ℕ)). IsMarked (get_or xs i []) k) c.new_is h);
  }

  -- what a carried row has of the other
  pub carried_within : (old new : List (List ℕ)) (from to : ℕ) → from < length old → Carries old new from to → new ≡ old → (k : ℕ) → IsMarked (row new to) k → IsMarked (row new from) k
  carried_within old new from to l c same k h =
      let at : get_or new from [] ≡ c.united = ap (λ (xs : List (List ℕ)). get_or xs from []) c.new_is ∙ get_or-set_same old from c.united [] l in
      subst (λ (r : List ℕ). IsMarked r k) (sym at) (union_second c.united (row old from) (row old to) c.union k (subst (λ (xs : List (List ℕ)). IsMarked (get_or xs to []) k) same h))

  -- the step of the loop over the edges
  pub closed_more : (rows : List (List ℕ)) (i : ℕ) (it : ℕ × ℕ) → i < length edges → AreClosed (take i edges) rows
      → ((k : ℕ) → IsMarked (row rows (get_or edges i it).1) k → IsMarked (row rows (get_or edges i it).0) k) → AreClosed (take (i + 1) edges) rows
  closed_more rows i it l before here edge m k h =
      ⊎_elim (λ c. before edge c k h) (λ c. subst (λ (z : ℕ × ℕ). IsMarked (row rows z.1) k → IsMarked (row rows z.0) k) c (here k) h)
      (Contains-push_cases (take i edges) (get_or edges i it) edge (subst (λ xs. Contains xs edge) (take_more edges i it l) m))

  -- what a node reaches is marked in the row of each node before it
  pub path_within : (rows : List (List ℕ)) → AreClosed edges rows → (i j : ℕ) → Path edges i j → (k : ℕ) → IsMarked (row rows j) k → IsMarked (row rows i) k
  path_within rows closed i j (graph.itself z) k h = h
  path_within rows closed i j (graph.further z w u r e) k h = path_within rows closed i w r k (closed (w, j) e k h)

  -- a path from a node without edges stays there
  pub path_outside : (n : ℕ) → AreBelow n edges → (i j : ℕ) → n ≤ i → Path edges i j → i ≡ j
  path_outside n range i j l (graph.itself z) = refl
  path_outside n range i j l (graph.further z w u r k) =
      let at = path_outside n range i w l r in
      let low : w < n = (range (w, j) k).0 in
      absurd (omega (arith, at, low, l))

  pub path_inside : (n : ℕ) → AreBelow n edges → (i j : ℕ) → i < n → Path edges i j → j < n
  path_inside n range i j l (graph.itself z) = l
  path_inside n range i j l (graph.further z w u r k) = (range (w, j) k).1

  pub range_at : (m n : ℕ) → m ≡ n → AreBelow m edges → AreBelow n edges
  range_at m n e = subst (λ (k : ℕ). AreBelow k edges) e

  pub first_sound : (rows : List (List ℕ)) → AreFirst rows → AreSound edges rows
  first_sound rows first i k h =
      ⊎_elim (λ b. subst (Path edges i) (sym ((first i b k).0 h)) (graph.itself i))
      (λ b. let z : bit_at (get_or (get_or rows i []) (k / 64) 0) (k % 64) ≡ 0 = ap (λ (r : List ℕ). bit_at (get_or r (k / 64) 0) (k % 64)) (get_or_past rows i [] b) ∙ bit_at-zero (k % 64) in absurd (omega (arith, z, h)))
      (cases_lt i (length rows))

  -- closed, sound and begun rows are exact
  pub filled : (rows : List (List ℕ)) → AreBelow (length rows) edges → AreBegun rows → AreSound edges rows → AreClosed edges rows → AreRows edges rows
  filled rows range begun sound closed i l j =
      (λ h. sound i j h, λ p. path_within rows closed i j p j (begun j (path_inside (length rows) range i j l p)))

-- more edges lead further
pub path_among : (edges few : List (ℕ × ℕ)) → AreAmong edges few → (i j : ℕ) → Path few i j → Path edges i j
path_among edges few among i j (graph.itself z) = graph.itself z
path_among edges few among i j (graph.further z w u r e) = graph.further i w j (path_among edges few among i w r) (among (w, j) e)

pub sound_among : (edges few : List (ℕ × ℕ)) (rows : List (List ℕ)) → AreAmong edges few → AreSound few rows → AreSound edges rows
sound_among edges few rows among sound i k h = path_among edges few among i k (sound i k h)

pub grows_among : (few more : List (ℕ × ℕ)) (old new : List (List ℕ)) → AreAmong more few → AreSound few old → Grows few old new → AreSound more new
grows_among few more old new among sound grows = sound_among more few new among (grows.sound sound)

-- rows that are closed under a few edges are closed under all whose ends they mark
pub closed_by_few : (edges few : List (ℕ × ℕ)) (rows : List (List ℕ)) → AreSound few rows → AreClosed few rows → AreMarked edges rows → AreClosed edges rows
closed_by_few edges few rows sound closed marked edge m k h = path_within few rows closed edge.0 edge.1 (sound edge.0 edge.1 (marked edge m)) k h

pub begun_on : (edges : List (ℕ × ℕ)) (old new : List (List ℕ)) → length new ≡ length old → AreBegun old → Grows edges old new → AreBegun new
begun_on edges old new e begun grows i l = grows.kept i i (begun i (omega (arith, e, l)))

pub begun_first : (rows : List (List ℕ)) → AreFirst rows → AreBegun rows
begun_first rows first i l = (first i l i).1 refl

pub marked_more : (edges : List (ℕ × ℕ)) (rows : List (List ℕ)) (i : ℕ) (it : ℕ × ℕ) → i < length edges → AreMarked (take i edges) rows
    → IsMarked (row rows (get_or edges i it).0) (get_or edges i it).1 → AreMarked (take (i + 1) edges) rows
marked_more edges rows i it l before here edge m =
    ⊎_elim (λ c. before edge c) (λ c. subst (λ (z : ℕ × ℕ). IsMarked (row rows z.0) z.1) c here)
    (Contains-push_cases (take i edges) (get_or edges i it) edge (subst (λ xs. Contains xs edge) (take_more edges i it l) m))

-- ---- following a schedule

among_more : (few more : List (ℕ × ℕ)) (it : ℕ × ℕ) → more ≡ few ++ it ∷ [] → AreAmong more few
among_more few more it e edge m = subst (λ (xs : List (ℕ × ℕ)). Contains xs edge) (sym e) (Contains-append_left few (it ∷ []) edge m)

last_more : (few more : List (ℕ × ℕ)) (it : ℕ × ℕ) → more ≡ few ++ it ∷ [] → Contains more it
last_more few more it e = subst (λ (xs : List (ℕ × ℕ)). Contains xs it) (sym e) (Contains-push few it)

pub followed_among : (edges few : List (ℕ × ℕ)) (it : ℕ × ℕ) (more : List (ℕ × ℕ)) → more ≡ few ++ it ∷ [] → Contains edges it → AreAmong edges few → AreAmong edges more
followed_among edges few it more e member among edge m =
    ⊎_elim (λ h. among edge h) (λ h. subst (Contains edges) h member) (Contains-push_cases few it edge (subst (λ (xs : List (ℕ × ℕ)). Contains xs edge) e m))

pub followed_begun : (few : List (ℕ × ℕ)) (it : ℕ × ℕ) (old new : List (List ℕ)) → it.0 < length old → it.1 < length old → Carries old new it.0 it.1 → length new ≡ length old → AreBegun old → AreBegun new
followed_begun few it old new from to c e begun = begun_on (few ++ it ∷ []) old new e begun (carried_grows (few ++ it ∷ []) old new it.0 it.1 from to (Contains-push few it) c)

pub followed_alike : (few : List (ℕ × ℕ)) (it : ℕ × ℕ) (old new : List (List ℕ)) → it.0 < length old → it.1 < length old → Carries old new it.0 it.1 → AreAlike old → AreAlike new
followed_alike few it old new from to c = (carried_grows (few ++ it ∷ []) old new it.0 it.1 from to (Contains-push few it) c).alike

pub followed_sound : (few : List (ℕ × ℕ)) (it : ℕ × ℕ) (old new : List (List ℕ)) (more : List (ℕ × ℕ)) (last : List (List ℕ)) → it.0 < length old → it.1 < length old → Carries old new it.0 it.1
    → more ≡ few ++ it ∷ [] → last ≡ new → AreSound few old → AreSound more last
followed_sound few it old new more last from to c e is sound =
    subst (AreSound more) (sym is)
    ((carried_grows more old new it.0 it.1 from to (last_more few more it e) c).sound (sound_among more few old (among_more few more it e) sound))

pub followed_none : (few : List (ℕ × ℕ)) (old : List (List ℕ)) (more : List (ℕ × ℕ)) (last : List (List ℕ)) → more ≡ few → last ≡ old → AreSound few old → AreSound more last
followed_none few old more last e is sound = subst (AreSound more) (sym is) (subst (λ (xs : List (ℕ × ℕ)). AreSound xs old) (sym e) sound)

-- what the rows of the nodes that a node reaches mark, and nothing else, is marked in its row
pub gathered : (edges : List (ℕ × ℕ)) (old new : List (List ℕ)) → Grows edges old new → AreClosed edges new → (i k : ℕ) → IsMarked (row new i) k ↔ Gathers edges old i k
gathered edges old new grows closed i k = (λ h. grows.comes i k h, λ g. path_within edges new closed i g.0 g.1 k (grows.kept g.0 k g.2))

-- ---- one mark more

set_bit : (x b i : ℕ) → b < 64 → bit_at (bit_or x (1 * 2 ^ b % 2 ^ 64)) i ≡ 1 → (i ≡ b) ⊎ (bit_at x i ≡ 1)
set_bit x b i l h =
    ⊎_elim (λ a. let ne : i ≢ b = omega arith in inr (sym (bit_at_set_other w64 x b l i ne) ∙ h))
    (λ a. ⊎_elim (λ d. let ne : i ≢ b = omega arith in inr (sym (bit_at_set_other w64 x b l i ne) ∙ h)) (λ d. inl (omega (arith, a, d))) (cases_lt b i))
    (cases_lt i b)

pub marked_either : (words : List ℕ) (node k : ℕ) → node / 64 < length words
    → IsMarked (set words (node / 64) (bit_or (get_or words (node / 64) 0) (1 * 2 ^ (node % 64) % 2 ^ 64))) k → (k ≡ node) ⊎ IsMarked words k
marked_either words node k l h =
    row_of (λ b. let ne : k / 64 ≢ node / 64 = omega (arith, b) in inr (elsewhere ne))
    (λ same.
    let at : bit_at v (k % 64) ≡ 1 = subst (λ (n : ℕ). bit_at n (k % 64) ≡ 1) (get_or-set_same words (node / 64) v 0 l)
    (subst (λ (n : ℕ). bit_at (get_or (set words (node / 64) v) n 0) (k % 64) ≡ 1) same h) in
    ⊎_elim (λ e. inl (omega (arith, same, e)))
    (λ o. inr (subst (λ (n : ℕ). bit_at (get_or words n 0) (k % 64) ≡ 1) (sym same) o))
    (set_bit (get_or words (node / 64) 0) (node % 64) (k % 64) (omega arith) at))
  where
    v : ℕ
    v = bit_or (get_or words (node / 64) 0) (1 * 2 ^ (node % 64) % 2 ^ 64)

    elsewhere : k / 64 ≢ node / 64 → IsMarked words k
    elsewhere ne = ap (λ (n : ℕ). bit_at n (k % 64)) (sym (get_or-set_other words (node / 64) (k / 64) v 0 ne)) ∙ h

    row_of : ((k / 64 ≢ node / 64) → (k ≡ node) ⊎ IsMarked words k) → (k / 64 ≡ node / 64 → (k ≡ node) ⊎ IsMarked words k) → (k ≡ node) ⊎ IsMarked words k
    row_of f g = ⊎_elim (λ b. f (omega (arith, b))) (λ b. ⊎_elim (λ a. f (omega (arith, a))) (λ a. g (omega (arith, a, b))) (cases_lt (node / 64) (k / 64))) (cases_lt (k / 64) (node / 64))

bit_kept : (x b i : ℕ) → b < 64 → bit_at x i ≡ 1 → bit_at (bit_or x (1 * 2 ^ b % 2 ^ 64)) i ≡ 1
bit_kept x b i l h =
    let e = bit_at_or x (1 * 2 ^ b % 2 ^ 64) i in
    let z = bit_at-lt (1 * 2 ^ b % 2 ^ 64) i in
    omega (arith, e, z, h)

pub marked_kept : (words : List ℕ) (node k : ℕ) → node / 64 < length words → IsMarked words k
    → IsMarked (set words (node / 64) (bit_or (get_or words (node / 64) 0) (1 * 2 ^ (node % 64) % 2 ^ 64))) k
marked_kept words node k l h =
    row_cases_of (λ ne. ap (λ (n : ℕ). bit_at n (k % 64)) (get_or-set_other words (node / 64) (k / 64) v 0 ne) ∙ h)
    (λ same. subst (λ (n : ℕ). bit_at (get_or (set words (node / 64) v) n 0) (k % 64) ≡ 1) (sym same)
    (ap (λ (n : ℕ). bit_at n (k % 64)) (get_or-set_same words (node / 64) v 0 l)
    ∙ bit_kept (get_or words (node / 64) 0) (node % 64) (k % 64) (omega arith) (subst (λ (n : ℕ). bit_at (get_or words n 0) (k % 64) ≡ 1) same h)))
  where
    v : ℕ
    v = bit_or (get_or words (node / 64) 0) (1 * 2 ^ (node % 64) % 2 ^ 64)

    row_cases_of : ((k / 64 ≢ node / 64) → IsMarked (set words (node / 64) v) k) → (k / 64 ≡ node / 64 → IsMarked (set words (node / 64) v) k) → IsMarked (set words (node / 64) v) k
    row_cases_of f g = ⊎_elim (λ b. f (omega (arith, b))) (λ b. ⊎_elim (λ a. f (omega (arith, a))) (λ a. g (omega (arith, a, b))) (cases_lt (node / 64) (k / 64))) (cases_lt (k / 64) (node / 64))

-- a row past the end marks nothing
pub past_unmarked : (rows : List (List ℕ)) (i k : ℕ) → length rows ≤ i → ¬ IsMarked (row rows i) k
past_unmarked rows i k l h =
    let z : bit_at (get_or (get_or rows i []) (k / 64) 0) (k % 64) ≡ 0 = ap (λ (r : List ℕ). bit_at (get_or r (k / 64) 0) (k % 64)) (get_or_past rows i [] l) ∙ bit_at-zero (k % 64) in
    omega (arith, z, h)

-- a few edges whose rows are those of all lead as far
pub same_by_rows : (edges few : List (ℕ × ℕ)) (rows : List (List ℕ)) → AreBelow (length rows) edges → AreAmong edges few → AreRows edges rows → AreRows few rows → HaveSamePaths few edges
same_by_rows edges few rows range among all of_few i j = (
  path_among edges few among i j,
  λ p. ⊎_elim
      (λ b. ((of_few i b) j).0 (((all i b) j).1 p))
      (λ b. subst (Path few i) (path_outside edges (length rows) range i j b p) (graph.itself i))
      (cases_lt i (length rows)),
)
