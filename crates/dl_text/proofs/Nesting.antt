-- Words with parentheses, nested at most sixteen deep: the machine of a tree's reader goes through every such text.
use Rattle.std.proofs.Common.{◌≡◌, ◌<◌, ◌+◌, ℕ, List, [], ◌∷◌, ◌++◌, length, Option, Some, None, Bool, true, false, cond, ltb, refl, sym, ap, subst, ◌∙◌, append_assoc, arith}
use Rattle.dl_text.proofs.Fronts.{Runs, start, step, runs_append, stuck}

pub data Tok : Type 0 where
  Atom Open : (w : ℕ) → Tok
  Close : Tok

-- trees beside each other: a name, or a word with what stands in its parentheses, and the trees behind it
pub data Forest : Type 0 where
  none : Forest
  atom : (a : ℕ) (next : Forest) → Forest
  node : (w : ℕ) (inside next : Forest) → Forest

abbrev pub print : Forest → List Tok
print none = []
print (atom a f) = Atom a ∷ print f
print (node w c f) = Open w ∷ (print c ++ Close ∷ print f)

-- nested no deeper, from so many open parentheses on
abbrev pub Fits : ℕ → Forest → Type 0
Fits depth none = Unit {0}
Fits depth (atom a f) = Fits depth f
Fits depth (node w c f) = (depth < 16) × Fits (depth + 1) c × Fits depth f

abbrev pub join : Forest → Forest → Forest
join none g = g
join (atom a f) g = atom a (join f g)
join (node w c f) g = node w c (join f g)

-- the words that are open, innermost first, each with the trees before it; and the trees since
pub data State : Type 0 where
  at : (outer : List (Forest × ℕ)) (since : Forest) → State

abbrev pub after : State → Tok → Option State
after (at out f) (Atom a) = Some (at out (join f (atom a none)))
after (at out f) (Open w) = cond (ltb (length out) 16) (Some (at ((f, w) ∷ out) none)) None
after (at [] f) Close = None
after (at ((g, w) ∷ out) f) Close = Some (at out (join g (node w f none)))

join-join : (f g h : Forest) → join (join f g) h ≡ join f (join g h)
join-join none g h = refl
join-join (atom a f) g h = ap (λ (z : Forest). atom a z) (join-join f g h)
join-join (node w c f) g h = ap (λ (z : Forest). node w c z) (join-join f g h)

join-none : (f : Forest) → join f none ≡ f
join-none none = refl
join-none (atom a f) = ap (λ (z : Forest). atom a z) (join-none f)
join-none (node w c f) = ap (λ (z : Forest). node w c z) (join-none f)

opens : (out : List (Forest × ℕ)) (f : Forest) (w : ℕ) → length out < 16 → after (at out f) (Open w) ≡ Some (at ((f, w) ∷ out) none)
opens out f w l = ap (λ (b : Bool). cond b (Some (at ((f, w) ∷ out) none)) None) (Rattle.std.proofs.Common.lt-ltb (length out) 16 l)

-- the trees are gone through where they stand
through : (out : List (Forest × ℕ)) (front f : Forest) (depth : ℕ) → depth ≡ length out → Fits depth f → Runs after (at out front) (print f) (at out (join front f))
through out front none depth d h = subst (λ (z : Forest). Runs after (at out front) [] (at out z)) (sym (join-none front)) (start (at out front))
through out front (atom a f) depth d h =
    step (at out front) (at out (join front (atom a none))) (at out (join front (atom a f))) (Atom a) (print f) refl
    (subst (λ (z : Forest). Runs after (at out (join front (atom a none))) (print f) (at out z)) (join-join front (atom a none) f) (through out (join front (atom a none)) f depth d h))
through out front (node w c f) depth d h =
    let inside = through ((front, w) ∷ out) none c (depth + 1) (omega arith) h.1 in
    let behind = through out (join front (node w c none)) f depth d h.2 in
    let behind' = subst (λ (z : Forest). Runs after (at out (join front (node w c none))) (print f) (at out z)) (join-join front (node w c none) f) behind in
    let close = step (at ((front, w) ∷ out) c) (at out (join front (node w c none))) (at out (join front (node w c f))) Close (print f) refl behind' in
    step (at out front) (at ((front, w) ∷ out) none) (at out (join front (node w c f))) (Open w) (print c ++ Close ∷ print f) (opens out front w (omega (arith, h.0)))
    (runs_append after (at ((front, w) ∷ out) none) (at ((front, w) ∷ out) c) (at out (join front (node w c f))) (print c) (Close ∷ print f) inside close)

-- a document nested at most sixteen deep
pub record Document : Type 0 where
  pub trees : Forest
  pub fits : Fits 0 trees

abbrev pub tokens_of : Document → List Tok
tokens_of d = print d.trees

accepts : (d : Document) → (e : State) × Runs after (at [] none) (tokens_of d) e
accepts d = (at [] d.trees, through [] none d.trees 0 refl d.fits)

pub nesting_stuck : (ts : List Tok) (s : State) (t : Tok) → Runs after (at [] none) ts s → after s t ≡ None → ¬ ((rest : List Tok) × (d : Document) × ((ts ++ t ∷ []) ++ rest ≡ tokens_of d))
nesting_stuck = stuck after (at [] none) tokens_of accepts
