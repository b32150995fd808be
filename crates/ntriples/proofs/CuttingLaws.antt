-- Where no piece of a line stands.
use Rattle.std.proofs.Common.{◌≡◌, ◌≢◌, ℕ, List, [], ◌∷◌, ◌++◌, subst, arith, inl, inr, refl}
use Rattle.std.specs.Prelude.{All}
use Rattle.std.proofs.lemmas.List.Elements.{All-head, All-tail}
use Rattle.dl_runs.specs.Classes.{IsLabel, IsLongest, IsTag}
use Rattle.dl_runs.specs.Quotes.{IsQuoted}
use Rattle.ntriples.specs.Cutting.{Shape, Gap, Dot, Hats, IriOf, TextOf, TagOf, NodeOf, CutsAt, Cuts}

pub not_gap : (b : ℕ) (bs rest : List ℕ) → b ≢ 32 → b ≢ 9 → b ≢ 35 → ¬ CutsAt b bs Gap rest
not_gap b bs rest x y z (inl (inl e, k)) = x e
not_gap b bs rest x y z (inl (inr e, k)) = y e
not_gap b bs rest x y z (inr (e, k)) = z e

without : (inner rest bs : List ℕ) → All (λ c. c ≢ 62) bs → bs ≡ inner ++ 62 ∷ rest → ⊥
without [] rest bs a e = (All-head (λ c. c ≢ 62) 62 rest (subst (All (λ c. c ≢ 62)) e a)) refl
without (x ∷ inner) rest [] a e = cc
without (x ∷ inner) rest (b ∷ bs) a e = without inner rest bs (All-tail (λ c. c ≢ 62) b bs a) (cc)

pub no_iri : (b : ℕ) (bs : List ℕ) → b ≡ 60 → All (λ c. c ≢ 62) bs → (shape : Shape) (rest : List ℕ) → ¬ CutsAt b bs shape rest
no_iri b bs is n Gap rest h = not_gap b bs rest (λ e. omega arith) (λ e. omega arith) (λ e. omega arith) h
no_iri b bs is n Dot rest h = omega (arith, h.0)
no_iri b bs is n Hats rest h = omega (arith, h.0)
no_iri b bs is n (IriOf inner) rest h = without inner rest bs n h.1
no_iri b bs is n (TextOf inner) rest h = omega (arith, h.0)
no_iri b bs is n (TagOf inner) rest h = omega (arith, h.0)
no_iri b bs is n (NodeOf inner) rest h = omega (arith, h.0)

pub no_text : (b : ℕ) (bs : List ℕ) → b ≡ 34 → ((inner rest : List ℕ) → ¬ IsQuoted bs inner rest) → (shape : Shape) (rest : List ℕ) → ¬ CutsAt b bs shape rest
no_text b bs is n Gap rest h = not_gap b bs rest (λ e. omega arith) (λ e. omega arith) (λ e. omega arith) h
no_text b bs is n Dot rest h = omega (arith, h.0)
no_text b bs is n Hats rest h = omega (arith, h.0)
no_text b bs is n (IriOf inner) rest h = omega (arith, h.0)
no_text b bs is n (TextOf inner) rest h = n inner rest h.1
no_text b bs is n (TagOf inner) rest h = omega (arith, h.0)
no_text b bs is n (NodeOf inner) rest h = omega (arith, h.0)

pub no_tag : (b : ℕ) (bs : List ℕ) → b ≡ 64 → ((tag rest : List ℕ) → ¬ IsLongest IsTag bs tag rest) → (shape : Shape) (rest : List ℕ) → ¬ CutsAt b bs shape rest
no_tag b bs is n Gap rest h = not_gap b bs rest (λ e. omega arith) (λ e. omega arith) (λ e. omega arith) h
no_tag b bs is n Dot rest h = omega (arith, h.0)
no_tag b bs is n Hats rest h = omega (arith, h.0)
no_tag b bs is n (IriOf inner) rest h = omega (arith, h.0)
no_tag b bs is n (TextOf inner) rest h = omega (arith, h.0)
no_tag b bs is n (TagOf inner) rest h = n inner rest h.1
no_tag b bs is n (NodeOf inner) rest h = omega (arith, h.0)

pub no_node : (b : ℕ) (bs : List ℕ) → b ≡ 95 → ((label rest after : List ℕ) → bs ≡ 58 ∷ after → ¬ IsLongest IsLabel after label rest) → (shape : Shape) (rest : List ℕ) → ¬ CutsAt b bs shape rest
no_node b bs is n Gap rest h = not_gap b bs rest (λ e. omega arith) (λ e. omega arith) (λ e. omega arith) h
no_node b bs is n Dot rest h = omega (arith, h.0)
no_node b bs is n Hats rest h = omega (arith, h.0)
no_node b bs is n (IriOf inner) rest h = omega (arith, h.0)
no_node b bs is n (TextOf inner) rest h = omega (arith, h.0)
no_node b bs is n (TagOf inner) rest h = omega (arith, h.0)
no_node b bs is n (NodeOf inner) rest h = n inner rest h.1.0 h.1.1 h.1.2

pub no_piece : (line : List ℕ) (b : ℕ) (bs : List ℕ) → line ≡ b ∷ bs → ((shape : Shape) (rest : List ℕ) → ¬ CutsAt b bs shape rest) → (shape : Shape) (rest : List ℕ) → ¬ Cuts line shape rest
no_piece line b bs e n shape rest h = n shape rest (subst (λ (zs : List ℕ). Cuts zs shape rest) e h)
