-- Places in lists of facts, one after another.
use Rattle.std.proofs.Common.{◌≡◌, ℕ, ◌<◌, ◌≤◌, ◌+◌, zero, suc, List, [], ◌∷◌, length, get_or, sym, ◌∙◌, ap, subst, ⊎_elim, arith}
use Rattle.std.specs.Prelude.{Some, slice_get}
use Rattle.std.proofs.lemmas.Bool.{cases_lt}
use Rattle.std.proofs.lemmas.Option.{slice_get_within}
use Rattle.dl_base.specs.declared.axioms.Axiom.{Axiom}
use Rattle.dl_base.specs.declared.statements.Fact.{Fact}
use Rattle.dl_base.specs.Derivation.{InClosure}
use Rattle.dl_base.specs.Clash.{HasClash, IsConsistent}
use Rattle.dl_base.specs.IllFormed.{NamesPair, NamesEntails, ClashesAt, ClashAt, EntailsAt}
use Rattle.update_engine.specs.Judging.{NoneAlone, NoPair, IsPartner, IsEntailed}
use Rattle.update_engine.proofs.NameLaws.{none_alone_of, no_pair_of}

pub at_place : {X : Type 0} (xs : List X) (i : ℕ) (x : X) → i < length xs → x ≡ get_or xs i x → slice_get xs i ≡ Some x
at_place [] i x l e = absurd (omega (arith, l))
at_place (y ∷ xs) zero x l e = ap Some (sym e)
at_place (y ∷ xs) (suc i) x l e = at_place xs i x (omega (arith, l)) e

pub same_at : {X : Type 0} (xs : List X) (i : ℕ) (f g : X) → slice_get xs i ≡ Some f → slice_get xs i ≡ Some g → f ≡ g
same_at xs i f g a b = something (sym a ∙ b)
  where
    something : {Y : Type 0} {x y : Y} → Some x ≡ Some y → x ≡ y
    something e = cc

pub next_place : (P : ℕ → Type 0) (n : ℕ) → ((k : ℕ) → k < n → ¬ P k) → ¬ P n → (k : ℕ) → k < n + 1 → ¬ P k
next_place P n before here k l = ⊎_elim
    (λ m. before k m)
    (λ m. let e : n ≡ k = omega (arith, l, m) in subst (λ (z : ℕ). ¬ P z) e here)
    (cases_lt k n)

module _ (axioms : List Axiom) where
  module _ (inserts : List Fact) where
    pub clashes_at : (i : ℕ) (f : Fact) → i < length inserts → f ≡ get_or inserts i f → HasClash axioms (f ∷ []) → ClashesAt axioms inserts i
    clashes_at i f l e h = (f, at_place inserts i f l e, h)

    pub not_at : (i : ℕ) (f : Fact) → i < length inserts → f ≡ get_or inserts i f → ¬ HasClash axioms (f ∷ []) → ¬ ClashesAt axioms inserts i
    not_at i f l e n h = n (subst (λ z. HasClash axioms (z ∷ [])) (same_at inserts i h.0 f h.1 (at_place inserts i f l e)) h.2)

    pub none_at_all : (n : ℕ) → length inserts ≤ n → ((k : ℕ) → k < n → ¬ ClashesAt axioms inserts k) → NoneAlone axioms inserts
    none_at_all n l none k h = let w = slice_get_within inserts k h.0 h.1 in none k (omega (arith, l, w)) h

    pub no_clash_at : (i : ℕ) (f : Fact) → i < length inserts → f ≡ get_or inserts i f → NoneAlone axioms inserts → ¬ HasClash axioms (f ∷ [])
    no_clash_at i f l e none h = none i (clashes_at i f l e h)

    pub pair_at : (i j : ℕ) (f g : Fact) → i < j → j < length inserts → f ≡ get_or inserts i f → g ≡ get_or inserts j g → HasClash axioms (f ∷ g ∷ []) → ClashAt axioms inserts i j
    pair_at i j f g l m d e h = (f, g, l, at_place inserts i f (omega (arith, l, m)) d, at_place inserts j g m e, h)

    pub not_pair_at : (i j : ℕ) (f g : Fact) → i < j → j < length inserts → f ≡ get_or inserts i f → g ≡ get_or inserts j g → ¬ HasClash axioms (f ∷ g ∷ []) → ¬ ClashAt axioms inserts i j
    not_pair_at i j f g l m d e n h =
        let one = same_at inserts i h.0 f h.3 (at_place inserts i f (omega (arith, l, m)) d) in
        let two = same_at inserts j h.1 g h.4 (at_place inserts j g m e) in
        n (subst (λ z. HasClash axioms (f ∷ z ∷ [])) two (subst (λ z. HasClash axioms (z ∷ h.1 ∷ [])) one h.5))

    pub no_partner : (i n : ℕ) → length inserts ≤ n → ((k : ℕ) → k < n → ¬ ClashAt axioms inserts i k) → (k : ℕ) → ¬ ClashAt axioms inserts i k
    no_partner i n l none k h = let w = slice_get_within inserts k h.1 h.4 in none k (omega (arith, l, w)) h

    pub no_pair : (n : ℕ) → length inserts ≤ n → ((k : ℕ) → k < n → (m : ℕ) → ¬ ClashAt axioms inserts k m) → NoPair axioms inserts
    no_pair n l none k m h = let w = slice_get_within inserts k h.0 h.3 in none k (omega (arith, l, w)) m h

    pub names_pair : (i j : ℕ) → NoneAlone axioms inserts → ((k : ℕ) → k < i → (m : ℕ) → ¬ ClashAt axioms inserts k m) → IsPartner axioms inserts i j → NamesPair axioms inserts i j
    names_pair i j alone before p = record {
      none_alone = alone;
      here = p.here;
      least = λ k l e. ⊎_elim (λ m. before k m l) (λ m. subst (λ (z : ℕ). ¬ ClashAt axioms inserts z l) (sym m.0) (p.least l m.1)) e;
    }

    pub next_pair : (n : ℕ) → ((k : ℕ) → k < n → (m : ℕ) → ¬ ClashAt axioms inserts k m) → ((m : ℕ) → ¬ ClashAt axioms inserts n m) → (k : ℕ) → k < n + 1 → (m : ℕ) → ¬ ClashAt axioms inserts k m
    next_pair n before here k l m h = next_place (λ i. (j : ℕ) × ClashAt axioms inserts i j) n (λ i w p. before i w p.0 p.1) (λ p. here p.0 p.1) k l (m, h)

  module _ (deletes : List Fact) where
    abbrev pub EntailedAt : Fact → ℕ → Type 0
    EntailedAt f l = (g : Fact) × (slice_get deletes l ≡ Some g) × InClosure axioms (f ∷ []) g

    pub not_entailed : (f d : Fact) (i : ℕ) → i < length deletes → d ≡ get_or deletes i d → ¬ InClosure axioms (f ∷ []) d → ¬ EntailedAt f i
    not_entailed f d i l e n h = n (subst (InClosure axioms (f ∷ [])) (same_at deletes i h.0 d h.1 (at_place deletes i d l e)) h.2)

    pub none_entailed : (f : Fact) (n : ℕ) → length deletes ≤ n → ((k : ℕ) → k < n → ¬ EntailedAt f k) → (k : ℕ) → ¬ EntailedAt f k
    none_entailed f n l none k h = let w = slice_get_within deletes k h.0 h.1 in none k (omega (arith, l, w)) h

    module _ (inserts : List Fact) where
      to_fact : (i d : ℕ) (f : Fact) → slice_get inserts i ≡ Some f → EntailsAt axioms inserts deletes i d → EntailedAt f d
      to_fact i d f e h = (h.1, h.3, subst (λ z. InClosure axioms (z ∷ []) h.1) (same_at inserts i h.0 f h.2 e) h.4)

      pub names_entails : (i d : ℕ) (f : Fact) → i < length inserts → f ≡ get_or inserts i f → IsConsistent axioms inserts
          → ((k : ℕ) → k < i → (m : ℕ) → ¬ EntailsAt axioms inserts deletes k m) → IsEntailed axioms deletes f d → NamesEntails axioms inserts deletes i d
      names_entails i d f l e consistent before p =
          let at = at_place inserts i f l e in
          record {
            none_alone = none_alone_of axioms inserts consistent;
            no_pair = no_pair_of axioms inserts consistent;
            here = (f, p.here.0, at, p.here.1, p.here.2);
            least = λ k m w h. ⊎_elim (λ x. before k x m h) (λ x. p.least m x.1 (to_fact i m f at (subst (λ (z : ℕ). EntailsAt axioms inserts deletes z m) x.0 h))) w;
          }

      pub next_entails : (n : ℕ) (f : Fact) → n < length inserts → f ≡ get_or inserts n f → ((k : ℕ) → k < n → (m : ℕ) → ¬ EntailsAt axioms inserts deletes k m) → ((m : ℕ) → ¬ EntailedAt f m)
          → (k : ℕ) → k < n + 1 → (m : ℕ) → ¬ EntailsAt axioms inserts deletes k m
      next_entails n f l e before here k w m h = next_place (λ i. (j : ℕ) × EntailsAt axioms inserts deletes i j) n (λ i x p. before i x p.0 p.1) (λ p. here p.0 (to_fact n p.0 f (at_place inserts n f l e) p.1)) k w (m, h)

      pub no_entails : (n : ℕ) → length inserts ≤ n → ((k : ℕ) → k < n → (m : ℕ) → ¬ EntailsAt axioms inserts deletes k m) → (k m : ℕ) → ¬ EntailsAt axioms inserts deletes k m
      no_entails n l none k m h = let w = slice_get_within inserts k h.0 h.2 in none k (omega (arith, l, w)) m h
