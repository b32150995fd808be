-- What is named clashes, and has one name.
use Rattle.std.proofs.Common.{◌≡◌, ℕ, ◌<◌, List, sym, inl, inr, ◌⊎◌, ⊎_elim}
use Rattle.std.proofs.lemmas.Bool.{cases_order}
use Rattle.dl_base.specs.declared.axioms.Axiom.{Axiom}
use Rattle.dl_base.specs.declared.statements.Fact.{Fact}
use Rattle.dl_base.specs.Clash.{HasClash, IsConsistent}
use Rattle.dl_base.specs.IllFormed.{ClashesAt, ClashAt, EntailsAt, IsEarlier, NamesAlone, NamesPair}
use Rattle.dl_base.specs.Updates.{IsIllFormed}
use Rattle.dl_base.proofs.NamingLaws.{alone_is, pair_is, alone_ill, pair_ill, entails_ill}
use Rattle.update_engine.specs.declared.clashes.Clash.{Clash}
use Rattle.update_engine.specs.declared.clashes.Clash.TheVariants as clash
use Rattle.update_engine.specs.declared.judging.IllFormed.{IllFormed}
use Rattle.update_engine.specs.declared.judging.IllFormed.TheVariants as ill
use Rattle.update_engine.specs.Judging.{IsClash, IsNamed, NoneAlone, NoPair}

-- the first place is one
first_is_one : (P : ℕ → Type 0) (i j : ℕ) → P i → P j → ((k : ℕ) → k < i → ¬ P k) → ((k : ℕ) → k < j → ¬ P k) → i ≡ j
first_is_one P i j p q first second = ⊎_elim (λ e. e) (λ l. ⊎_elim (λ m. absurd (second i m p)) (λ m. absurd (first j m q)) l) (cases_order i j)

-- two pairs of places are the same, or one is earlier
earlier_or_same : (i j k l : ℕ) → ((i ≡ k) × (j ≡ l)) ⊎ (IsEarlier i j k l ⊎ IsEarlier k l i j)
earlier_or_same i j k l = ⊎_elim
    (λ e. ⊎_elim (λ d. inl (e, d)) (λ m. ⊎_elim (λ n. inr (inl (inr (e, n)))) (λ n. inr (inr (inr (sym e, n)))) m) (cases_order j l))
    (λ m. ⊎_elim (λ n. inr (inl (inl n))) (λ n. inr (inr (inl n))) m)
    (cases_order i k)

-- the first two places are two
first_two_are : (P : ℕ → ℕ → Type 0) (i j k l : ℕ) → P i j → P k l → ((m n : ℕ) → IsEarlier m n i j → ¬ P m n) → ((m n : ℕ) → IsEarlier m n k l → ¬ P m n) → (i ≡ k) × (j ≡ l)
first_two_are P i j k l p q first second = ⊎_elim (λ e. e) (λ e. ⊎_elim (λ m. absurd (second i j m p)) (λ m. absurd (first k l m q)) e) (earlier_or_same i j k l)

module _ (axioms : List Axiom) where
  pub clash_is : (facts : List Fact) (one : Clash) → IsClash axioms facts one → HasClash axioms facts
  clash_is facts (clash.Alone i) h = alone_is axioms facts i h.here
  clash_is facts (clash.Pair i j) h = pair_is axioms facts i j h.here

  pub named_ill : (inserts deletes : List Fact) (one : IllFormed) → IsNamed axioms inserts deletes one → IsIllFormed axioms inserts deletes
  named_ill inserts deletes (ill.Alone i) h = alone_ill axioms inserts deletes i h
  named_ill inserts deletes (ill.Pair i j) h = pair_ill axioms inserts deletes i j h
  named_ill inserts deletes (ill.Entails i d) h = entails_ill axioms inserts deletes i d h

  -- consistent facts have no clash at any place
  pub none_alone_of : (facts : List Fact) → IsConsistent axioms facts → NoneAlone axioms facts
  none_alone_of facts consistent k h = consistent (alone_is axioms facts k h)

  pub no_pair_of : (facts : List Fact) → IsConsistent axioms facts → NoPair axioms facts
  no_pair_of facts consistent k l h = consistent (pair_is axioms facts k l h)

  same_alone : (facts : List Fact) (i j : ℕ) → NamesAlone axioms facts i → NamesAlone axioms facts j → i ≡ j
  same_alone facts i j h k = first_is_one (ClashesAt axioms facts) i j h.here k.here h.least k.least

  same_pair : (facts : List Fact) (i j k l : ℕ) → NamesPair axioms facts i j → NamesPair axioms facts k l → (i ≡ k) × (j ≡ l)
  same_pair facts i j k l h m = first_two_are (ClashAt axioms facts) i j k l h.here m.here h.least m.least

  pub one_clash : (facts : List Fact) (one other : Clash) → IsClash axioms facts one → IsClash axioms facts other → one ≡ other
  one_clash facts (clash.Alone i) (clash.Alone j) h k = let e = same_alone facts i j h k in λ x. clash.Alone (e x)
  one_clash facts (clash.Alone i) (clash.Pair j k) h m = absurd (m.none_alone i h.here)
  one_clash facts (clash.Pair i j) (clash.Alone k) h m = absurd (h.none_alone k m.here)
  one_clash facts (clash.Pair i j) (clash.Pair k l) h m = let e = same_pair facts i j k l h m in λ x. clash.Pair (e.0 x) (e.1 x)

  pub one_name : (inserts deletes : List Fact) (one other : IllFormed) → IsNamed axioms inserts deletes one → IsNamed axioms inserts deletes other → one ≡ other
  one_name inserts deletes (ill.Alone i) (ill.Alone j) h k = let e = same_alone inserts i j h k in λ x. ill.Alone (e x)
  one_name inserts deletes (ill.Alone i) (ill.Pair j k) h m = absurd (m.none_alone i h.here)
  one_name inserts deletes (ill.Alone i) (ill.Entails j d) h m = absurd (m.none_alone i h.here)
  one_name inserts deletes (ill.Pair i j) (ill.Alone k) h m = absurd (h.none_alone k m.here)
  one_name inserts deletes (ill.Pair i j) (ill.Pair k l) h m = let e = same_pair inserts i j k l h m in λ x. ill.Pair (e.0 x) (e.1 x)
  one_name inserts deletes (ill.Pair i j) (ill.Entails k d) h m = absurd (m.no_pair i j h.here)
  one_name inserts deletes (ill.Entails i d) (ill.Alone k) h m = absurd (h.none_alone k m.here)
  one_name inserts deletes (ill.Entails i d) (ill.Pair k l) h m = absurd (h.no_pair k l m.here)
  one_name inserts deletes (ill.Entails i d) (ill.Entails k e) h m =
      let same = first_two_are (EntailsAt axioms inserts deletes) i d k e h.here m.here h.least m.least in
      λ x. ill.Entails (same.0 x) (same.1 x)
