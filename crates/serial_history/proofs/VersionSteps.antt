-- Versions between two places of a history, and after one entry more.
use Rattle.std.proofs.Common.{◌≡◌, ◌+◌, ℕ, zero, suc, List, [], ◌∷◌, ◌++◌, Some, take, drop, refl, sym, ◌∙◌, ap, subst, inl, inr, ⊎_elim, arith, append_assoc}
use Rattle.std.specs.Prelude.{Contains, slice_get}
use Rattle.dl_base.specs.declared.requests.Changed.{Changed}
use Rattle.dl_base.specs.declared.requests.Entry.{Entry}
use Rattle.dl_base.specs.declared.statements.Fact.{Fact}
use Rattle.dl_base.specs.Changing.{IsTrimmed, added, removed}
use Rattle.dl_base.specs.Histories.{IsVersion}
use Rattle.dl_base.specs.Transactions.{IsAfter, StandsInOne}
use Rattle.dl_base.proofs.HistoryLaws.{after_within}
use Rattle.dl_base.proofs.SameFacts.{fact_in_or_not, same_facts}
use Rattle.serial_history.specs.States.{AreVersions, AreLastVersions}

-- the version after one entry more
pub version_push : (facts : List Fact) (entries : List Entry) (e : Entry) (old v : List Fact) → IsVersion facts entries old → IsAfter old e.changed v → IsVersion facts (entries ++ e ∷ []) v
version_push facts [] e old v h k = (v, subst (λ (fs : List Fact). IsAfter fs e.changed v) h k, refl)
version_push facts (x ∷ entries) e old v h k = (h.0, h.1, version_push h.0 entries e old v h.2 k)

after_is_one : (old a b : List Fact) (changed : List Changed) → IsAfter old changed a → IsAfter old changed b → a ≡ b
after_is_one old a b changed h k = same_facts a b h.0 k.0 (after_within old a b changed h.1 k.1) (after_within old b a changed k.1 h.1)

-- all versions after one entry more
pub versions_push : (facts : List Fact) (entries : List Entry) (e : Entry) (versions : List (List Fact)) (old v : List Fact) → AreVersions facts entries versions → IsVersion facts entries old → IsAfter old e.changed v
    → AreVersions facts (entries ++ e ∷ []) (versions ++ v ∷ [])
versions_push facts [] e versions old v all h k =
    subst (λ (vs : List (List Fact)). AreVersions facts (e ∷ []) (vs ++ v ∷ [])) (sym all) (refl, (v, subst (λ (fs : List Fact). IsAfter fs e.changed v) h k, refl))
versions_push facts (x ∷ entries) e [] old v all h k = absurd all
versions_push facts (x ∷ entries) e (w ∷ versions) old v all h k =
    (all.0, (all.1.0, all.1.1, versions_push all.1.0 entries e versions old v all.1.2 (subst (λ (n : List Fact). IsVersion n entries old) (same_next h all.1) h.2) k))
  where
    same_next : (a : (next : List Fact) × IsAfter facts x.changed next × IsVersion next entries old) (b : (next : List Fact) × IsAfter facts x.changed next × AreVersions next entries versions) → a.0 ≡ b.0
    same_next a b = after_is_one facts a.0 b.0 x.changed a.1 b.1

-- the layers of the version after one entry more
pub last_versions_push : (facts : List Fact) (entries : List Entry) (e : Entry) (layers after : List (List Fact)) (old v : List Fact) → AreLastVersions facts entries layers → IsVersion facts entries old → IsAfter old e.changed v
    → IsTrimmed layers v after → AreLastVersions facts (entries ++ e ∷ []) after
last_versions_push facts entries e layers after old v all h k trimmed =
    let joined : (all.0 ++ layers) ++ v ∷ [] ≡ (all.0 ++ trimmed.0) ++ after = append_assoc all.0 layers (v ∷ []) ∙ ap (λ (vs : List (List Fact)). all.0 ++ vs) trimmed.1 ∙ sym (append_assoc all.0 trimmed.0 after) in
    (all.0 ++ trimmed.0, subst (AreVersions facts (entries ++ e ∷ [])) joined (versions_push facts entries e (all.0 ++ layers) old v all.1 h k))

-- the version at a place, and the entries from there on
pub version_split : (facts : List Fact) (entries : List Entry) (n : ℕ) (v : List Fact) → IsVersion facts entries v → (old : List Fact) × IsVersion facts (take n entries) old × IsVersion old (drop n entries) v
version_split facts entries zero v h = (facts, refl, h)
version_split facts [] (suc n) v h = (facts, refl, h)
version_split facts (e ∷ entries) (suc n) v h = let r = version_split h.0 entries n v h.2 in (r.0, (h.0, h.1, r.1), r.2)

-- some entry changed the fact
abbrev pub IsChangedAt : List Entry → Fact → ℕ → Type 0
IsChangedAt entries f i = (e : Entry) × (c : Changed) × (slice_get entries i ≡ Some e) × Contains e.changed c × (c.fact ≡ f)

-- a fact that stands in one of two versions alone was changed between them
pub changed_between : (old : List Fact) (entries : List Entry) (new : List Fact) → IsVersion old entries new → (f : Fact) → StandsInOne old new f → (i : ℕ) × IsChangedAt entries f i
changed_between old [] new h f one = ⊎_elim
    (λ k. absurd (k.1 (subst (λ (fs : List Fact). Contains fs f) (sym h) k.0)))
    (λ k. absurd (k.1 (subst (λ (fs : List Fact). Contains fs f) h k.0)))
    one
changed_between old (e ∷ entries) new h f one =
    let later : StandsInOne h.0 new f → (i : ℕ) × IsChangedAt (e ∷ entries) f i = λ k. let r = changed_between h.0 entries new h.2 f k in (suc r.0, r.1) in
    ⊎_elim
    (λ k. ⊎_elim (λ m. later (inl (m, k.1))) (λ n. (0, (e, removed f, refl, (h.1.1.removed f).1 (k.0, n), refl))) (fact_in_or_not h.0 f))
    (λ k. ⊎_elim (λ m. (0, (e, added f, refl, (h.1.1.added f).1 (m, k.1), refl))) (λ n. later (inr (k.0, n))) (fact_in_or_not h.0 f))
    one

pub drop_at : {X : Type 0} (xs : List X) (n i : ℕ) (x : X) → slice_get (drop n xs) i ≡ Some x → slice_get xs (n + i) ≡ Some x
drop_at xs zero i x e = let same : i ≡ 0 + i = omega arith in subst (λ (k : ℕ). slice_get xs k ≡ Some x) same e
drop_at [] (suc n) i x e = let no : ⊥ = cc in absurd no
drop_at (y ∷ xs) (suc n) i x e = let same : suc (n + i) ≡ suc n + i = omega arith in subst (λ (k : ℕ). slice_get (y ∷ xs) k ≡ Some x) same (drop_at xs n i x e)
