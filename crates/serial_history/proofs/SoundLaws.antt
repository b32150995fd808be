-- No fact that an entry of a legal history changed has a clash by itself.
use Rattle.std.proofs.Common.{◌≡◌, ◌<◌, ◌≤◌, ◌+◌, ◌-◌, ◌++◌, ◌∷◌, ℕ, zero, suc, Bool, true, false, List, [], Option, None, Some, length, take, drop, get_or, map, Global, refl, sym, ◌∙◌, ap, subst, arith, append_assoc}
use Rattle.std.specs.Prelude.{Contains, slice_get}
use Rattle.std.specs.Arc.{arc_value}
use Rattle.std.specs.declared.sync.Arc.{Arc}
use Rattle.std.proofs.lemmas.List.{length-map, length-take-le, take-append-le}
use Rattle.std.proofs.lemmas.Option.{slice_get_within, same_Some}
use Rattle.dl_base.specs.declared.requests.Changed.{Changed}
use Rattle.dl_base.specs.declared.requests.Entry.{Entry}
use Rattle.dl_base.specs.declared.statements.Fact.{Fact}
use Rattle.dl_base.specs.Clash.{HasClash, IsConsistent}
use Rattle.dl_base.specs.Histories.{IsLegal, IsNext, IsVersion, in_force, in_force_at, or_before, replacement}
use Rattle.dl_base.specs.Ontologies.{Theory}
use Rattle.dl_base.specs.Staleness.{IsEntry, IsReplacing, IsUnreplaced}
use Rattle.dl_base.specs.Transactions.{IsAfter}
use Rattle.dl_base.proofs.ClashLaws.{clash_more}
use Rattle.dl_base.proofs.HistoryLaws.{in_force_last, legal_is_consistent}
use Rattle.dl_base.proofs.Members.{among}
use Rattle.dl_base.proofs.Places.{get_left, take_left}
use Rattle.dl_base.proofs.StalenessLaws.{still_in_force}
use Rattle.serial_history.specs.Stopping.{AreSound, AreSoundAfter}
use Rattle.serial_history.proofs.ValidLaws.{shared_at}
use Rattle.serial_history.proofs.VersionSteps.{version_push}

-- a list cut at a place
cut_at : {X : Type 0} (xs : List X) (k : ℕ) (x : X) → slice_get xs k ≡ Some x → xs ≡ take k xs ++ x ∷ drop (suc k) xs
cut_at [] k x e = let no : ⊥ = cc in absurd no
cut_at (y ∷ xs) zero x e = ap (λ z. z ∷ xs) (same_Some y x e)
cut_at (y ∷ xs) (suc k) x e = ap (λ zs. y ∷ zs) (cut_at xs k x e)

version_parts : (facts : List Fact) (front back : List Entry) (v : List Fact) → IsVersion facts (front ++ back) v → (mid : List Fact) × IsVersion facts front mid × IsVersion mid back v
version_parts facts [] back v h = (facts, refl, h)
version_parts facts (e ∷ front) back v h = let r = version_parts h.0 front back v h.2 in (r.0, (h.0, h.1, r.1), r.2)

module _ (opening : Theory) (facts : List Fact) where
  legal_prefix : (front back : List Entry) → IsLegal opening facts (front ++ back) → IsLegal opening facts front
  legal_prefix front back legal = record {
    ontology = legal.ontology;
    sorted = legal.sorted;
    known = legal.known;
    consistent = legal.consistent;
    each = λ n x g. subst (λ us. IsNext opening facts us x) (take_left front back n x g) (legal.each n x (get_left front back n x g));
  }

  module _ (theory : Theory) where
    -- a changed fact stands in the version before or after
    stands_beside : (old new : List Fact) (changed : List Changed) → IsAfter old changed new → IsConsistent theory.axioms old → IsConsistent theory.axioms new → (f : Fact) (b : Bool) → Contains changed (record { fact = f; added = b }) → ¬ HasClash theory.axioms (f ∷ [])
    stands_beside old new changed is before after f true m clash = let held = ((is.1.added f).0 m).0 in after (clash_more theory.axioms (f ∷ []) new (among f new held) clash)
    stands_beside old new changed is before after f false m clash = let held = ((is.1.removed f).0 m).0 in before (clash_more theory.axioms (f ∷ []) old (among f old held) clash)

    sound_between : (front rest : List Entry) (e : Entry) (v : List Fact) → IsLegal opening facts (front ++ e ∷ rest) → IsVersion facts (front ++ e ∷ rest) v
        → in_force opening front ≡ theory → in_force opening (front ++ e ∷ []) ≡ theory → AreSound theory.axioms e.changed
    sound_between front rest e v legal h one two c m =
        let p = version_parts facts front (e ∷ rest) v h in
        let next = p.2.0 in
        let is : IsAfter p.0 e.changed next = p.2.1 in
        let before = subst (λ (t : Theory). IsConsistent t.axioms p.0) one (legal_is_consistent opening facts front (legal_prefix front (e ∷ rest) legal) p.0 p.1) in
        let front_next = subst (IsLegal opening facts) (sym (append_assoc front (e ∷ []) rest)) legal in
        let after = subst (λ (t : Theory). IsConsistent t.axioms next) two (legal_is_consistent opening facts (front ++ e ∷ []) (legal_prefix (front ++ e ∷ []) rest front_next) next (version_push facts front e p.0 next p.1 is)) in
        stands_beside p.0 next e.changed is before after c.fact c.added m

-- an entry that doesn't replace the ontology leaves it in force
stays_in_force : (opening : Theory) (front : List Entry) (e : Entry) → ¬ IsReplacing e → in_force opening (front ++ e ∷ []) ≡ in_force opening front
stays_in_force opening front e stays = in_force_last opening front e ∙ left (replacement e) refl
  where
    left : (o : Option Theory) → replacement e ≡ o → or_before o (in_force opening front) ≡ in_force opening front
    left None is = refl
    left (Some later) is = absurd (stays (later, is))

module _ (opening : Theory) (entries front rest : List Entry) (base : ℕ) (same : entries ≡ front ++ rest) (within : base ≤ length front) where
  in_front : (n : ℕ) (x : Entry) → IsEntry front n x → IsEntry entries n x × (n ≤ length front)
  in_front n x is =
      let short = slice_get_within front is.0 x is.2 in
      let number = is.1 in
      ((is.0, is.1, subst (λ (es : List Entry). slice_get es is.0 ≡ Some x) (sym same) (get_left front rest is.0 x is.2)), omega (arith, short, number))

  -- the ontology of the base is in force until an entry replaces it
  still_after : IsUnreplaced entries base (length front + 1) → in_force opening front ≡ in_force_at opening entries base
  still_after unreplaced =
      sym (still_in_force opening front base (λ n x after is. let k = in_front n x is in let before : n < length front + 1 = (let short = k.1 in omega (arith, short)) in unreplaced n x after before k.0))
      ∙ ap (in_force opening) (sym (ap (take base) same ∙ take-append-le base front rest within))

-- no fact that was changed before a replacement has a clash by itself
pub sound_after : (opening : Theory) (facts : List Fact) (entries : List Entry) (version : List Fact) → IsLegal opening facts entries → IsVersion facts entries version
    → (base : ℕ) → AreSoundAfter (in_force_at opening entries base).axioms entries base
sound_after opening facts entries version legal stands base n e after unreplaced is stays =
    let same = cut_at entries is.0 e is.2 in
    let front = take is.0 entries in
    let rest = drop (suc is.0) entries in
    let short = slice_get_within entries is.0 e is.2 in
    let number = is.1 in
    let long : length front ≡ is.0 = length-take-le is.0 entries (omega (arith, short)) in
    let one = still_after opening entries front (e ∷ rest) base same (omega (arith, after, number, long))
    (subst (IsUnreplaced entries base) (let k : n ≡ length front + 1 = omega (arith, number, long) in k) unreplaced) in
    sound_between opening facts (in_force_at opening entries base) front rest e version (subst (IsLegal opening facts) same legal) (subst (λ (es : List Entry). IsVersion facts es version) same stands)
    one (stays_in_force opening front e stays ∙ one)

-- the entry that is handed out is the one of that number
pub entry_at : (shared : List (Arc Entry Global)) (entries : List Entry) (n : ℕ) (a : Arc Entry Global) (e : Entry) → map arc_value shared ≡ entries → IsEntry entries n e → a ≡ get_or shared (n - 1) a → IsEntry entries n (arc_value a)
entry_at shared entries n a e same is at =
    let short = slice_get_within entries is.0 e is.2 in
    let number = is.1 in
    let long : length shared ≡ length entries = sym (length-map shared arc_value) ∙ ap length same in
    let within : n - 1 < length shared = omega (arith, short, number, long) in
    let back : n ≡ n - 1 + 1 = omega (arith, number) in
    (n - 1, back, subst (λ (es : List Entry). slice_get es (n - 1) ≡ Some (arc_value a)) same (shared_at shared (n - 1) a (arc_value a) within at refl))
