-- The first entry that stands in the way of a transaction.
use Rattle.std.proofs.Common.{◌≡◌, ℕ, ◌<◌, ◌≤◌, ◌+◌, List, Some, length, get_or, map, Global, refl, sym, ◌∙◌, ap, subst, inl, ⊎_elim, arith}
use Rattle.std.specs.Prelude.{slice_get}
use Rattle.std.specs.Arc.{arc_value}
use Rattle.std.specs.Option.{option_map}
use Rattle.std.specs.declared.sync.Arc.{Arc}
use Rattle.std.proofs.lemmas.Bool.{cases_lt}
use Rattle.std.proofs.lemmas.Option.{slice_get_within, slice_get_read, slice_get-map}
use Rattle.std.proofs.lemmas.List.{length-map}
use Rattle.dl_base.specs.declared.axioms.Axiom.{Axiom}
use Rattle.dl_base.specs.declared.requests.Entry.{Entry}
use Rattle.dl_base.specs.declared.requests.Request.{Request}
use Rattle.dl_base.specs.Staleness.{IsEntry, IsReplacing, IsUnreplaced, IsPassedBy, IsStale, IsFirstMet}
use Rattle.serial_history.specs.Stopping.{StopsAt, IsFirstStop, LetsPass}
use Rattle.serial_history.proofs.StopLaws.{one_at}

-- the entry at a place of a list of shared entries
pub shared_at : (shared : List (Arc Entry Global)) (i : ℕ) (a : Arc Entry Global) (e : Entry) → i < length shared → a ≡ get_or shared i a → e ≡ arc_value a → slice_get (map arc_value shared) i ≡ Some e
shared_at shared i a e within is same = slice_get-map arc_value shared i ∙ ap (option_map arc_value) (slice_get_read shared (length shared) i a refl within is) ∙ ap Some (sym same)

pub no_more : (shared : List (Arc Entry Global)) (n : ℕ) → length shared ≤ n → length (map arc_value shared) ≤ n
no_more shared n past = let same = length-map shared arc_value in omega (arith, past, same)

module _ (axioms : List Axiom) (entries : List Entry) (base : ℕ) (requests : List Request) where
  -- no entry before this number replaces the ontology or stands in the way
  pub record NonePassed (n : ℕ) : Type 0 where
    pub unreplaced : IsUnreplaced entries base n
    pub none : (a b c : ℕ) → a < n → ¬ IsPassedBy axioms entries base requests a b c

  pub none_at_base : (n : ℕ) → n ≤ base + 1 → NonePassed n
  none_at_base n l = record {
    unreplaced = λ k e after before is replaces. omega (arith, l, after, before);
    none = λ a b c before h. let after = h.0 in omega (arith, l, after, before);
  }

  same_entry : (p n : ℕ) (e x : Entry) → slice_get entries p ≡ Some e → n ≡ p + 1 → IsEntry entries n x → x ≡ e
  same_entry p n e x at same is =
      let place : is.0 ≡ p = (let k = is.1 in omega (arith, k, same)) in
      one_at entries p x e (subst (λ (i : ℕ). slice_get entries i ≡ Some x) place is.2) at

  module _ (p : ℕ) (e : Entry) (at : slice_get entries p ≡ Some e) (passed : NonePassed (p + 1)) where
    pub none_next : LetsPass axioms requests e → NonePassed (p + 1 + 1)
    none_next passes = record {
      unreplaced = λ n x after before is replaces. ⊎_elim
          (λ l. passed.unreplaced n x after l is replaces)
          (λ l. let same : n ≡ p + 1 = omega (arith, l, before) in
          passes 0 0 (inl (subst IsReplacing (same_entry p n e x at same is) replaces, refl, refl)))
          (cases_lt n (p + 1));
      none = λ a b c before h. ⊎_elim
          (λ l. passed.none a b c l h)
          (λ l. let same : a ≡ p + 1 = omega (arith, l, before) in
          passes b c (subst (λ (x : Entry). StopsAt axioms requests x b c) (same_entry p a e h.2.0 at same h.2.1) h.2.2))
          (cases_lt a (p + 1));
    }

    pub first_met : (place request : ℕ) → 0 < length requests → base < p + 1 → IsFirstStop axioms requests e place request → IsFirstMet axioms entries base requests (p + 1) place request
    first_met place request some after first = record {
      some = some;
      here = (after, passed.unreplaced, (e, (p, refl, at), first.here));
      least = λ a b c sooner h. ⊎_elim
          (λ l. passed.none a b c l h)
          (λ k. first.least b c k.1 (subst (λ (x : Entry). StopsAt axioms requests x b c) (same_entry p a e h.2.0 at k.0 h.2.1) h.2.2))
          sooner;
    }

  pub fresh_past : (p : ℕ) → length entries ≤ p → NonePassed (p + 1) → ¬ IsStale axioms entries base requests
  fresh_past p past passed stale =
      let h = stale.1.3 in
      let is = h.2.1 in
      let short = slice_get_within entries is.0 h.2.0 is.2 in
      let number = is.1 in
      passed.none stale.1.0 stale.1.1 stale.1.2 (omega (arith, past, short, number)) h
