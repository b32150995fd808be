-- The first changed fact that meets a request.
use Rattle.std.proofs.Common.{◌≡◌, ℕ, ◌<◌, ◌≤◌, ◌+◌, List, Option, Some, None, length, get_or, refl, sym, ◌∙◌, ap, subst, inl, inr, ⊎_elim, arith}
use Rattle.std.specs.Prelude.{Contains, IfSome, slice_get}
use Rattle.std.specs.Option.{option_map}
use Rattle.std.specs.Arc.{arc_value}
use Rattle.std.proofs.lemmas.Bool.{cases_lt}
use Rattle.std.proofs.lemmas.Option.{slice_get_read, slice_get_within, same_Some, get_or_from_slice_get}
use Rattle.dl_base.specs.declared.axioms.Axiom.{Axiom}
use Rattle.dl_base.specs.declared.requests.Changed.{Changed}
use Rattle.dl_base.specs.declared.requests.Entry.{Entry}
use Rattle.dl_base.specs.declared.requests.Request.{Request}
use Rattle.dl_base.specs.Staleness.{IsReplacing}
use Rattle.dl_base.specs.Transactions.{IsMetBy}
use Rattle.read_patterns.specs.Meeting.{IsFirst, MeetsNone}
use Rattle.serial_history.specs.Stopping.{MeetsAt, IsFirstMeeting, NoneMeets, IsFirstStop, LetsPass}

pub one_at : {X : Type 0} (xs : List X) (i : ℕ) (x y : X) → slice_get xs i ≡ Some x → slice_get xs i ≡ Some y → x ≡ y
one_at xs i x y a b = same_Some x y (sym a ∙ b)

pub member_at : {X : Type 0} (xs : List X) (i : ℕ) (x : X) → i < length xs → x ≡ get_or xs i x → Contains xs x
member_at xs i x l e = (i, l, sym e)

module _ (axioms : List Axiom) (requests : List Request) (changed : List Changed) where
  -- no fact before the place meets a request
  abbrev pub NoneBefore : ℕ → Type 0
  NoneBefore n = (b c : ℕ) → b < n → ¬ MeetsAt axioms requests changed b c

  module _ (n : ℕ) (x : Changed) (within : n < length changed) (is : x ≡ get_or changed n x) where
    at : slice_get changed n ≡ Some x
    at = slice_get_read changed (length changed) n x refl within is

    pub found_at : (request : ℕ) → NoneBefore n → IsFirst axioms requests x.fact request → IsFirstMeeting axioms requests changed n request
    found_at request before first = record {
      here = (x, first.here.0, at, first.here.1, first.here.2);
      least = λ b c sooner m. ⊎_elim
          (λ l. before b c l m)
          (λ k. let there : slice_get changed n ≡ Some m.0 = subst (λ (i : ℕ). slice_get changed i ≡ Some m.0) k.0 m.2 in
          first.least c k.1 (m.1, m.3, subst (λ (y : Changed). IsMetBy axioms y.fact m.1) (one_at changed n m.0 x there at) m.4))
          sooner;
    }

    pub next_none : NoneBefore n → MeetsNone axioms requests x.fact → NoneBefore (n + 1)
    next_none before none b c l m = ⊎_elim
        (λ k. before b c k m)
        (λ k. let same : b ≡ n = omega (arith, k, l) in
        let there : slice_get changed n ≡ Some m.0 = subst (λ (i : ℕ). slice_get changed i ≡ Some m.0) same m.2 in
        let short = slice_get_within requests c m.1 m.3 in
        none m.1 (c, short, got requests c m.1 m.3) (subst (λ (y : Changed). IsMetBy axioms y.fact m.1) (one_at changed n m.0 x there at) m.4))
        (cases_lt b n)
      where
        got : (xs : List Request) (i : ℕ) (r : Request) → slice_get xs i ≡ Some r → get_or xs i r ≡ r
        got xs i r e = get_or_from_slice_get xs i r r e

  pub none_past : (n : ℕ) → length changed ≤ n → NoneBefore n → NoneMeets axioms requests changed
  none_past n past before b c m = let short = slice_get_within changed b m.0 m.2 in before b c (omega (arith, past, short)) m

-- an entry without another ontology replaces nothing
pub not_replacing : (e : Entry) → e.replaced ≡ None → ¬ IsReplacing e
not_replacing e none (theory, some) = let k = ap (option_map arc_value) none in let no : ⊥ = cc in no

pub some_map : {A : Type 0} (r : Option A) (P Q : A → Type 0) → ((a : A) → P a → Q a) → IfSome r P → IfSome r Q
some_map None P Q k h = tt
some_map (Some a) P Q k h = k a h

module _ (axioms : List Axiom) (requests : List Request) (e : Entry) where
  -- an entry that replaces the ontology stands in the way at once
  pub replacing_stops : IsReplacing e → IsFirstStop axioms requests e 0 0
  replacing_stops replaces = record {
    here = inl (replaces, refl, refl);
    least = λ b c sooner stop. ⊎_elim (λ l. let no : ⊥ = omega (arith, l) in no) (λ k. let no : ⊥ = omega (arith, k.1) in no) sooner;
  }

  module _ (stays : ¬ IsReplacing e) where
    pub meeting_stops : (place request : ℕ) → IsFirstMeeting axioms requests e.changed place request → IsFirstStop axioms requests e place request
    meeting_stops place request first = record {
      here = inr first.here;
      least = λ b c sooner stop. ⊎_elim (λ k. stays k.0) (λ m. first.least b c sooner m) stop;
    }

    pub none_stops : NoneMeets axioms requests e.changed → LetsPass axioms requests e
    none_stops none b c stop = ⊎_elim (λ k. stays k.0) (λ m. none b c m) stop
