-- What is not stale meets nothing that changed since its base.
use Rattle.std.proofs.Common.{◌≡◌, ◌<◌, ◌+◌, ℕ, List, Some, length, take, drop, refl, sym, subst, inr, arith}
use Rattle.std.specs.Prelude.{Contains, slice_get}
use Rattle.std.proofs.lemmas.Option.{slice_get_read}
use Rattle.dl_base.specs.declared.axioms.Axiom.{Axiom}
use Rattle.dl_base.specs.declared.requests.Entry.{Entry}
use Rattle.dl_base.specs.declared.requests.Request.{Request}
use Rattle.dl_base.specs.declared.statements.Fact.{Fact}
use Rattle.dl_base.specs.Histories.{IsVersion}
use Rattle.dl_base.specs.Staleness.{IsStale, IsUnreplaced}
use Rattle.dl_base.specs.Transactions.{IsMetBy, NoneMeets, StandsInOne}
use Rattle.dl_base.proofs.HistoryLaws.{version_is_one}
use Rattle.dl_base.proofs.StalenessLaws.{none_replaced}
use Rattle.serial_history.proofs.VersionSteps.{version_split, changed_between, drop_at}

placed : {X : Type 0} (xs : List X) (x : X) → Contains xs x → (k : ℕ) × (slice_get xs k ≡ Some x)
placed xs x m = (m.0, slice_get_read xs (length xs) m.0 x refl m.1 (sym m.2))

module _ (axioms : List Axiom) (facts : List Fact) (entries : List Entry) (base : ℕ) (requests : List Request) (some : 0 < length requests) (fresh : ¬ IsStale axioms entries base requests) where
  -- no fact that stands in one of the versions alone, that of the base and the last, meets a request
  pub none_meets : (old new : List Fact) → IsVersion facts (take base entries) old → IsVersion facts entries new → NoneMeets axioms old new requests
  none_meets old new h k f r one asked meets =
      let split = version_split facts entries base new k in
      let same : old ≡ split.0 = version_is_one facts (take base entries) old split.0 h split.1 in
      let found = changed_between split.0 (drop base entries) new split.2 f (subst (λ (fs : List Fact). StandsInOne fs new f) same one) in
      let e = found.1.0 in
      let c = found.1.1 in
      let at = drop_at entries base found.0 e found.1.2 in
      let place = placed e.changed c found.1.3 in
      let request = placed requests r asked in
      let after : base < base + found.0 + 1 = omega arith in
      let unreplaced : IsUnreplaced entries base (base + found.0 + 1) = λ n x later before is. none_replaced axioms entries base requests fresh some n x later is in
      let met : IsMetBy axioms c.fact r = subst (λ (g : Fact). IsMetBy axioms g r) (sym found.1.4) meets in
      fresh (some, (base + found.0 + 1, place.0, request.0, (after, unreplaced, (e, (base + found.0, refl, at), inr (c, r, place.1, request.1, met)))))
