-- A run with one request more at its end.
use Rattle.std.proofs.Common.{List, [], ◌∷◌, ◌++◌, inl, inr, ◌⊎◌, ⊎_elim}
use Rattle.std.specs.Prelude.{◌↔◌}
use Rattle.dl_base.specs.declared.axioms.Axiom.{Axiom}
use Rattle.dl_base.specs.declared.requests.Request.{Request}
use Rattle.dl_base.specs.declared.statements.Fact.{Fact}
use Rattle.dl_base.specs.Transactions as run
use Rattle.dl_base.specs.Transactions.{Runs, Serves, Puts, Takes, IsPutIn, IsTakenIn, StaysPut, StaysTaken}

module _ (axioms : List Axiom) where
  pub goes_on : {old mid : List Fact} {requests : List Request} {replies : List (List Fact)} (s : Runs axioms old requests replies mid) (r : Request) (reply new : List Fact)
      → Serves axioms r mid reply new → Runs axioms old (requests ++ r ∷ []) (replies ++ reply ∷ []) new
  goes_on (run.done mid) r reply new h = run.then mid new new r [] reply [] h (run.done new)
  goes_on (run.then old next mid q rs answer replies t s) r reply new h = run.then old next new q (rs ++ r ∷ []) answer (replies ++ reply ∷ []) t (goes_on s r reply new h)

  module _ (f : Fact) where
    taken_in : {old mid : List Fact} {requests : List Request} {replies : List (List Fact)} (s : Runs axioms old requests replies mid) (r : Request) (reply new : List Fact) (h : Serves axioms r mid reply new)
        → IsTakenIn axioms (goes_on s r reply new h) f ↔ (IsTakenIn axioms s f ⊎ Takes axioms mid r f)
    unfolding goes_on
    taken_in (run.done mid) r reply new h = ((λ k. ⊎_elim (λ t. inr t) (λ n. absurd n) k), λ k. ⊎_elim (λ n. absurd n) (λ t. inl t) k)
    taken_in (run.then old next mid q rs answer replies t s) r reply new h =
        let rest = taken_in s r reply new h in (
          (λ k. ⊎_elim (λ a. inl (inl a)) (λ b. ⊎_elim (λ c. inl (inr c)) (λ d. inr d) (rest.0 b)) k),
          λ k. ⊎_elim (λ a. ⊎_elim (λ b. inl b) (λ c. inr (rest.1 (inl c))) a) (λ d. inr (rest.1 (inr d))) k,
        )

    put_in : {old mid : List Fact} {requests : List Request} {replies : List (List Fact)} (s : Runs axioms old requests replies mid) (r : Request) (reply new : List Fact) (h : Serves axioms r mid reply new)
        → IsPutIn axioms (goes_on s r reply new h) f ↔ (IsPutIn axioms s f ⊎ Puts axioms mid r f)
    unfolding goes_on
    put_in (run.done mid) r reply new h = ((λ k. ⊎_elim (λ t. inr t) (λ n. absurd n) k), λ k. ⊎_elim (λ n. absurd n) (λ t. inl t) k)
    put_in (run.then old next mid q rs answer replies t s) r reply new h =
        let rest = put_in s r reply new h in (
          (λ k. ⊎_elim (λ a. inl (inl a)) (λ b. ⊎_elim (λ c. inl (inr c)) (λ d. inr d) (rest.0 b)) k),
          λ k. ⊎_elim (λ a. ⊎_elim (λ b. inl b) (λ c. inr (rest.1 (inl c))) a) (λ d. inr (rest.1 (inr d))) k,
        )

    -- what stays put: what did and isn't taken, and what the last request puts
    pub stays_put : {old mid : List Fact} {requests : List Request} {replies : List (List Fact)} (s : Runs axioms old requests replies mid) (r : Request) (reply new : List Fact) (h : Serves axioms r mid reply new)
        → StaysPut axioms (goes_on s r reply new h) f ↔ ((StaysPut axioms s f × ¬ Takes axioms mid r f) ⊎ Puts axioms mid r f)
    unfolding goes_on
    stays_put (run.done mid) r reply new h = ((λ k. ⊎_elim (λ n. absurd n) (λ p. inr p.0) k), λ k. ⊎_elim (λ n. absurd n.0) (λ p. inr (p, λ n. n)) k)
    stays_put (run.then old next mid q rs answer replies t s) r reply new h =
        let rest = stays_put s r reply new h in
        let gone = taken_in s r reply new h in (
          (λ k. ⊎_elim
              (λ a. ⊎_elim (λ b. inl (inl b.0, b.1)) (λ p. inr p) (rest.0 a))
              (λ a. inl (inr (a.0, λ n. a.1 (gone.1 (inl n))), λ n. a.1 (gone.1 (inr n))))
              k),
          λ k. ⊎_elim
              (λ a. ⊎_elim
              (λ b. inl (rest.1 (inl (b, a.1))))
              (λ b. inr (b.0, λ n. ⊎_elim b.1 a.1 (gone.0 n)))
              a.0)
              (λ p. inl (rest.1 (inr p)))
              k,
        )

    -- what stays taken: what did and isn't put, and what the last request takes
    pub stays_taken : {old mid : List Fact} {requests : List Request} {replies : List (List Fact)} (s : Runs axioms old requests replies mid) (r : Request) (reply new : List Fact) (h : Serves axioms r mid reply new)
        → StaysTaken axioms (goes_on s r reply new h) f ↔ ((StaysTaken axioms s f × ¬ Puts axioms mid r f) ⊎ Takes axioms mid r f)
    unfolding goes_on
    stays_taken (run.done mid) r reply new h = ((λ k. ⊎_elim (λ n. absurd n) (λ p. inr p.0) k), λ k. ⊎_elim (λ n. absurd n.0) (λ p. inr (p, λ n. n)) k)
    stays_taken (run.then old next mid q rs answer replies t s) r reply new h =
        let rest = stays_taken s r reply new h in
        let come = put_in s r reply new h in (
          (λ k. ⊎_elim
              (λ a. ⊎_elim (λ b. inl (inl b.0, b.1)) (λ p. inr p) (rest.0 a))
              (λ a. inl (inr (a.0, λ n. a.1 (come.1 (inl n))), λ n. a.1 (come.1 (inr n))))
              k),
          λ k. ⊎_elim
              (λ a. ⊎_elim
              (λ b. inl (rest.1 (inl (b, a.1))))
              (λ b. inr (b.0, λ n. ⊎_elim b.1 a.1 (come.0 n)))
              a.0)
              (λ p. inl (rest.1 (inr p)))
              k,
        )
