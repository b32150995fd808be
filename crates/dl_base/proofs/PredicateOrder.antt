-- The order of predicates is total and tells any two apart.
use Rattle.std.proofs.Common.{◌≡◌, ℕ, ap}
use Rattle.std.specs.Cmp.{IsTotalOrder}
use Rattle.std.specs.declared.cmp.Ordering.{Ordering}
use Rattle.std.specs.declared.cmp.Ordering.TheVariants.{Equal}
use Rattle.std.proofs.lemmas.Map.Lookups.{exact_unsigned}
use Rattle.dl_base.specs.FactOrder.{term_cmp}
use Rattle.dl_base.specs.declared.restriction.Predicate.{Predicate}
use Rattle.dl_base.specs.declared.restriction.Predicate.TheVariants as predicate
use Rattle.dl_base.specs.declared.terms.Term.{Term}
use Rattle.dl_base.specs.contracts.restriction.PredicateOrd.TheImpl.Laws as law
use Rattle.dl_base.specs.contracts.restriction.PredicateOrd.TheImpl as ord

abbrev pub predicate_cmp : Predicate → Predicate → Ordering
predicate_cmp = ord.ghosts.cmp

pub predicate_total : IsTotalOrder predicate_cmp
predicate_total = law.total-law

exact_terms : (p q : Term) → term_cmp p q ≡ Equal → p ≡ q
exact_terms p q h = ap (λ (n : ℕ). record { 0 = n }) (exact_unsigned p.0 q.0 h)

pub predicate_exact : (p q : Predicate) → predicate_cmp p q ≡ Equal → p ≡ q
predicate_exact (predicate.Role p) (predicate.Role q) h = λ i. predicate.Role (exact_terms p q h i)
predicate_exact (predicate.Attr p) (predicate.Attr q) h = λ i. predicate.Attr (exact_terms p q h i)
predicate_exact (predicate.Role p) (predicate.Attr q) h = cc
predicate_exact (predicate.Attr p) (predicate.Role q) h = cc
