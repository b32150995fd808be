use Rattle.std.proofs.Common.{◌≡◌, sym, ◌∙◌, subst}
use Rattle.std.specs.Prelude.{Contains}
use Rattle.std.proofs.lemmas.Map.Views.{btree_set_contains_iff}
use Rattle.dl_base.specs.declared.restriction.Predicate.{Predicate}
use Rattle.dl_base.proofs.PredicateOrder.{predicate_total, predicate_exact}
use Rattle.dl_base.proofs.restriction.has.Goals as goal

pub returns-in-Some : goal.returns-in-Some
returns-in-Some c =
    let iff = btree_set_contains_iff predicate_total predicate_exact c.args.set.now c.in-Some.p in (
      (λ h. (c.in-Some.p, c.in-Some.is, iff.0 (sym c.contains.ensures ∙ h))),
      λ (p, e, m). let same : p ≡ c.in-Some.p = (let is = c.in-Some.is in cc) in c.contains.ensures ∙ iff.1 (subst (λ (z : Predicate). Contains c.args.set.now.keys z) same m),
    )
