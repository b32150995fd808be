use Rattle.std.proofs.Common.{◌≡◌, Some, sym, ◌∙◌, ap, inl, inr, ⊎_elim}
use Rattle.dl_base.proofs.PredicateOrder.{predicate_total, predicate_exact}
use Rattle.dl_base.proofs.SetLaws.{inserted}
use Rattle.dl_base.proofs.restriction.note.Goals as goal

pub returns-in_ok-insert : goal.returns-in_ok-insert
returns-in_ok-insert c = λ p.
    let both = inserted predicate_total predicate_exact c.args.set.now c.insert.new.self c.in-Some.p c.in_ok-insert.ensures.updates.0 p in (
      (λ m. ⊎_elim (λ e. inl (c.in-Some.is ∙ ap Some (sym e))) inr (both.0 m)),
      λ s. both.1 (⊎_elim (λ e. let same : p ≡ c.in-Some.p = (let is = c.in-Some.is in cc) in inl same) inr s),
    )
