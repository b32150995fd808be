use Rattle.std.proofs.Common.{List, subst}
use Rattle.std.specs.Prelude.{Contains}
use Rattle.dl_base.specs.declared.statements.Fact.{Fact}
use Rattle.dl_base.specs.Picks.{Picks}
use Rattle.dl_base.specs.Updates.{IsStored}
use Rattle.update_engine.proofs.StepLaws.{Joins, through}
use Rattle.update_engine.proofs.StoreLaws.{stored_is}
use Rattle.update_engine.proofs.storing.stored_after.Goals as goal

pub returns : goal.returns
returns c axioms inserts deletes is_step =
    let old = c.args.facts.now in
    let kept = c.in_ok-kept.kept.items in
    let all = c.in_ok-stored.stored.items in
    let picked = subst (λ (fs : List Fact). Picks (λ f. ¬ Contains fs f) old kept) c.as_slice.ensures.value c.in_ok-kept.ensures in
    let joins = subst (λ (fs : List Fact). Joins kept fs all) c.as_slice-2.ensures.value c.in_ok-stored.ensures in
    record {
      sorted = c.in_ok-sorted_once.ensures.sorted;
      each = through (IsStored axioms old inserts deletes) all c.in_ok-sorted_once.field-0.items c.in_ok-sorted_once.ensures.same (stored_is axioms old inserts deletes c.args.step.now is_step kept all picked joins);
    }
