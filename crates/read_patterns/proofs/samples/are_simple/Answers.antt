use Rattle.std.proofs.Common.{◌<◌, length, get_or, take, ap, subst, refl, sym, ◌∙◌, arith}
use Rattle.std.specs.Prelude.{All}
use Rattle.std.proofs.lemmas.List.Elements.{All-more}
use Rattle.std.proofs.lemmas.List.{take_all}
use Rattle.dl_base.specs.Transactions.{IsWell}
use Rattle.dl_base.specs.declared.requests.Request.{Request}
use Rattle.read_patterns.proofs.samples.are_simple.Goals as goal

pub loop-request-preserved : goal.loop-request-preserved
loop-request-preserved c =
    All-more (IsWell c.args.conflicts.now.axioms) c.args.requests.now c.loop-request.request-index c.request-item.result c.loop-request-test.true c.loop-request.invariant
    (subst (IsWell c.args.conflicts.now.axioms) c.request-item.is (c.is_simple.ensures c.if-not-is_simple.false))

pub returns : goal.returns
returns c e = subst (All (IsWell c.args.conflicts.now.axioms)) (take_all c.loop-request.request-index c.args.requests.now c.loop-request-test.false) c.loop-request.invariant
