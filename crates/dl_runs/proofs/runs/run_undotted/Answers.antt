use Rattle.std.proofs.Common.{sym, subst, List, ℕ, length, drop, ◌-◌}
use Rattle.dl_runs.specs.Runs.{IsUndotted}
use Rattle.dl_runs.proofs.DotLaws.{undotted_none, undotted_all, undotted_within}
use Rattle.dl_runs.proofs.StretchLaws.{undotted_stretch}
use Rattle.dl_runs.proofs.runs.run_undotted.Goals as goal

pub loop-behind-init : goal.loop-behind-init
loop-behind-init c = undotted_none c.args.class c.args.bytes.now

pub loop-behind-preserved : goal.loop-behind-preserved
loop-behind-preserved c =
    undotted_stretch c.args.class c.args.bytes.now c.loop-behind.end.now c.loop-behind.rest.now c.in-Some.behind.now c.end_behind-end.result.now c.loop-behind.invariant c.in-Some.ensures c.end_behind-end.ensures

pub loop-behind-smaller : goal.loop-behind-smaller
loop-behind-smaller c = c.in-Some.ensures.some

pub overflow_sub-bytes : goal.overflow_sub-bytes
overflow_sub-bytes c = undotted_within c.args.class c.args.bytes.now c.loop-behind.end.now c.loop-behind.rest.now c.loop-behind.invariant

pub returns : goal.returns
returns c =
    subst (λ (z : List ℕ). IsUndotted c.args.class c.args.bytes.now c.split_at.result.0.now z) (sym c.split_at.ensures.back)
    (subst (λ (z : List ℕ). IsUndotted c.args.class c.args.bytes.now z (drop (length c.args.bytes.now - length c.loop-behind.end.now) c.args.bytes.now)) (sym c.split_at.ensures.front)
    (undotted_all c.args.class c.args.bytes.now c.loop-behind.end.now c.loop-behind.rest.now c.loop-behind.invariant c.in_default.ensures))
