use Rattle.std.proofs.Common.{sym, subst, List, ℕ, length, drop, ◌-◌}
use Rattle.dl_runs.specs.Runs.{IsRun}
use Rattle.dl_runs.proofs.CharLaws.{run_none, run_all, run_within}
use Rattle.dl_runs.proofs.StretchLaws.{run_stretch}
use Rattle.dl_runs.proofs.runs.run.Goals as goal

pub loop-behind-init : goal.loop-behind-init
loop-behind-init c = run_none c.args.class c.args.bytes.now

pub loop-behind-preserved : goal.loop-behind-preserved
loop-behind-preserved c = run_stretch c.args.class c.args.bytes.now c.loop-behind.rest.now c.in-Some.behind.now c.loop-behind.invariant c.in-Some.ensures

pub loop-behind-smaller : goal.loop-behind-smaller
loop-behind-smaller c = c.in-Some.ensures.some

pub overflow_sub-bytes : goal.overflow_sub-bytes
overflow_sub-bytes c = run_within c.args.class c.args.bytes.now c.loop-behind.rest.now c.loop-behind.invariant

pub returns : goal.returns
returns c =
    subst (λ (z : List ℕ). IsRun c.args.class c.args.bytes.now c.split_at.result.0.now z) (sym c.split_at.ensures.back)
    (subst (λ (z : List ℕ). IsRun c.args.class c.args.bytes.now z (drop (length c.args.bytes.now - length c.loop-behind.rest.now) c.args.bytes.now)) (sym c.split_at.ensures.front)
    (run_all c.args.class c.args.bytes.now c.loop-behind.rest.now c.loop-behind.invariant c.in_default.ensures))
