use Rattle.std.proofs.Common.{◌≡◌, ◌-◌, [], List, ℕ, length, take, drop, sym, subst, inl, refl}
use Rattle.std.proofs.lemmas.Bool.{false≢true}
use Rattle.update_read.specs.Cutting.{IsLocal}
use Rattle.update_read.proofs.LocalLaws.{local_none, local_more, local_within, local_all, piece_shorter}
use Rattle.dl_runs.specs.declared.runs.Class.TheVariants as classes
use Rattle.update_read.proofs.locals.cut_local.Goals as goal

pub loop-behind-init : goal.loop-behind-init
loop-behind-init c = local_none c.args.bytes.now

pub loop-behind-preserved : goal.loop-behind-preserved
loop-behind-preserved c =
    local_more c.args.bytes.now c.loop-behind.end.now c.loop-behind.rest.now c.in-Some.behind.now c.in-Some.ensures.0 c.end_behind-end.result.now c.loop-behind.invariant c.in-Some.ensures.1 c.end_behind-end.ensures

pub loop-behind-smaller : goal.loop-behind-smaller
loop-behind-smaller c = piece_shorter classes.Local c.loop-behind.rest.now c.in-Some.behind.now c.in-Some.ensures.0 c.in-Some.ensures.1

pub overflow_sub-bytes : goal.overflow_sub-bytes
overflow_sub-bytes c = local_within c.args.bytes.now c.loop-behind.end.now c.loop-behind.rest.now c.loop-behind.invariant

pub returns : goal.returns
returns c =
    subst (λ (z : List ℕ). IsLocal c.args.bytes.now c.split_at-2.result.0.now z) (sym c.split_at-2.ensures.back)
    (subst (λ (z : List ℕ). IsLocal c.args.bytes.now z (drop (length c.args.bytes.now - length c.loop-behind.end.now) c.args.bytes.now)) (sym c.split_at-2.ensures.front)
    (local_all c.args.bytes.now c.loop-behind.end.now c.loop-behind.rest.now (c.begins_local.ensures.0 c.if-not-begins_local.false) c.loop-behind.invariant c.in_default.ensures))
