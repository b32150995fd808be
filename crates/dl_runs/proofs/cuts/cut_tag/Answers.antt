use Rattle.std.proofs.Common.{sym, subst, List, ℕ, length, drop, ◌-◌}
use Rattle.dl_runs.specs.Classes.{IsLongest, IsTag}
use Rattle.dl_runs.proofs.NameLaws.{none_there, some_there}
use Rattle.dl_runs.proofs.TagLaws.{tag_letters, tag_more, tag_all, tag_within, no_tag, subtag_shorter}
use Rattle.dl_runs.proofs.cuts.cut_tag.Goals as goal

pub returns-then-is_empty : goal.returns-then-is_empty
returns-then-is_empty c = no_tag c.args.bytes.now c.run.result.0.now c.run.result.1.now c.run.ensures (none_there c.is_empty.result c.run.result.0.now c.is_empty.ensures c.if-is_empty.true)

pub loop-more-init : goal.loop-more-init
loop-more-init c = tag_letters c.args.bytes.now c.run.result.0.now c.run.result.1.now c.run.ensures (some_there c.is_empty.result c.run.result.0.now c.is_empty.ensures c.if-is_empty.false)

pub loop-more-preserved : goal.loop-more-preserved
loop-more-preserved c = tag_more c.args.bytes.now c.loop-more.rest.now c.in-Some.ensures.0 c.in-Some.more.now c.loop-more.invariant c.in-Some.ensures.1 c.in-Some.ensures.2

pub loop-more-smaller : goal.loop-more-smaller
loop-more-smaller c = subtag_shorter c.loop-more.rest.now c.in-Some.ensures.0 c.in-Some.more.now c.in-Some.ensures.1

pub overflow_sub-bytes : goal.overflow_sub-bytes
overflow_sub-bytes c = tag_within c.args.bytes.now c.loop-more.rest.now c.loop-more.invariant

pub returns : goal.returns
returns c =
    subst (λ (z : List ℕ). IsLongest IsTag c.args.bytes.now c.split_at.result.0.now z) (sym c.split_at.ensures.back)
    (subst (λ (z : List ℕ). IsLongest IsTag c.args.bytes.now z (drop (length c.args.bytes.now - length c.loop-more.rest.now) c.args.bytes.now)) (sym c.split_at.ensures.front)
    (tag_all c.args.bytes.now c.loop-more.rest.now c.loop-more.invariant c.in_default.ensures))
