use Rattle.std.proofs.Common.{[], ◌∷◌, refl, sym, subst}
use Rattle.dl_base.specs.Clash.{HasClash}
use Rattle.dl_base.specs.declared.requests.Changed.{Changed}
use Rattle.read_patterns.specs.Meeting.{IsFirst, MeetsNone}
use Rattle.serial_history.proofs.StopLaws.{member_at, found_at, next_none, none_past}
use Rattle.serial_history.proofs.validating.first_met.Goals as goal

pub meets-requires-clause-alone : goal.meets-requires-clause-alone
meets-requires-clause-alone c = subst (λ (y : Changed). ¬ HasClash c.args.conflicts.now.axioms (y.fact ∷ [])) c.index-changed-place.is
    (c.requires.sound c.index-changed-place.result (member_at c.args.changed.now c.loop-place.place c.index-changed-place.result c.loop-place-test.true c.index-changed-place.is))

pub returns-in-Some-clause-first : goal.returns-in-Some-clause-first
returns-in-Some-clause-first c =
    found_at c.args.conflicts.now.axioms c.args.recorded.now c.args.changed.now c.loop-place.place c.index-changed-place.result c.loop-place-test.true c.index-changed-place.is c.in-Some.request c.loop-place.invariant
    (subst (λ (y : Changed). IsFirst c.args.conflicts.now.axioms c.args.recorded.now y.fact c.in-Some.request) (sym c.index-changed-place.is) c.in-Some.ensures.first)

pub loop-place-preserved : goal.loop-place-preserved
loop-place-preserved c =
    next_none c.args.conflicts.now.axioms c.args.recorded.now c.args.changed.now c.loop-place.place c.index-changed-place.result c.loop-place-test.true c.index-changed-place.is c.loop-place.invariant
    (subst (λ (y : Changed). MeetsNone c.args.conflicts.now.axioms c.args.recorded.now y.fact) (sym c.index-changed-place.is) (c.in_default.ensures.none.0 refl))

pub returns-clause-none : goal.returns-clause-none
returns-clause-none c e = none_past c.args.conflicts.now.axioms c.args.recorded.now c.args.changed.now c.loop-place.place c.loop-place-test.false c.loop-place.invariant
