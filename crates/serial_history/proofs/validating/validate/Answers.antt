use Rattle.std.proofs.Common.{◌<◌, ◌+◌, length, map, refl, arith}
use Rattle.std.specs.Arc.{arc_value}
use Rattle.dl_base.proofs.StalenessLaws.{first_is_stale}
use Rattle.serial_history.proofs.ValidLaws.{shared_at, none_next, first_met, fresh_past, no_more}
use Rattle.serial_history.proofs.validating.validate.Goals as goal

pub first_stop-requires-clause-sound : goal.first_stop-requires-clause-sound
first_stop-requires-clause-sound c stays =
    let at = shared_at c.args.entries.now c.loop-place.place c.index-entries-place.result c.deref.result.now c.loop-place-test.true c.index-entries-place.is c.deref.ensures in
    let after : c.args.parts.now.base < c.loop-place.place + 1 = omega arith in
    c.requires.sound (c.loop-place.place + 1) c.deref.result.now after c.loop-place.invariant.unreplaced (c.loop-place.place, refl, at) stays

pub returns-in-Some-clause-first : goal.returns-in-Some-clause-first
returns-in-Some-clause-first c =
    let at = shared_at c.args.entries.now c.loop-place.place c.index-entries-place.result c.deref.result.now c.loop-place-test.true c.index-entries-place.is c.deref.ensures in
    let after : c.args.parts.now.base < c.loop-place.place + 1 = omega arith in
    let some : 0 < length c.args.parts.now.recorded = omega arith in
    first_met c.args.conflicts.now.axioms (map arc_value c.args.entries.now) c.args.parts.now.base c.args.parts.now.recorded c.loop-place.place c.deref.result.now at c.loop-place.invariant c.in-Some.at.0 c.in-Some.at.1 some after c.in-Some.ensures.first

pub returns-in-Some-clause-fresh : goal.returns-in-Some-clause-fresh
returns-in-Some-clause-fresh c =
    let at = shared_at c.args.entries.now c.loop-place.place c.index-entries-place.result c.deref.result.now c.loop-place-test.true c.index-entries-place.is c.deref.ensures in
    let after : c.args.parts.now.base < c.loop-place.place + 1 = omega arith in
    let some : 0 < length c.args.parts.now.recorded = omega arith in
    let first = first_met c.args.conflicts.now.axioms (map arc_value c.args.entries.now) c.args.parts.now.base c.args.parts.now.recorded c.loop-place.place c.deref.result.now at c.loop-place.invariant c.in-Some.at.0 c.in-Some.at.1 some after c.in-Some.ensures.first in (
      (λ e. absurd (let no : ⊥ = cc in no)),
      λ fresh. absurd (fresh (first_is_stale c.args.conflicts.now.axioms (map arc_value c.args.entries.now) c.args.parts.now.base c.args.parts.now.recorded (c.loop-place.place + 1) c.in-Some.at.0 c.in-Some.at.1 first)),
    )

pub loop-place-preserved : goal.loop-place-preserved
loop-place-preserved c =
    let at = shared_at c.args.entries.now c.loop-place.place c.index-entries-place.result c.deref.result.now c.loop-place-test.true c.index-entries-place.is c.deref.ensures in
    none_next c.args.conflicts.now.axioms (map arc_value c.args.entries.now) c.args.parts.now.base c.args.parts.now.recorded c.loop-place.place c.deref.result.now at c.loop-place.invariant (c.in_default.ensures.none refl)

pub returns-clause-fresh : goal.returns-clause-fresh
returns-clause-fresh c = (
  (λ e. fresh_past c.args.conflicts.now.axioms (map arc_value c.args.entries.now) c.args.parts.now.base c.args.parts.now.recorded c.loop-place.place (no_more c.args.entries.now c.loop-place.place c.loop-place-test.false) c.loop-place.invariant),
  λ h. refl,
)
