use Rattle.std.proofs.Common.{List, sym, subst}
use Rattle.dl_base.specs.declared.requests.Changed.{Changed}
use Rattle.serial_history.specs.Stopping.{AreSound, IsFirstMeeting, NoneMeets}
use Rattle.serial_history.proofs.StopLaws.{not_replacing, some_map, meeting_stops, none_stops}
use Rattle.serial_history.proofs.validating.first_stop.Goals as goal

pub first_met-requires-clause-sound : goal.first_met-requires-clause-sound
first_met-requires-clause-sound c =
    subst (AreSound c.args.conflicts.now.axioms) (sym c.as_slice.ensures) (c.requires.sound (not_replacing c.args.entry.now c.in_default.is))

pub returns-clause-first : goal.returns-clause-first
returns-clause-first c = some_map c.first_met.result _ _
    (λ at first. meeting_stops c.args.conflicts.now.axioms c.args.recorded.now c.args.entry.now (not_replacing c.args.entry.now c.in_default.is) at.0 at.1
    (subst (λ (cs : List Changed). IsFirstMeeting c.args.conflicts.now.axioms c.args.recorded.now cs at.0 at.1) c.as_slice.ensures first))
    c.first_met.ensures.first

pub returns-clause-none : goal.returns-clause-none
returns-clause-none c e =
    none_stops c.args.conflicts.now.axioms c.args.recorded.now c.args.entry.now (not_replacing c.args.entry.now c.in_default.is)
    (subst (NoneMeets c.args.conflicts.now.axioms c.args.recorded.now) c.as_slice.ensures (c.first_met.ensures.none e))
