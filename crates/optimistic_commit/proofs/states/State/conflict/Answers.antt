use Rattle.std.proofs.Common.{◌∙◌, ap, refl, sym, subst}
use Rattle.std.specs.Arc.{arc_value}
use Rattle.dl_base.specs.Staleness.{IsEntry}
use Rattle.serial_history.specs.States.{Seen}
use Rattle.serial_history.proofs.SoundLaws.{entry_at}
use Rattle.optimistic_commit.proofs.states.State.conflict.Goals as goal

pub returns-in-Ok : goal.returns-in-Ok
returns-in-Ok g c editor =
    let same = c.entries.ensures.entries ∙ ap (λ (s : Seen). s.entries) c.self.view_is in
    let met = c.requires.first.here.2 in
    let at : IsEntry c.args.self.now.entries c.args.met.entry (arc_value c.index-entries-met.result) = entry_at c.entries.result.now c.args.self.now.entries c.args.met.entry c.index-entries-met.result met.0 same met.1 c.index-entries-met.is in
    ((c.requires.asked.change, c.requires.room, c.requires.first, refl), subst (IsEntry c.args.self.now.entries c.args.met.entry) (sym c.in-Ok.ensures) at, refl)
