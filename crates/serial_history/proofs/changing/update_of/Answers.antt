use Rattle.serial_history.proofs.UpdateLaws.{apart_at, fits_at, update_at, sorted_at}
use Rattle.serial_history.proofs.changing.update_of.Goals as goal

pub marked-requires-clause-sorted : goal.marked-requires-clause-sorted
marked-requires-clause-sorted g c = sorted_at (g.V.FactSet.facts c.args.version.now) c.as_slice-2.result.now c.args.parts.now.removed.items c.in_ok-gone.gone.items c.as_slice-3.result.now c.as_slice-2.ensures.value c.as_slice-3.ensures.value c.in_ok-gone.ensures c.requires

pub marked-requires-clause-apart : goal.marked-requires-clause-apart
marked-requires-clause-apart g c =
    apart_at (g.V.FactSet.facts c.args.version.now) c.as_slice.result.now c.as_slice-2.result.now c.in_ok-come.come.items c.in_ok-gone.gone.items c.as_slice-4.result.now c.as_slice-3.result.now c.as_slice-4.ensures.value c.as_slice-3.ensures.value c.in_ok-come.ensures c.in_ok-gone.ensures

pub with_change-requires : goal.with_change-requires
with_change-requires g c = record {
  fits = fits_at (g.V.FactSet.facts c.args.version.now) c.as_slice.result.now c.as_slice-2.result.now c.in_ok-come.come.items c.in_ok-gone.gone.items c.as_slice-4.result.now c.as_slice-3.result.now c.as_slice-4.ensures.value c.as_slice-3.ensures.value c.in_ok-come.ensures c.in_ok-gone.ensures
      c.in_ok-changed.changed c.as_slice-5.result.now c.as_slice-5.ensures c.in_ok-changed.ensures;
}

pub returns : goal.returns
returns g c =
    update_at (g.V.FactSet.facts c.args.version.now) c.as_slice.result.now c.as_slice-2.result.now c.in_ok-come.come.items c.in_ok-gone.gone.items c.as_slice-4.result.now c.as_slice-3.result.now c.as_slice-4.ensures.value c.as_slice-3.ensures.value c.in_ok-come.ensures c.in_ok-gone.ensures
    c.in_ok-changed.changed c.as_slice-5.result.now c.as_slice-5.ensures c.in_ok-changed.ensures (g.V.Versions.layers c.args.version.now) c.args.parts.now (g.V.FactSet.facts c.in_ok-next.next) (g.V.Versions.layers c.in_ok-next.next) c.as_slice.ensures.value c.as_slice-2.ensures.value
    c.in_ok-next.ensures.changed c.in_ok-next.ensures.sorted c.in_ok-next.ensures.trimmed
