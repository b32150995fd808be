use Rattle.std.proofs.Common.{[], Some, sym, ap}
use Rattle.dl_text.specs.Going.{stop}
use Rattle.dl_text.specs.Prefixes.{Bindings}
use Rattle.update_read.specs.declared.spots.Spot.TheVariants as spots
use Rattle.update_read.specs.Going.{run_of}
use Rattle.update_read.proofs.progress.Progress.start.Goals as goal

pub returns : goal.returns
returns c theory = (
  [],
  ap (λ (b : Bindings). Some (run_of spots.Start b [])) (sym c.none-prefixes.ensures),
  record { outcomes = []; goes = stop []; inserts = c.new.ensures.inserts; deletes = c.new.ensures.deletes; skipped = c.new.ensures.skipped; triples = c.new.ensures.triples },
)
