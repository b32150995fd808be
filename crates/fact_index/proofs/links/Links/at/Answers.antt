use Rattle.fact_index.specs.Links.{IsIn}
use Rattle.fact_index.proofs.LinkLaws.{found_back}
use Rattle.fact_index.proofs.links.Links.at.Goals as goal

pub returns-in-Forth : goal.returns-in-Forth
returns-in-Forth c = rw (c.in-Forth.is, ← c.self.view_is) c.in_run.ensures

pub returns-in_ok-found-in-Back : goal.returns-in_ok-found-in-Back
returns-in_ok-found-in-Back c =
    rw (c.in-Back.is, ← c.self.view_is)
    (found_back _ _ c.in_ok-turned-in-Back.turned.items c.in_ok-found-in-Back.found.items (IsIn c.in-Back.run') c.self.invariant c.in_ok-turned-in-Back.ensures (rw c.as_slice.ensures.value at c.in_ok-found-in-Back.ensures))
