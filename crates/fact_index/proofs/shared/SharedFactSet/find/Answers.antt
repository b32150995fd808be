use Rattle.fact_index.proofs.shared.SharedFactSet.find.Goals as goal

pub returns-clause-found : goal.returns-clause-found
returns-clause-found g c = rw (← c.self.view_is) (rw c.deref.ensures at c.in_ok-found.ensures.found)
