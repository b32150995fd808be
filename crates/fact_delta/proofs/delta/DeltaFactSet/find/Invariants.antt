use Rattle.fact_delta.proofs.delta.DeltaFactSet.find.Given as goal

abbrev pub ghosts-found_in : goal.ghosts-found_in
ghosts-found_in g a = record { name = a.blank.name; parts = a.blank.parts }
