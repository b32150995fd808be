use Rattle.fact_delta.proofs.delta.DeltaFactSet.has.Given as goal

abbrev pub ghosts-is_in : goal.ghosts-is_in
ghosts-is_in g a = record { name = a.blank.name; parts = a.blank.parts }
