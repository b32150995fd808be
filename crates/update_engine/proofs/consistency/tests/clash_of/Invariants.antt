use Rattle.update_engine.proofs.consistency.tests.clash_of.Given as goal

abbrev pub ghosts-clash_in : goal.ghosts-clash_in
ghosts-clash_in g a = record { name = a.blank.name; parts = a.blank.parts }
