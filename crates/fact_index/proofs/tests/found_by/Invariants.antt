use Rattle.fact_index.proofs.tests.found_by.Given as goal

abbrev pub ghosts-marks : goal.ghosts-marks
ghosts-marks g a = record { name = a.blank.name; parts = a.blank.parts }
