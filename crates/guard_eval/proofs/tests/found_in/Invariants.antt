use Rattle.guard_eval.proofs.tests.found_in.Given as goal

abbrev pub ghosts-texts : goal.ghosts-texts
ghosts-texts a = record { name = a.blank.name; parts = a.blank.parts }
