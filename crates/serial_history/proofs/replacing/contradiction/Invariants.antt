use Rattle.serial_history.proofs.replacing.contradiction.Given as goal

abbrev pub ghosts-clash_in : goal.ghosts-clash_in
ghosts-clash_in g a = record { name = a.blank.name; parts = a.blank.parts }
