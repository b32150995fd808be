use Rattle.loading.proofs.opening.contradiction.Given as goal

abbrev pub ghosts-clash_by_index : goal.ghosts-clash_by_index
ghosts-clash_by_index a = record { name = a.blank.name; parts = a.blank.parts }
