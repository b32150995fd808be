use Rattle.serial_history.proofs.changing.update_of.Given as goal

abbrev pub ghosts-held_as : goal.ghosts-held_as
ghosts-held_as g a = record { name = a.blank.name; parts = a.blank.parts }
