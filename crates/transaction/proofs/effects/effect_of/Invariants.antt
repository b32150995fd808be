use Rattle.transaction.proofs.effects.effect_of.Given as goal

abbrev pub ghosts-stepped : goal.ghosts-stepped
ghosts-stepped g a = record { name = a.blank.name; parts = a.blank.parts }
