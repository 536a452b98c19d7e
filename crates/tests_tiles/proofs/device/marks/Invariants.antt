use Rattle.tests_tiles.proofs.device.marks.Given as goal

abbrev pub ghosts-marked_after : goal.ghosts-marked_after
ghosts-marked_after a = record { name = a.blank.name; parts = a.blank.parts }
