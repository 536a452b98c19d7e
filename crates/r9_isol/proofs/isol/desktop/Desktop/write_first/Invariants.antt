use Rattle.r9_isol.proofs.isol.desktop.Desktop.write_first.Given as goal

abbrev pub ghosts-write_first : goal.ghosts-write_first
ghosts-write_first a = record { name = a.blank.name; parts = a.blank.parts }
