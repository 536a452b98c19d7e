use Rattle.r9_isol.proofs.isol.desktop.Desktop.write_all.Given as goal

abbrev pub ghosts-write : goal.ghosts-write
ghosts-write a = record { name = a.blank.name; parts = a.blank.parts }
