use Rattle.r9_isol.proofs.isol.desktop.Desktop.note.Given as goal

abbrev pub ghosts-obey : goal.ghosts-obey
ghosts-obey a = record { name = a.blank.name; parts = a.blank.parts }
