use Rattle.r9_desktop.proofs.desktop.Desktop.follow.Given as goal

abbrev pub ghosts-obey : goal.ghosts-obey
ghosts-obey a = record { name = a.blank.name; parts = a.blank.parts }
