use Rattle.r9_desktop.proofs.desktop.Desktop.write_data.Given as goal

abbrev pub ghosts-write_counted : goal.ghosts-write_counted
ghosts-write_counted a = record { name = a.blank.name; parts = a.blank.parts }
