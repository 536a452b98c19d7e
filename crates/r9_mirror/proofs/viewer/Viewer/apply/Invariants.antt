use Rattle.r9_mirror.proofs.viewer.Viewer.apply.Given as goal

abbrev pub ghosts-put : goal.ghosts-put
ghosts-put a = record { name = a.blank.name; parts = a.blank.parts }
