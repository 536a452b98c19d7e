use Rattle.r9_forest.proofs.images.Images.with_view.Given as goal

abbrev pub ghosts-shown : goal.ghosts-shown
ghosts-shown a = record { name = a.blank.name; parts = a.blank.parts }
