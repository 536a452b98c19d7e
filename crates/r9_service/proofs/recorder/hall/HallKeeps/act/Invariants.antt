use Rattle.r9_service.proofs.recorder.hall.HallKeeps.act.Given as goal

abbrev pub ghosts-act : goal.ghosts-act
ghosts-act a = record { name = a.blank.name; parts = a.blank.parts }
