use Rattle.r9_serve.proofs.mirroring.run.mirror_input.Given as goal

abbrev pub ghosts-put_frames : goal.ghosts-put_frames
ghosts-put_frames g a = record { name = a.blank.name; parts = a.blank.parts }
