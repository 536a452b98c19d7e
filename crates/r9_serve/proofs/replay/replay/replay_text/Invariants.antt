use Rattle.r9_serve.proofs.replay.replay.replay_text.Given as goal

abbrev pub ghosts-replayed : goal.ghosts-replayed
ghosts-replayed a = record { name = a.blank.name; parts = a.blank.parts }
