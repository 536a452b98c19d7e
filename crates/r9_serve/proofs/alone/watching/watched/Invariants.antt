use Rattle.r9_serve.proofs.alone.watching.watched.Given as goal

abbrev pub ghosts-watch_events : goal.ghosts-watch_events
ghosts-watch_events a = record { name = a.blank.name; parts = a.blank.parts }
