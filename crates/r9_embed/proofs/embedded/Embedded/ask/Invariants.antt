use Rattle.r9_embed.proofs.embedded.Embedded.ask.Given as goal

abbrev pub ghosts-asked : goal.ghosts-asked
ghosts-asked a = record { name = a.blank.name; parts = a.blank.parts }
