use Rattle.r9_embed.proofs.embedded.Embedded.make.Given as goal

abbrev pub ghosts-made : goal.ghosts-made
ghosts-made a = record { name = a.blank.name; parts = a.blank.parts }
