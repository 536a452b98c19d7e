use Rattle.r9_desktop.specs.World.{began_of}
use Rattle.r9_hall.proofs.shared.answering.answer.Given as goal

abbrev pub ghosts-answer_lent : goal.ghosts-answer_lent
ghosts-answer_lent a = record { began = began_of a.lent.desktop.now; name = a.lent.desktop.ghost_name }
