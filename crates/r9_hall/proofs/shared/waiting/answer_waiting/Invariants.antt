use Rattle.r9_desktop.specs.World.{began_of}
use Rattle.r9_hall.proofs.shared.waiting.answer_waiting.Given as goal

abbrev pub ghosts-answer_waiting_lent : goal.ghosts-answer_waiting_lent
ghosts-answer_waiting_lent a = record { began = began_of a.lent.desktop.now; name = a.lent.desktop.ghost_name }
