use Rattle.r9_desktop.specs.World.{began_of}
use Rattle.r9_hall.proofs.shared.leaving.leave.Given as goal

abbrev pub ghosts-leave_lent : goal.ghosts-leave_lent
ghosts-leave_lent a = record { began = began_of a.lent.desktop.now; name = a.lent.desktop.ghost_name }
