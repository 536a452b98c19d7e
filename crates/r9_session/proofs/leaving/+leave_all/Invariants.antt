use Rattle.std.proofs.Common.{length}
use Rattle.r9_session.proofs.leaving.+leave_all.Given as goal

abbrev pub decreases-leave_all : goal.decreases-leave_all
decreases-leave_all g l = length l.connections.now
