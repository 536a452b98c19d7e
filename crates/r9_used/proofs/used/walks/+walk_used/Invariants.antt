use Rattle.std.proofs.Common.{length}
use Rattle.r9_used.proofs.used.walks.+walk_used.Given as goal

abbrev pub decreases-walk_used : goal.decreases-walk_used
decreases-walk_used g l = length l.names.now
