use Rattle.std.proofs.Common.{length}
use Rattle.r9_session.proofs.session.Session.+walk_names.Given as goal

abbrev pub decreases-walk_names : goal.decreases-walk_names
decreases-walk_names g l = length l.names.now
