use Rattle.r9_locate.specs.watched.Watched.{moment_of}
use Rattle.r9_locate.proofs.watched.Since.{since_whole}
use Rattle.r9_locate.proofs.watched.Watched.resumed.Goals as goal

pub invariant_of-result : goal.invariant_of-result
invariant_of-result c = record { since = since_whole (moment_of c.args.self) c.args.plane c.requires }
