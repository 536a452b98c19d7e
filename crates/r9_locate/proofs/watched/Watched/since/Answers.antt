use Rattle.r9_locate.proofs.watched.Since.{marks_most}
use Rattle.r9_locate.proofs.watched.Watched.since.Goals as goal

pub returns-clause-most : goal.returns-clause-most
returns-clause-most c = marks_most c.args.self.now.plane
