use Rattle.r9_attend.proofs.workers.Halves.{one_more_fits}
use Rattle.r9_attend.proofs.workers.workers.share.Goals as goal

pub overflow_add-result : goal.overflow_add-result
overflow_add-result c = record { fits = one_more_fits c.args.sessions c.args.workers c.args.worker c.requires.0 c.requires.1 c.if-worker-sessions.true c.ranges.sessions.fits }
