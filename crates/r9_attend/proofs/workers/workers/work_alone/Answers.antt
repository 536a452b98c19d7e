use Rattle.std.proofs.Common.{arith}
use Rattle.r9_attend.specs.workers.Shifts.{share_of}
use Rattle.r9_attend.proofs.workers.Halves.{alone_as}
use Rattle.r9_attend.proofs.workers.workers.work_alone.Goals as goal

pub returns : goal.returns
returns g c = alone_as _ g.T.Serves.server (share_of c.args.room.now.sessions c.args.room.now.workers) c.share-share.result c.args.worker c.args.door.now c.serve-report.new.door c.args.pass.now c.split-writer.new.pass c.split-writer.result c.serve-report.new.reader c.serve-report.new.writer c.join.new.pass c.serve-report.result
    c.share-share.ensures (let s = c.requires.can.shares in omega arith) c.split-writer.ensures.kept c.split-writer.ensures.given c.serve-report.ensures c.join.ensures.both c.join.ensures.seen.0 c.join.ensures.seen.1
