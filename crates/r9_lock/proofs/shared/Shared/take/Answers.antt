use Rattle.std.proofs.Common.{rules}
use Rattle.r9_lock.proofs.Steps.{looks_none}
use Rattle.r9_lock.proofs.shared.Shared.take.Goals as goal

pub loop-init : goal.loop-init
loop-init g c = record { same = search rules; looks = looks_none c.args.seat.now.me }
