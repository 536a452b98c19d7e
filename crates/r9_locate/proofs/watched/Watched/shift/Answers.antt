use Rattle.r9_locate.specs.watched.Watched.{moment_of}
use Rattle.r9_locate.proofs.watched.Since.{since_shifted}
use Rattle.r9_locate.proofs.watched.Watched.shift.Goals as goal

pub invariant_of-self : goal.invariant_of-self
invariant_of-self c =
    let watched = c.args.self.now in
    let shifted = c.shift.ensures in
    record { since = since_shifted (moment_of watched) watched.plane c.shift.new.self c.args.min shifted.rect shifted.pixels shifted.marks watched.since }
