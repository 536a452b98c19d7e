use Rattle.std.proofs.Common.{rules}
use Rattle.r9_lock.proofs.Steps.{looks, looks_none, rests_still}
use Rattle.r9_lock.proofs.shared.Shared.watch.Goals as goal

pub loop-init : goal.loop-init
loop-init g c = record { same = search rules; looks = looks_none c.args.seat.now.me }

pub load-found-requires : goal.load-found-requires
load-found-requires g c = let rests = rests_still c.args.seat.now.me c.loop.seat.me c.loop.invariant.looks c.requires.rests in
    (search rules, search rules, looks g.T.Chronicle.stands g.T.Chronicle.first c.self.inside.table.shared.key _ _ c.loop.seat.me rests.share)
