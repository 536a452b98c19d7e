use Rattle.std.proofs.Common.{rules}
use Rattle.r9_lock.proofs.Steps.{looks, tries, looks_once, rests_still}
use Rattle.r9_lock.proofs.shared.Shared.try_take.Goals as goal

pub load-found-requires : goal.load-found-requires
load-found-requires g c = (search rules, search rules, looks g.T.Chronicle.stands g.T.Chronicle.first c.self.inside.table.shared.key _ _ c.args.seat.now.me c.requires.rests.share)

pub compare_exchange-requires : goal.compare_exchange-requires
compare_exchange-requires g c = let me = c.load-found.new.seat.me in
    let rests = rests_still c.args.seat.now.me me (looks_once c.args.seat.now.me me _ c.load-found.ensures.2) c.requires.rests in
    (search rules, search rules, tries g.T.Chronicle.stands g.T.Chronicle.first c.self.inside.table.shared.key _ _ me c.load-found.result c.if-found-eq0.true rests)
