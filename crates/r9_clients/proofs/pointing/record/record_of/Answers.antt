use Rattle.std.proofs.Common.{arith}
use Rattle.r9_clients.proofs.pointing.Recorded.{recorded}
use Rattle.r9_clients.proofs.pointing.record.record_of.Goals as goal

pub returns : goal.returns
returns c =
    recorded c.args.events.now c.in_ok-out.out c.push_opening.new.out c.push_events.new.out c.in_ok-out.ensures c.in_ok-push_opening.ensures c.in_ok-push_events.ensures
    (c.desk_histories_are_piloted.ensures c.args.events.now c.requires.events (let few = c.requires.few in omega (arith, few)))
