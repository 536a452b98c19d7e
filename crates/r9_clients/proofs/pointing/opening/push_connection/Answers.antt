use Rattle.std.proofs.Common.{◌++◌, arith}
use Rattle.model_clients.specs.client.Files.{to_data, to_new}
use Rattle.r9_clients.specs.saying.Lines.{IsSaid, opens}
use Rattle.r9_clients.proofs.saying.Fits.{to_data_said, to_new_said}
use Rattle.r9_clients.proofs.saying.Said.{on_ok_then, said_more, said_opens_as}
use Rattle.r9_clients.proofs.pointing.opening.push_connection.Goals as goal

pub push_opens-requires : goal.push_opens-requires
push_opens-requires c = to_new_said 3 c.in_ok-new.new (omega arith) c.in_ok-new.ensures

pub push_opens-requires-2 : goal.push_opens-requires-2
push_opens-requires-2 c = to_data_said 4 c.in_ok-data.data (omega arith) c.in_ok-data.ensures

pub returns : goal.returns
returns c =
    let before = c.args.out.now in
    let between = c.push_opens.new.out in
    let after = c.push_opens-2.new.out in
    let new = said_opens_as c.in_ok-new.new to_new 3 2 before between c.in_ok-new.ensures c.in_ok-push_opens.ensures in
    on_ok_then c.push_opens-2.result (IsSaid between after (opens c.in_ok-data.data 4 2)) (IsSaid before after (opens to_new 3 2 ++ opens to_data 4 2))
    (λ said. said_more (opens to_new 3 2) (opens to_data 4 2) before between after new (said_opens_as c.in_ok-data.data to_data 4 2 between after c.in_ok-data.ensures said))
    c.push_opens-2.ensures
