use Rattle.std.proofs.Common.{pos}
use Rattle.model_clients.specs.client.Messages.{point}
use Rattle.r9_clients.proofs.drawing.Joins.{then_added}
use Rattle.r9_clients.proofs.drawing.fields.put_area.Goals as goal

pub returns : goal.returns
returns c =
    let r = c.args.r in
    then_added c.put_place-2.result c.args.out.now c.put_place.new.out c.put_place-2.new.out (point (record { x = pos r.left; y = pos r.upper })) (point (record { x = pos r.right; y = pos r.lower })) c.in_ok-put_place.ensures c.put_place-2.ensures
