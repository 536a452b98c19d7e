use Rattle.r9_device.specs.device.World.{world_of}
use Rattle.r9_draw.proofs.draw.Messages.{listed-rows, same-rows}
use Rattle.r9_draw.proofs.draw.message.one_message.Goals as goal

pub returns-in-Some-clause-rows : goal.returns-in-Some-clause-rows
returns-in-Some-clause-rows g c =
    let w = world_of c.args.device.now in
    same-rows c.args.client w c.args.bytes.now c.args.rows.now c.listed_message.result (listed-rows c.args.client w c.args.bytes.now _ c.in-Some.asked c.in-Some.ensures.found)
