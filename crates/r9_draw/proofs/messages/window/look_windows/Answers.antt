use Rattle.std.proofs.Common.{◌≡◌, ◌<◌, ◌/◌, Err, length, rules, arith}
use Rattle.std.specs.Int.{w32}
use Rattle.model_draw.specs.draw.Moving.{look_windows}
use Rattle.r9_device.specs.device.World.{world_of}
use Rattle.r9_draw.specs.messages.Restacking.{ids_of}
use Rattle.model_draw_parts.proofs.dmsg.Rest.{length-numbers_of}
use Rattle.r9_draw.proofs.messages.Group.{show-all, show-further, show-refused}
use Rattle.r9_draw.proofs.messages.window.look_windows.Goals as goal

pub returns-in_err-look_window-clause-refused : goal.returns-in_err-look_window-clause-refused
returns-in_err-look_window-clause-refused c =
    let w = world_of c.args.device.now in
    let ids = ids_of c.args.asked.now in
    let many : length ids ≡ length c.args.asked.now.ids.now / 4 = length-numbers_of w32 _ c.args.asked.now.ids.now in
    let below : c.loop-k.k < length ids = (let e = c.len-k-end.ensures in let t = c.loop-k-test.true in omega (arith, many, e, t)) in
    let e : look_windows w c.args.client ids ≡ Err c.in_err-look_window.field-0.0 =
    show-refused c.args.client w ids c.loop-k.k c.id.result _ below c.id.ensures c.loop-k.invariant c.in_err-look_window.ensures.refused in
    search rules

pub loop-k-preserved : goal.loop-k-preserved
loop-k-preserved c = show-further c.args.client (world_of c.args.device.now) (ids_of c.args.asked.now) c.loop-k.k c.id.result _ c.id.ensures c.in_ok-look_window.ensures.found c.loop-k.invariant

pub returns-clause-found : goal.returns-clause-found
returns-clause-found c =
    let ids = ids_of c.args.asked.now in
    let many : length ids ≡ length c.args.asked.now.ids.now / 4 = length-numbers_of w32 _ c.args.asked.now.ids.now in
    show-all c.args.client (world_of c.args.device.now) ids (λ j below. c.loop-k.invariant j (let e = c.len-k-end.ensures in let t = c.loop-k-test.false in omega (arith, many, e, t, below)))
