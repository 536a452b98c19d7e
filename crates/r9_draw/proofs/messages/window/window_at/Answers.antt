use Rattle.std.proofs.Common.{◌≡◌, ◌/◌, Ok, length, get_or, ap, ◌∙◌, arith}
use Rattle.std.specs.Int.{w32}
use Rattle.model_draw.specs.draw.Moving.{look_window}
use Rattle.r9_device.specs.device.World.{world_of}
use Rattle.r9_draw.specs.messages.Restacking.{group_of, ids_of}
use Rattle.model_draw_parts.proofs.dmsg.Rest.{length-numbers_of}
use Rattle.r9_draw.proofs.messages.Group.{shown-at}
use Rattle.r9_draw.proofs.messages.window.window_at.Goals as goal

pub unreachable-requires : goal.unreachable-requires
unreachable-requires c =
    let ids = ids_of c.args.asked.now in
    let many : length ids ≡ length c.args.asked.now.ids.now / 4 = length-numbers_of w32 _ c.args.asked.now.ids.now in
    let there = shown-at c.args.client (world_of c.args.device.now) ids c.args.k c.requires.windows (let h = c.requires.place in omega (arith, many, h)) in
    let here : look_window (world_of c.args.device.now) c.args.client c.id.result ≡ Ok (get_or (group_of c.args.client (world_of c.args.device.now) c.args.asked.now) c.args.k 0) = ap (λ n. look_window (world_of c.args.device.now) c.args.client n) c.id.ensures ∙ there in
    let refused = c.in-Err.ensures.refused in
    cc

pub returns : goal.returns
returns c =
    let ids = ids_of c.args.asked.now in
    let many : length ids ≡ length c.args.asked.now.ids.now / 4 = length-numbers_of w32 _ c.args.asked.now.ids.now in
    let there = shown-at c.args.client (world_of c.args.device.now) ids c.args.k c.requires.windows (let h = c.requires.place in omega (arith, many, h)) in
    let here : look_window (world_of c.args.device.now) c.args.client c.id.result ≡ Ok (get_or (group_of c.args.client (world_of c.args.device.now) c.args.asked.now) c.args.k 0) = ap (λ n. look_window (world_of c.args.device.now) c.args.client n) c.id.ensures ∙ there in
    let found = c.in-Ok.ensures.found in
    cc
