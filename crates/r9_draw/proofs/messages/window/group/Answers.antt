use Rattle.std.proofs.Common.{◌≡◌, ◌/◌, List, length, map, ap, ◌∙◌, arith}
use Rattle.std.specs.Int.{w32}
use Rattle.std.proofs.lemmas.List.{take_all}
use Rattle.r9_locate.specs.declared.info.ImageNo.{ImageNo}
use Rattle.r9_device.specs.device.World.{world_of}
use Rattle.r9_draw.specs.messages.Restacking.{group_of, ids_of}
use Rattle.model_draw_parts.proofs.dmsg.Rest.{length-numbers_of}
use Rattle.r9_draw.proofs.messages.Group.{numbers-further, shown-length}
use Rattle.r9_draw.proofs.messages.window.group.Goals as goal

pub loop-k-preserved : goal.loop-k-preserved
loop-k-preserved c =
    let world = world_of c.args.device.now in
    let group = group_of c.args.client world c.args.asked.now in
    let many : length group ≡ length c.args.asked.now.ids.now / 4 = shown-length c.args.client world (ids_of c.args.asked.now) c.requires ∙ length-numbers_of w32 _ c.args.asked.now.ids.now in
    let end = c.len-k-end.ensures in
    let below = c.loop-k-test.true in
    ap (λ (xs : List ImageNo). map (λ i. i.0) xs) c.in_ok-push.ensures.items ∙ numbers-further c.loop-k.group.items group c.loop-k.k c.window_at.result (omega (arith, many, end, below)) c.window_at.ensures c.loop-k.invariant

pub returns : goal.returns
returns c =
    let world = world_of c.args.device.now in
    let group = group_of c.args.client world c.args.asked.now in
    let many : length group ≡ length c.args.asked.now.ids.now / 4 = shown-length c.args.client world (ids_of c.args.asked.now) c.requires ∙ length-numbers_of w32 _ c.args.asked.now.ids.now in
    let end = c.len-k-end.ensures in
    let above = c.loop-k-test.false in
    c.loop-k.invariant ∙ take_all c.loop-k.k group (omega (arith, many, end, above))
