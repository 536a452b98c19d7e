use Rattle.std.proofs.Common.{ℕ, List, ◌^◌, ap, ◌∙◌, arith}
use Rattle.model_text.specs.text.Map.{lookup}
use Rattle.model_draw.specs.draw.World.{Client}
use Rattle.r9_layers.specs.Forest.{world}
use Rattle.r9_device.proofs.device.Kept.{kept-drew}
use Rattle.r9_device.proofs.device.Manager.{manager-with}
use Rattle.r9_device.proofs.device.Rects.{point-wider, wider}
use Rattle.r9_draw.proofs.messages.fonts.load_cell.Goals as goal

pub draw_unmasked-requires-clause-near : goal.draw_unmasked-requires-clause-near
draw_unmasked-requires-clause-near g c = wider (2 ^ 32) (2 ^ 34) c.args.loading.now.r (omega arith) c.requires.ready.near

pub draw_unmasked-requires-clause-source_near : goal.draw_unmasked-requires-clause-source_near
draw_unmasked-requires-clause-source_near g c = point-wider (2 ^ 32) (2 ^ 34) c.args.loading.now.sp (omega arith) c.requires.ready.source_near

pub invariant_of-device-2-clause-kept : goal.invariant_of-device-2-clause-kept
invariant_of-device-2-clause-kept g c =
    let before = c.args.device.now in
    kept-drew c.draw_unmasked.result (world before.forest) (world c.room.new.self) (world c.draw_unmasked.new.self) before.book.book _ before.kept c.requires.ready.cache c.in_ok-room.ensures.same.world c.draw_unmasked.ensures.ok c.draw_unmasked.ensures.err

pub invariant_of-device-2-clause-manager : goal.invariant_of-device-2-clause-manager
invariant_of-device-2-clause-manager g c =
    let before = c.args.device.now in
    ap (λ (es : List (ℕ × Client)). lookup es 0) c.in_ok-set_cell.ensures.ok ∙ manager-with before.clients.entries c.args.client _ c.requires.live before.manager
