use Rattle.model_draw_parts.specs.images.Ties.{HasTies}
use Rattle.r9_layers.specs.Forest.{world}
use Rattle.r9_device.specs.device.Kept.{IsKept}
use Rattle.r9_device.specs.device.Spare.{AreSpare}
use Rattle.r9_draw.proofs.orders.Ordered.{by-result, kept-window_named, spare-window_named, ties-window_named}
use Rattle.r9_draw.proofs.orders.window.name_window.Goals as goal

pub invariant_of-device-clause-kept : goal.invariant_of-device-clause-kept
invariant_of-device-clause-kept c =
    let before = c.args.device.now in
    by-result (IsKept (world before.forest)) c.tie_window.result before.book.book _ c.tie_window.new.book.book before.kept (kept-window_named (world before.forest) before.book.book c.args.window c.args.name.now before.kept) c.tie_window.ensures.named c.tie_window.ensures.kept

pub invariant_of-device-clause-spare : goal.invariant_of-device-clause-spare
invariant_of-device-clause-spare c =
    let before = c.args.device.now in
    by-result AreSpare c.tie_window.result before.book.book _ c.tie_window.new.book.book before.spare (spare-window_named before.book.book c.args.window c.args.name.now before.spare) c.tie_window.ensures.named c.tie_window.ensures.kept

pub invariant_of-device-clause-ties : goal.invariant_of-device-clause-ties
invariant_of-device-clause-ties c =
    let before = c.args.device.now in
    by-result HasTies c.tie_window.result before.book.book _ c.tie_window.new.book.book before.ties (ties-window_named before.book.book c.args.window c.args.name.now before.ties) c.tie_window.ensures.named c.tie_window.ensures.kept
