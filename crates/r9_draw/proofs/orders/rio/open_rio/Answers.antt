use Rattle.std.proofs.Common.{◌≡◌, ℕ, true, false, ap, ◌∙◌}
use Rattle.std.specs.Prelude.{is_some}
use Rattle.model_draw_parts.specs.images.Book.{fill_of, screen_numbered}
use Rattle.r9_layers.specs.Forest.{world}
use Rattle.r9_device.specs.device.World.{world_of}
use Rattle.r9_draw.proofs.orders.Fitting.{kept-tried, rio-fill, rio-there, spare-tried}
use Rattle.r9_device.proofs.device.Ties.{ties-made_screen}
use Rattle.r9_draw.proofs.orders.rio.open_rio.Goals as goal

pub fill_of-fill-requires : goal.fill_of-fill-requires
fill_of-fill-requires c =
    let w = world_of c.args.device.now in
    ap (λ (s : ℕ). is_some (screen_numbered w.book s)) c.rio_screen.ensures ∙ rio-there w 0 c.args.device.now.kept c.requires

pub invariant_of-device-clause-kept : goal.invariant_of-device-clause-kept
invariant_of-device-clause-kept c =
    let before = c.args.device.now in
    let w = world_of before in
    let live : is_some (w.images c.fill_of-fill.result) ≡ true =
    ap (λ (n : ℕ). is_some (w.images n)) (c.fill_of-fill.ensures ∙ ap (fill_of w.book) c.rio_screen.ensures) ∙ rio-fill w 0 before.kept c.requires in
    kept-tried c.new_screen.result (world before.forest) before.book.book c.new_screen.new.self.book c.args.window c.image_shown-image.result.0 c.fill_of-fill.result before.kept before.spare c.image_shown-image.ensures.live live
    c.new_screen.ensures.made c.new_screen.ensures.kept

pub invariant_of-device-clause-spare : goal.invariant_of-device-clause-spare
invariant_of-device-clause-spare c =
    let before = c.args.device.now in
    spare-tried c.new_screen.result before.book.book c.new_screen.new.self.book c.args.window c.image_shown-image.result.0 c.fill_of-fill.result before.spare c.new_screen.ensures.made c.new_screen.ensures.kept

pub invariant_of-device-clause-ties : goal.invariant_of-device-clause-ties
invariant_of-device-clause-ties c =
    let before = c.args.device.now in
    ties-made_screen c.new_screen.result before.book.book c.new_screen.new.self.book 0 c.args.window false c.image_shown-image.result.0 c.fill_of-fill.result before.ties c.new_screen.ensures.made c.new_screen.ensures.kept
