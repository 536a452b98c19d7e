use Rattle.std.proofs.Common.{sym, ap, subst, ◌∙◌}
use Rattle.std.specs.Prelude.{IfSome}
use Rattle.model_draw_parts.specs.images.Book.{Book, is_image_id_taken}
use Rattle.r9_layers.specs.Forest.{world}
use Rattle.r9_device.specs.device.Live.{CanHold}
use Rattle.r9_device.proofs.device.Adding.{never-refused}
use Rattle.r9_draw.proofs.messages.Made.{one-live, one-points}
use Rattle.r9_draw.proofs.messages.image.make.Goals as goal

pub one_pixel-requires-clause-screen : goal.one_pixel-requires-clause-screen
one_pixel-requires-clause-screen g c =
    subst (λ (b : Book). IfSome c.args.making.now.screen (λ s. CanHold (world c.args.forest.now) b s c.args.making.now.chan)) (sym c.in_ok-reserve-2.ensures.kept) c.requires.screen

pub set-requires-clause-live : goal.set-requires-clause-live
set-requires-clause-live g c =
    let can = subst (λ (b : Book). IfSome c.args.making.now.screen (λ s. CanHold (world c.args.forest.now) b s c.args.making.now.chan)) (sym c.in_ok-reserve-2.ensures.kept) c.requires.screen in
    one-live (world c.args.forest.now) (world c.one_pixel.new.forest) c.reserve-2.new.self.book c.in_ok-image.image.0 c.args.making.now c.in_ok-image.ensures.free can c.in_ok-image.ensures.made

pub set-requires-clause-points : goal.set-requires-clause-points
set-requires-clause-points g c = λ _.
    let can = subst (λ (b : Book). IfSome c.args.making.now.screen (λ s. CanHold (world c.args.forest.now) b s c.args.making.now.chan)) (sym c.in_ok-reserve-2.ensures.kept) c.requires.screen in
    one-points (world c.args.forest.now) (world c.one_pixel.new.forest) c.reserve-2.new.self.book c.in_ok-image.image.0 c.args.making.now c.in_ok-image.ensures.free can c.in_ok-image.ensures.made c.requires.points

pub unreachable-requires : goal.unreachable-requires
unreachable-requires g c =
    never-refused c.in-Err.field-0 c.reserve-2.new.self.book c.args.client c.args.making.now.id c.in_ok-image.image.0 c.args.making.now.screen (c.in-Err.ensures.room c.in_ok-reserve-2.ensures.room) c.in-Err.ensures.refused
    (ap (λ (b : Book). is_image_id_taken b c.args.client c.args.making.now.id) c.in_ok-reserve-2.ensures.kept ∙ c.requires.fresh)
