use Rattle.std.proofs.Common.{List, refl, sym, ap, subst, ◌∙◌, arith}
use Rattle.std.specs.List.{fold}
use Rattle.model_draw_parts.specs.declared.images.Thing.{Thing}
use Rattle.model_draw_parts.specs.images.Release.{Freed}
use Rattle.model_draw_parts.proofs.images.Complete.{LeavesNone}
use Rattle.model_draw_parts.proofs.images.Spare.{free_id-gives}
use Rattle.model_draw_parts.proofs.images.Ties.{HasTies-free_id}
use Rattle.model_draw.specs.cost.Cost.{going_all}
use Rattle.r9_layers.specs.Forest.{numbers, world}
use Rattle.r9_device.specs.device.Gone.{CanRelease, images_without, numbers_without}
use Rattle.r9_device.specs.device.World.{world_of}
use Rattle.r9_device.proofs.device.Kept.{can-release}
use Rattle.r9_device.proofs.device.Lookups.{display-lives}
use Rattle.r9_device.proofs.device.Spare.{spare-freed}
use Rattle.r9_device.proofs.device.Worlds.{kept-after}
use Rattle.r9_draw.specs.orders.Ordering.{GoesUnseen}
use Rattle.r9_draw.proofs.orders.Fitting.{window-some}
use Rattle.r9_draw.proofs.orders.Hosting.{window-parent}
use Rattle.r9_draw.proofs.orders.Leaving.{alone-dropped, alone-within, kept-out}
use Rattle.r9_draw.proofs.orders.Managed.{free_id-display}
use Rattle.r9_draw.proofs.orders.going.drop_alone.Goals as goal

pub goes_unseen-stays-requires : goal.goes_unseen-stays-requires
goes_unseen-stays-requires g c =
    let before = c.args.device.now in window-parent (world_of before) c.args.window c.image_shown-image.result.0 before.kept c.requires.window c.image_shown-image.ensures.shown

pub move_out-moved-requires-clause-near : goal.move_out-moved-requires-clause-near
move_out-moved-requires-clause-near g c = (c.args.device.now.kept.placed c.image_shown-image.result.0).near

pub release-requires : goal.release-requires
release-requires g c =
    let before = c.args.device.now in
    let window = c.args.window in
    let freed : Freed = record { book = c.free_id.new.self.book; gone = c.in-Ok.gone } in
    let e = c.in-Ok.ensures.freed in
    let is = c.free_id_frees.ensures.freed before.book.book 0 window freed before.kept.screens e in
    let order = c.free_id_frees.ensures.order before.book.book 0 window freed e in
    let out =
    kept-out c.move_out-moved.result (world before.forest) (world c.move_out-moved.new.forest) before.book.book c.image_shown-image.result.0 c.goes_unseen-stays.result before.kept c.image_shown-image.ensures.live c.keeps.ensures c.move_out-moved.ensures.moved
    c.move_out-moved.ensures.kept in (
      before.book.book,
      subst (λ (gone : List Thing). CanRelease (world c.move_out-moved.new.forest) before.book.book gone) (sym c.as_slice-2.ensures) (can-release (world c.move_out-moved.new.forest) before.book.book freed out is order),
    )

pub invariant_of-device-2 : goal.invariant_of-device-2
invariant_of-device-2 g c =
    let before = c.args.device.now in
    let window = c.args.window in
    let freed : Freed = record { book = c.free_id.new.self.book; gone = c.in-Ok.gone } in
    let e = c.in-Ok.ensures.freed in
    let other = window-some (world_of before) window c.requires.window in
    let is = c.free_id_frees.ensures.freed before.book.book 0 window freed before.kept.screens e in
    let order = c.free_id_frees.ensures.order before.book.book 0 window freed e in
    let rest = c.free_id_frees.ensures.rest before.book.book 0 window freed e in
    let none : LeavesNone before.book.book freed = (c.free_id_frees.ensures.complete before.book.book 0 window freed before.kept.finds e, c.free_id_frees.ensures.finds before.book.book 0 window freed before.kept.finds e) in
    let display = free_id-display before.book.book window freed other e in
    let out =
    kept-out c.move_out-moved.result (world before.forest) (world c.move_out-moved.new.forest) before.book.book c.image_shown-image.result.0 c.goes_unseen-stays.result before.kept c.image_shown-image.ensures.live c.keeps.ensures c.move_out-moved.ensures.moved
    c.move_out-moved.ensures.kept in
    let kept =
    kept-after (world c.move_out-moved.new.forest) (world c.release.new.forest) before.book.book freed out c.keeps-2.ensures is none order rest display
    (c.release.ensures.world ∙ ap (λ (gone : List Thing). fold images_without (world c.move_out-moved.new.forest) gone) c.as_slice-2.ensures) in
    let space = before.room in
    let more = c.move_out-moved.ensures.room in
    let most = c.release.ensures.room in
    record {
      kept = kept;
      spare = spare-freed before.book.book freed before.spare before.kept.screens is rest (free_id-gives before.book.book 0 window freed e);
      ties = HasTies-free_id before.book.book 0 window freed other before.ties e;
      room = omega (arith, space, more, most);
      manager = before.manager;
    }

pub returns-clause-dropped : goal.returns-clause-dropped
returns-clause-dropped g c =
    let before = c.args.device.now in
    let window = c.args.window in
    let i = c.image_shown-image.result.0 in
    let shown = c.image_shown-image.ensures.shown in
    let freed : Freed = record { book = c.free_id.new.self.book; gone = c.in-Ok.gone } in
    let moved = c.move_out-moved.new.forest in
    alone-dropped c.move_out-moved.result (world_of before) window i c.goes_unseen-stays.result freed (world moved) (world c.release.new.forest) (numbers c.release.new.forest) freed.book c.requires.alone c.in-Ok.ensures.freed shown c.keeps.ensures
    (window-parent (world_of before) window i before.kept c.requires.window shown)
    (λ is. subst (λ (gone : List Thing). GoesUnseen (world before.forest) i i gone) c.as_slice.ensures (c.goes_unseen-stays.ensures is))
    c.move_out-moved.ensures.moved
    (c.release.ensures.world ∙ ap (λ (gone : List Thing). fold images_without (world moved) gone) c.as_slice-2.ensures)
    (c.release.ensures.numbers ∙ (λ j. fold numbers_without (c.move_out-moved.ensures.numbers j) (c.as_slice-2.ensures j)))
    refl

pub returns-clause-steps : goal.returns-clause-steps
returns-clause-steps g c =
    let before = c.args.device.now in
    let freed : Freed = record { book = c.free_id.new.self.book; gone = c.in-Ok.gone } in
    let moved = c.move_out-moved.new.forest in
    let slice = ap (λ (gone : List Thing). going_all (world moved) gone) c.as_slice-2.ensures in
    alone-within c.move_out-moved.result (world_of before) c.args.window c.image_shown-image.result.0 c.goes_unseen-stays.result freed (world moved) c.args.steps.now c.move_out-moved.new.steps c.release.new.steps c.requires.alone c.in-Ok.ensures.freed
    c.image_shown-image.ensures.shown c.keeps.ensures c.image_shown-image.ensures.live c.move_out-moved.ensures.moved c.move_out-moved.ensures.steps (omega (arith, slice, c.release.ensures.steps))

pub returns-clause-moment : goal.returns-clause-moment
returns-clause-moment g c =
    let before = c.args.device.now in
    let window = c.args.window in
    let freed : Freed = record { book = c.free_id.new.self.book; gone = c.in-Ok.gone } in
    let e = c.in-Ok.ensures.freed in
    let other = window-some (world_of before) window c.requires.window in
    let is = c.free_id_frees.ensures.freed before.book.book 0 window freed before.kept.screens e in
    let order = c.free_id_frees.ensures.order before.book.book 0 window freed e in
    let rest = c.free_id_frees.ensures.rest before.book.book 0 window freed e in
    let none : LeavesNone before.book.book freed = (c.free_id_frees.ensures.complete before.book.book 0 window freed before.kept.finds e, c.free_id_frees.ensures.finds before.book.book 0 window freed before.kept.finds e) in
    let display = free_id-display before.book.book window freed other e in
    let out =
    kept-out c.move_out-moved.result (world before.forest) (world c.move_out-moved.new.forest) before.book.book c.image_shown-image.result.0 c.goes_unseen-stays.result before.kept c.image_shown-image.ensures.live c.keeps.ensures c.move_out-moved.ensures.moved
    c.move_out-moved.ensures.kept in
    let kept =
    kept-after (world c.move_out-moved.new.forest) (world c.release.new.forest) before.book.book freed out c.keeps-2.ensures is none order rest display
    (c.release.ensures.world ∙ ap (λ (gone : List Thing). fold images_without (world c.move_out-moved.new.forest) gone) c.as_slice-2.ensures) in
    c.release.ensures.moment 0 (display-lives (world c.release.new.forest) freed.book kept) ∙ (λ j. c.move_out-moved.ensures.moment j 0)
