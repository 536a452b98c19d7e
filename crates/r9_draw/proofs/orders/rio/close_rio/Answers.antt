use Rattle.std.proofs.Common.{◌≡◌, List, Err, sym, ap, subst, ◌∙◌, arith}
use Rattle.std.specs.Prelude.{◌==◌, ◌&&◌, find}
use Rattle.std.specs.List.{fold}
use Rattle.model_draw_parts.specs.declared.images.ImageId.{ImageId}
use Rattle.model_draw_parts.specs.declared.images.Thing.{Thing}
use Rattle.model_draw_parts.specs.images.Release.{Freed, free_screen}
use Rattle.model_draw.specs.draw.World.{World}
use Rattle.r9_images.specs.images.View.{IfRefused}
use Rattle.r9_images.specs.declared.images.fault.BookFault.{BookFault}
use Rattle.r9_layers.specs.Forest.{numbers, world}
use Rattle.r9_device.specs.device.World.{world_of}
use Rattle.r9_device.specs.device.Gone.{CanRelease, images_without, numbers_without}
use Rattle.r9_device.proofs.device.Kept.{can-release}
use Rattle.r9_device.proofs.device.Lookups.{display-lives}
use Rattle.r9_device.proofs.device.Worlds.{kept-after}
use Rattle.r9_draw.proofs.orders.Freed.{screen-closed-world, screen-unknown-world}
use Rattle.model_draw_parts.proofs.images.Spare.{free_screen-gives}
use Rattle.r9_device.proofs.device.Spare.{spare-freed}
use Rattle.model_draw_parts.proofs.images.Ties.{HasTies-free_screen}
use Rattle.r9_draw.proofs.orders.Managed.{free_screen-image_ids}
use Rattle.model_draw.specs.cost.Cost.{going_all}
use Rattle.r9_draw.proofs.orders.Costs.{rio-gone}
use Rattle.r9_draw.proofs.orders.rio.close_rio.Goals as goal

pub release-requires : goal.release-requires
release-requires g c =
    let before = c.args.device.now in
    let freed : Freed = record { book = c.free_screen.new.self.book; gone = c.in-Ok.gone } in (
      before.book.book,
      subst (λ (gone : List Thing). CanRelease (world before.forest) before.book.book gone) (sym c.as_slice.ensures)
          (can-release (world before.forest) before.book.book freed before.kept
          (c.free_screen_frees.ensures.freed before.book.book 0 c.args.window freed before.kept.screens c.in-Ok.ensures.freed)
          (c.free_screen_frees.ensures.order before.book.book 0 c.args.window freed c.in-Ok.ensures.freed)),
    )

pub invariant_of-device-clause-kept : goal.invariant_of-device-clause-kept
invariant_of-device-clause-kept g c =
    let before = c.args.device.now in
    let freed : Freed = record { book = c.free_screen.new.self.book; gone = c.in-Ok.gone } in
    kept-after (world before.forest) (world c.release.new.forest) before.book.book freed before.kept c.keeps.ensures
    (c.free_screen_frees.ensures.freed before.book.book 0 c.args.window freed before.kept.screens c.in-Ok.ensures.freed) (
      c.free_screen_frees.ensures.complete before.book.book 0 c.args.window freed before.kept.finds c.in-Ok.ensures.freed,
      c.free_screen_frees.ensures.finds before.book.book 0 c.args.window freed before.kept.finds c.in-Ok.ensures.freed,
    )
    (c.free_screen_frees.ensures.order before.book.book 0 c.args.window freed c.in-Ok.ensures.freed)
    (c.free_screen_frees.ensures.rest before.book.book 0 c.args.window freed c.in-Ok.ensures.freed)
    (ap (λ (ids : List ImageId). find (λ e. (e.client == 0) && (e.id == 0)) ids) (free_screen-image_ids before.book.book 0 c.args.window freed c.in-Ok.ensures.freed))
    (c.release.ensures.world ∙ ap (λ (gone : List Thing). fold images_without (world before.forest) gone) c.as_slice.ensures)

pub invariant_of-device-clause-spare : goal.invariant_of-device-clause-spare
invariant_of-device-clause-spare g c =
    let before = c.args.device.now in
    let freed : Freed = record { book = c.free_screen.new.self.book; gone = c.in-Ok.gone } in
    spare-freed before.book.book freed before.spare before.kept.screens
    (c.free_screen_frees.ensures.freed before.book.book 0 c.args.window freed before.kept.screens c.in-Ok.ensures.freed)
    (c.free_screen_frees.ensures.rest before.book.book 0 c.args.window freed c.in-Ok.ensures.freed)
    (free_screen-gives before.book.book 0 c.args.window freed c.in-Ok.ensures.freed)

pub invariant_of-device-clause-ties : goal.invariant_of-device-clause-ties
invariant_of-device-clause-ties g c =
    let before = c.args.device.now in
    let freed : Freed = record { book = c.free_screen.new.self.book; gone = c.in-Ok.gone } in
    HasTies-free_screen before.book.book 0 c.args.window freed before.ties c.in-Ok.ensures.freed

pub returns-in-Ok-clause-closed : goal.returns-in-Ok-clause-closed
returns-in-Ok-clause-closed g c =
    let before = c.args.device.now in
    let freed : Freed = record { book = c.free_screen.new.self.book; gone = c.in-Ok.gone } in
    let images : world c.release.new.forest ≡ fold images_without (world before.forest) freed.gone =
    c.release.ensures.world ∙ ap (λ (gone : List Thing). fold images_without (world before.forest) gone) c.as_slice.ensures in
    let given : numbers c.release.new.forest ≡ fold numbers_without (numbers before.forest) freed.gone =
    c.release.ensures.numbers ∙ ap (λ (gone : List Thing). fold numbers_without (numbers before.forest) gone) c.as_slice.ensures in
    (λ i. let w : World = record { opening = (world_of before).opening; images = images i; numbers = given i; book = freed.book; clients = (world_of before).clients } in w)
    ∙ sym (screen-closed-world (world_of before) c.args.window freed c.in-Ok.ensures.freed)

pub returns-in-Err-Refused-clause-closed : goal.returns-in-Err-Refused-clause-closed
returns-in-Err-Refused-clause-closed g c =
    let w = world_of c.args.device.now in
    let P : BookFault → Type 0 = λ f. IfRefused f (λ n. free_screen w.book 0 c.args.window ≡ Err n) in
    (λ i. let next : World = record w { book = c.in-Err-Refused.ensures.kept i } in next)
    ∙ sym (screen-unknown-world w c.args.window c.in-Err-Refused.field-0-0 (subst P c.in-Err-Refused.field-0-is c.in-Err-Refused.ensures.refused))

pub returns-in-Ok-clause-steps : goal.returns-in-Ok-clause-steps
returns-in-Ok-clause-steps g c =
    let before = c.args.device.now in
    let freed : Freed = record { book = c.free_screen.new.self.book; gone = c.in-Ok.gone } in
    let same = ap (λ (gone : List Thing). going_all (world before.forest) gone) c.as_slice.ensures in
    omega (arith, same, rio-gone (world before.forest) before.book.book c.args.window freed c.in-Ok.ensures.freed, c.release.ensures.steps)

pub returns-in-Ok-clause-moment : goal.returns-in-Ok-clause-moment
returns-in-Ok-clause-moment g c =
    let before = c.args.device.now in
    let freed : Freed = record { book = c.free_screen.new.self.book; gone = c.in-Ok.gone } in
    let kept =
    kept-after (world before.forest) (world c.release.new.forest) before.book.book freed before.kept c.keeps.ensures
    (c.free_screen_frees.ensures.freed before.book.book 0 c.args.window freed before.kept.screens c.in-Ok.ensures.freed) (
      c.free_screen_frees.ensures.complete before.book.book 0 c.args.window freed before.kept.finds c.in-Ok.ensures.freed,
      c.free_screen_frees.ensures.finds before.book.book 0 c.args.window freed before.kept.finds c.in-Ok.ensures.freed,
    )
    (c.free_screen_frees.ensures.order before.book.book 0 c.args.window freed c.in-Ok.ensures.freed)
    (c.free_screen_frees.ensures.rest before.book.book 0 c.args.window freed c.in-Ok.ensures.freed)
    (ap (λ (ids : List ImageId). find (λ e. (e.client == 0) && (e.id == 0)) ids) (free_screen-image_ids before.book.book 0 c.args.window freed c.in-Ok.ensures.freed))
    (c.release.ensures.world ∙ ap (λ (gone : List Thing). fold images_without (world before.forest) gone) c.as_slice.ensures) in
    c.release.ensures.moment 0 (display-lives (world c.release.new.forest) freed.book kept)
