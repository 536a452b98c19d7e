use Rattle.std.proofs.Common.{◌≡◌, List, Err, sym, ap, subst, ◌∙◌, arith}
use Rattle.std.specs.List.{fold}
use Rattle.model_draw_parts.specs.declared.images.Thing.{Thing}
use Rattle.model_draw_parts.specs.images.Release.{Freed, free_id}
use Rattle.model_draw.specs.draw.World.{World}
use Rattle.r9_images.specs.images.View.{IfRefused}
use Rattle.r9_images.specs.declared.images.fault.BookFault.{BookFault}
use Rattle.r9_layers.specs.Forest.{numbers, world}
use Rattle.r9_device.specs.device.World.{world_of}
use Rattle.r9_device.specs.device.Gone.{CanRelease, images_without, numbers_without}
use Rattle.r9_device.proofs.device.Kept.{can-release}
use Rattle.r9_device.proofs.device.Lookups.{display-lives}
use Rattle.r9_device.proofs.device.Worlds.{kept-after}
use Rattle.r9_draw.proofs.orders.Freed.{image-freed-world, image-unknown-world}
use Rattle.model_draw_parts.proofs.images.Spare.{free_id-gives}
use Rattle.r9_device.proofs.device.Spare.{spare-freed}
use Rattle.model_draw_parts.proofs.images.Ties.{HasTies-free_id}
use Rattle.r9_draw.proofs.orders.Managed.{free_id-display}
use Rattle.model_draw.specs.cost.Cost.{going_all}
use Rattle.r9_draw.proofs.orders.Costs.{window-gone}
use Rattle.r9_draw.proofs.orders.window.free_window.Goals as goal

pub release-requires : goal.release-requires
release-requires g c =
    let before = c.args.device.now in
    let freed : Freed = record { book = c.free_id.new.self.book; gone = c.in-Ok.gone } in (
      before.book.book,
      subst (λ (gone : List Thing). CanRelease (world before.forest) before.book.book gone) (sym c.as_slice.ensures)
          (can-release (world before.forest) before.book.book freed before.kept
          (c.free_id_frees.ensures.freed before.book.book 0 c.args.window freed before.kept.screens c.in-Ok.ensures.freed)
          (c.free_id_frees.ensures.order before.book.book 0 c.args.window freed c.in-Ok.ensures.freed)),
    )

pub invariant_of-device-clause-kept : goal.invariant_of-device-clause-kept
invariant_of-device-clause-kept g c =
    let before = c.args.device.now in
    let freed : Freed = record { book = c.free_id.new.self.book; gone = c.in-Ok.gone } in
    kept-after (world before.forest) (world c.release.new.forest) before.book.book freed before.kept c.keeps.ensures
    (c.free_id_frees.ensures.freed before.book.book 0 c.args.window freed before.kept.screens c.in-Ok.ensures.freed) (
      c.free_id_frees.ensures.complete before.book.book 0 c.args.window freed before.kept.finds c.in-Ok.ensures.freed,
      c.free_id_frees.ensures.finds before.book.book 0 c.args.window freed before.kept.finds c.in-Ok.ensures.freed,
    )
    (c.free_id_frees.ensures.order before.book.book 0 c.args.window freed c.in-Ok.ensures.freed)
    (c.free_id_frees.ensures.rest before.book.book 0 c.args.window freed c.in-Ok.ensures.freed)
    (free_id-display before.book.book c.args.window freed c.requires c.in-Ok.ensures.freed)
    (c.release.ensures.world ∙ ap (λ (gone : List Thing). fold images_without (world before.forest) gone) c.as_slice.ensures)

pub invariant_of-device-clause-spare : goal.invariant_of-device-clause-spare
invariant_of-device-clause-spare g c =
    let before = c.args.device.now in
    let freed : Freed = record { book = c.free_id.new.self.book; gone = c.in-Ok.gone } in
    spare-freed before.book.book freed before.spare before.kept.screens
    (c.free_id_frees.ensures.freed before.book.book 0 c.args.window freed before.kept.screens c.in-Ok.ensures.freed)
    (c.free_id_frees.ensures.rest before.book.book 0 c.args.window freed c.in-Ok.ensures.freed)
    (free_id-gives before.book.book 0 c.args.window freed c.in-Ok.ensures.freed)

pub invariant_of-device-clause-ties : goal.invariant_of-device-clause-ties
invariant_of-device-clause-ties g c =
    let before = c.args.device.now in
    let freed : Freed = record { book = c.free_id.new.self.book; gone = c.in-Ok.gone } in
    HasTies-free_id before.book.book 0 c.args.window freed c.requires before.ties c.in-Ok.ensures.freed

pub returns-in-Ok-clause-freed : goal.returns-in-Ok-clause-freed
returns-in-Ok-clause-freed g c =
    let before = c.args.device.now in
    let freed : Freed = record { book = c.free_id.new.self.book; gone = c.in-Ok.gone } in
    let images : world c.release.new.forest ≡ fold images_without (world before.forest) freed.gone =
    c.release.ensures.world ∙ ap (λ (gone : List Thing). fold images_without (world before.forest) gone) c.as_slice.ensures in
    let given : numbers c.release.new.forest ≡ fold numbers_without (numbers before.forest) freed.gone =
    c.release.ensures.numbers ∙ ap (λ (gone : List Thing). fold numbers_without (numbers before.forest) gone) c.as_slice.ensures in
    (λ i. let w : World = record { opening = (world_of before).opening; images = images i; numbers = given i; book = freed.book; clients = (world_of before).clients } in w)
    ∙ sym (image-freed-world (world_of before) c.args.window freed c.in-Ok.ensures.freed)

pub returns-in-Err-Refused-clause-freed : goal.returns-in-Err-Refused-clause-freed
returns-in-Err-Refused-clause-freed g c =
    let w = world_of c.args.device.now in
    let P : BookFault → Type 0 = λ f. IfRefused f (λ n. free_id w.book 0 c.args.window ≡ Err n) in
    (λ i. let next : World = record w { book = c.in-Err-Refused.ensures.kept i } in next)
    ∙ sym (image-unknown-world w c.args.window c.in-Err-Refused.field-0-0 (subst P c.in-Err-Refused.field-0-is c.in-Err-Refused.ensures.refused))

pub returns-in-Ok-clause-steps : goal.returns-in-Ok-clause-steps
returns-in-Ok-clause-steps g c =
    let before = c.args.device.now in
    let freed : Freed = record { book = c.free_id.new.self.book; gone = c.in-Ok.gone } in
    let same = ap (λ (gone : List Thing). going_all (world before.forest) gone) c.as_slice.ensures in
    omega (arith, same, window-gone (world before.forest) before.book.book c.args.window freed c.in-Ok.ensures.freed, c.release.ensures.steps)

pub returns-in-Ok-clause-moment : goal.returns-in-Ok-clause-moment
returns-in-Ok-clause-moment g c =
    let before = c.args.device.now in
    let freed : Freed = record { book = c.free_id.new.self.book; gone = c.in-Ok.gone } in
    let kept =
    kept-after (world before.forest) (world c.release.new.forest) before.book.book freed before.kept c.keeps.ensures
    (c.free_id_frees.ensures.freed before.book.book 0 c.args.window freed before.kept.screens c.in-Ok.ensures.freed) (
      c.free_id_frees.ensures.complete before.book.book 0 c.args.window freed before.kept.finds c.in-Ok.ensures.freed,
      c.free_id_frees.ensures.finds before.book.book 0 c.args.window freed before.kept.finds c.in-Ok.ensures.freed,
    )
    (c.free_id_frees.ensures.order before.book.book 0 c.args.window freed c.in-Ok.ensures.freed)
    (c.free_id_frees.ensures.rest before.book.book 0 c.args.window freed c.in-Ok.ensures.freed)
    (free_id-display before.book.book c.args.window freed c.requires c.in-Ok.ensures.freed)
    (c.release.ensures.world ∙ ap (λ (gone : List Thing). fold images_without (world before.forest) gone) c.as_slice.ensures) in
    c.release.ensures.moment 0 (display-lives (world c.release.new.forest) freed.book kept)
