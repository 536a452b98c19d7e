use Rattle.std.proofs.Common.{◌≡◌, ◌≤◌, ℕ, List, sym, ap, subst, ◌∙◌}
use Rattle.std.specs.Prelude.{◌+◌}
use Rattle.std.specs.List.{fold}
use Rattle.model_draw.specs.cost.Cost.{going_all}
use Rattle.model_text.specs.text.Map.{lookup}
use Rattle.model_draw_parts.specs.declared.images.Thing.{Thing}
use Rattle.model_draw_parts.specs.images.Release.{Freed}
use Rattle.model_draw.specs.draw.World.{Client, World}
use Rattle.r9_layers.specs.Forest.{numbers, world}
use Rattle.r9_device.specs.device.World.{world_of}
use Rattle.r9_device.specs.device.Gone.{CanRelease, images_without, numbers_without}
use Rattle.r9_device.proofs.device.Kept.{can-release}
use Rattle.r9_device.proofs.device.Lookups.{display-lives}
use Rattle.r9_draw.proofs.messages.Costs.{freed-cost}
use Rattle.r9_draw.proofs.messages.Freeing.{freed-world}
use Rattle.r9_device.proofs.device.Worlds.{kept-after}
use Rattle.r9_device.proofs.device.Manager.{manager-with, not_manager, not_owner}
use Rattle.model_draw_parts.proofs.images.Spare.{free_id-gives}
use Rattle.r9_device.proofs.device.Spare.{spare-freed}
use Rattle.r9_device.proofs.device.Ties.{ties-freed}
use Rattle.r9_draw.proofs.messages.image.free_id.Goals as goal

pub release-requires : goal.release-requires
release-requires g c =
    let before = c.args.device.now in
    let freed : Freed = record { book = c.free_id.new.self.book; gone = c.in-Ok.gone } in (
      before.book.book,
      subst (λ (gone : List Thing). CanRelease (world before.forest) before.book.book gone) (sym c.as_slice.ensures)
          (can-release (world before.forest) before.book.book freed before.kept
          (c.free_id_frees.ensures.freed before.book.book c.args.client c.args.id freed before.kept.screens c.in-Ok.ensures.freed)
          (c.free_id_frees.ensures.order before.book.book c.args.client c.args.id freed c.in-Ok.ensures.freed)),
    )

pub invariant_of-device-2-clause-kept : goal.invariant_of-device-2-clause-kept
invariant_of-device-2-clause-kept g c =
    let before = c.args.device.now in
    let freed : Freed = record { book = c.free_id.new.self.book; gone = c.in-Ok.gone } in
    kept-after (world before.forest) (world c.release.new.forest) before.book.book freed before.kept c.keeps.ensures
    (c.free_id_frees.ensures.freed before.book.book c.args.client c.args.id freed before.kept.screens c.in-Ok.ensures.freed) (
      c.free_id_frees.ensures.complete before.book.book c.args.client c.args.id freed before.kept.finds c.in-Ok.ensures.freed,
      c.free_id_frees.ensures.finds before.book.book c.args.client c.args.id freed before.kept.finds c.in-Ok.ensures.freed,
    )
    (c.free_id_frees.ensures.order before.book.book c.args.client c.args.id freed c.in-Ok.ensures.freed)
    (c.free_id_frees.ensures.rest before.book.book c.args.client c.args.id freed c.in-Ok.ensures.freed)
    (c.free_id_frees.ensures.others before.book.book c.args.client c.args.id freed c.in-Ok.ensures.freed 0 0 (not_owner c.args.client (not_manager before.clients.entries c.args.client c.requires.live before.manager)))
    (c.release.ensures.world ∙ ap (λ (gone : List Thing). fold images_without (world before.forest) gone) c.as_slice.ensures)

pub invariant_of-device-2-clause-manager : goal.invariant_of-device-2-clause-manager
invariant_of-device-2-clause-manager g c =
    ap (λ (es : List (ℕ × Client)). lookup es 0) c.forget.ensures ∙ manager-with c.args.device.now.clients.entries c.args.client _ c.requires.live c.args.device.now.manager

pub returns-clause-freed : goal.returns-clause-freed
returns-clause-freed g c =
    let before = c.args.device.now in
    let freed : Freed = record { book = c.free_id.new.self.book; gone = c.in-Ok.gone } in
    let images : world c.release.new.forest ≡ fold images_without (world before.forest) freed.gone =
    c.release.ensures.world ∙ ap (λ (gone : List Thing). fold images_without (world before.forest) gone) c.as_slice.ensures in
    let given : numbers c.release.new.forest ≡ fold numbers_without (numbers before.forest) freed.gone =
    c.release.ensures.numbers ∙ ap (λ (gone : List Thing). fold numbers_without (numbers before.forest) gone) c.as_slice.ensures in
    (λ i. let w : World = record { opening = (world_of before).opening; images = images i; numbers = given i; book = freed.book; clients = c.forget.ensures i } in w)
    ∙ sym (freed-world (world_of before) c.args.client c.args.id freed c.in-Ok.ensures.freed)

pub invariant_of-device-2-clause-spare : goal.invariant_of-device-2-clause-spare
invariant_of-device-2-clause-spare g c =
    let before = c.args.device.now in
    let freed : Freed = record { book = c.free_id.new.self.book; gone = c.in-Ok.gone } in
    spare-freed before.book.book freed before.spare before.kept.screens
    (c.free_id_frees.ensures.freed before.book.book c.args.client c.args.id freed before.kept.screens c.in-Ok.ensures.freed)
    (c.free_id_frees.ensures.rest before.book.book c.args.client c.args.id freed c.in-Ok.ensures.freed)
    (free_id-gives before.book.book c.args.client c.args.id freed c.in-Ok.ensures.freed)

pub invariant_of-device-2-clause-ties : goal.invariant_of-device-2-clause-ties
invariant_of-device-2-clause-ties g c =
    let before = c.args.device.now in
    let freed : Freed = record { book = c.free_id.new.self.book; gone = c.in-Ok.gone } in
    ties-freed before.book.book c.args.client c.args.id freed (not_manager before.clients.entries c.args.client c.requires.live before.manager) before.ties c.in-Ok.ensures.freed

pub returns-clause-steps : goal.returns-clause-steps
returns-clause-steps g c =
    let before = c.args.device.now in
    let freed : Freed = record { book = c.free_id.new.self.book; gone = c.in-Ok.gone } in
    let same = ap (λ (gone : List Thing). going_all (world before.forest) gone) c.as_slice.ensures ∙ freed-cost (world_of before) c.args.client c.args.id freed c.in-Ok.ensures.freed in
    subst (λ (n : ℕ). c.release.new.steps ≤ c.args.steps.now + n) same c.release.ensures.steps

pub returns-clause-moment : goal.returns-clause-moment
returns-clause-moment g c =
    let before = c.args.device.now in
    let freed : Freed = record { book = c.free_id.new.self.book; gone = c.in-Ok.gone } in
    let kept =
    kept-after (world before.forest) (world c.release.new.forest) before.book.book freed before.kept c.keeps.ensures
    (c.free_id_frees.ensures.freed before.book.book c.args.client c.args.id freed before.kept.screens c.in-Ok.ensures.freed) (
      c.free_id_frees.ensures.complete before.book.book c.args.client c.args.id freed before.kept.finds c.in-Ok.ensures.freed,
      c.free_id_frees.ensures.finds before.book.book c.args.client c.args.id freed before.kept.finds c.in-Ok.ensures.freed,
    )
    (c.free_id_frees.ensures.order before.book.book c.args.client c.args.id freed c.in-Ok.ensures.freed)
    (c.free_id_frees.ensures.rest before.book.book c.args.client c.args.id freed c.in-Ok.ensures.freed)
    (c.free_id_frees.ensures.others before.book.book c.args.client c.args.id freed c.in-Ok.ensures.freed 0 0 (not_owner c.args.client (not_manager before.clients.entries c.args.client c.requires.live before.manager)))
    (c.release.ensures.world ∙ ap (λ (gone : List Thing). fold images_without (world before.forest) gone) c.as_slice.ensures) in
    c.release.ensures.moment 0 (display-lives (world c.release.new.forest) c.free_id.new.self.book kept)
