use Rattle.std.proofs.Common.{◌≡◌, ℕ, List, [], sym, ap, subst, ◌∙◌, arith}
use Rattle.model_draw.specs.cost.Cost.{going_all, leave_cost}
use Rattle.std.specs.List.{fold}
use Rattle.model_text.specs.text.Map.{lookup}
use Rattle.model_draw_parts.specs.declared.images.Thing.{Thing}
use Rattle.model_draw_parts.specs.images.Book.{image_id}
use Rattle.model_draw_parts.specs.images.Release.{Freed, IsFreed, IsInOrder, KeepsRest, leave}
use Rattle.model_draw.specs.draw.World.{Client, World}
use Rattle.r9_layers.specs.Forest.{numbers, world}
use Rattle.r9_device.specs.device.World.{world_of}
use Rattle.r9_device.specs.device.Gone.{CanRelease, images_without, numbers_without}
use Rattle.r9_device.proofs.device.Kept.{can-release}
use Rattle.r9_device.proofs.device.Lookups.{display-lives}
use Rattle.r9_device.proofs.device.Worlds.{kept-after, left-world}
use Rattle.r9_device.proofs.device.Manager.{manager-without, not_manager, not_owner}
use Rattle.model_draw_parts.proofs.images.Complete.{LeavesNone}
use Rattle.model_draw_parts.proofs.images.Spare.{GivesBack, leave-gives}
use Rattle.r9_device.proofs.device.Spare.{spare-freed}
use Rattle.model_draw_parts.specs.images.Ties.{HasTies}
use Rattle.model_draw_parts.proofs.images.Ties.{HasTies-leave}
use Rattle.r9_device.proofs.device.device.Device.leave.Goals as goal
use Rattle.r9_device.proofs.device.device.Device.leave.Goals.{After-remove}

pub release-requires : goal.release-requires
release-requires g c =
    let before = c.args.self.now in
    let freed : Freed = record { book = c.leave.new.self.book; gone = c.in_ok-gone.gone } in
    let is : IsFreed before.book.book freed = subst (IsFreed before.book.book) c.in_ok-gone.ensures.left (c.leave_frees.ensures.freed before.book.book c.args.client before.kept.screens) in
    let order : IsInOrder before.book.book [] freed.gone = subst (λ (f : Freed). IsInOrder before.book.book [] f.gone) c.in_ok-gone.ensures.left (c.leave_frees.ensures.order before.book.book c.args.client) in
    (before.book.book, subst (λ (gone : List Thing). CanRelease (world before.forest) before.book.book gone) (sym c.as_slice.ensures) (can-release (world before.forest) before.book.book freed before.kept is order))

pub invariant_of-self-2-clause-kept : goal.invariant_of-self-2-clause-kept
invariant_of-self-2-clause-kept g c =
    let before = c.args.self.now in
    let freed : Freed = record { book = c.leave.new.self.book; gone = c.in_ok-gone.gone } in
    let is : IsFreed before.book.book freed = subst (IsFreed before.book.book) c.in_ok-gone.ensures.left (c.leave_frees.ensures.freed before.book.book c.args.client before.kept.screens) in
    let shown : image_id freed.book 0 0 ≡ image_id before.book.book 0 0 =
    ap (λ (f : Freed). image_id f.book 0 0) (sym c.in_ok-gone.ensures.left) ∙ c.leave_frees.ensures.others before.book.book c.args.client 0 0 (not_owner c.args.client (not_manager before.clients.entries c.args.client c.requires before.manager)) in
    kept-after (world before.forest) (world c.release.new.forest) before.book.book freed before.kept c.keeps.ensures is
    (subst (LeavesNone before.book.book) c.in_ok-gone.ensures.left
    (c.leave_frees.ensures.complete before.book.book c.args.client before.kept.finds, c.leave_frees.ensures.finds before.book.book c.args.client before.kept.finds))
    (subst (λ (f : Freed). IsInOrder before.book.book [] f.gone) c.in_ok-gone.ensures.left (c.leave_frees.ensures.order before.book.book c.args.client))
    (subst (KeepsRest before.book.book) c.in_ok-gone.ensures.left (c.leave_frees.ensures.rest before.book.book c.args.client)) shown
    (c.release.ensures.world ∙ ap (λ (gone : List Thing). fold images_without (world before.forest) gone) c.as_slice.ensures)

pub invariant_of-self-2-clause-manager : goal.invariant_of-self-2-clause-manager
invariant_of-self-2-clause-manager g c =
    ap (λ (es : List (ℕ × Client)). lookup es 0) c.remove.ensures ∙ manager-without c.args.self.now.clients.entries c.args.client c.requires c.args.self.now.manager

pub returns-clause-left : goal.returns-clause-left
returns-clause-left g c =
    let before = c.args.self.now in
    let freed : Freed = record { book = c.leave.new.self.book; gone = c.in_ok-gone.gone } in
    let images : world c.release.new.forest ≡ fold images_without (world before.forest) freed.gone =
    c.release.ensures.world ∙ ap (λ (gone : List Thing). fold images_without (world before.forest) gone) c.as_slice.ensures in
    let given : numbers c.release.new.forest ≡ fold numbers_without (numbers before.forest) freed.gone =
    c.release.ensures.numbers ∙ ap (λ (gone : List Thing). fold numbers_without (numbers before.forest) gone) c.as_slice.ensures in
    (λ i. let w : World = record { opening = (world_of before).opening; images = images i; numbers = given i; book = freed.book; clients = c.remove.ensures i } in w)
    ∙ sym (left-world (world_of before) c.args.client freed c.in_ok-gone.ensures.left)

pub invariant_of-self-2-clause-spare : goal.invariant_of-self-2-clause-spare
invariant_of-self-2-clause-spare g c =
    let before = c.args.self.now in
    let freed : Freed = record { book = c.leave.new.self.book; gone = c.in_ok-gone.gone } in
    spare-freed before.book.book freed before.spare before.kept.screens
    (subst (IsFreed before.book.book) c.in_ok-gone.ensures.left (c.leave_frees.ensures.freed before.book.book c.args.client before.kept.screens))
    (subst (KeepsRest before.book.book) c.in_ok-gone.ensures.left (c.leave_frees.ensures.rest before.book.book c.args.client))
    (subst (GivesBack before.book.book) c.in_ok-gone.ensures.left (leave-gives before.book.book c.args.client))

pub invariant_of-self-2-clause-ties : goal.invariant_of-self-2-clause-ties
invariant_of-self-2-clause-ties g c =
    let before = c.args.self.now in
    subst (λ (f : Freed). HasTies f.book) c.in_ok-gone.ensures.left
    (HasTies-leave before.book.book c.args.client (not_manager before.clients.entries c.args.client c.requires before.manager) before.ties)

pub returns-clause-steps : goal.returns-clause-steps
unfolding leave_cost
returns-clause-steps g c =
    let images = world c.args.self.now.forest in
    let gone : c.as_slice.result.now ≡ (leave c.args.self.now.book.book c.args.client).gone = c.as_slice.ensures ∙ sym (ap (λ (f : Freed). f.gone) c.in_ok-gone.ensures.left) in
    let same = ap (λ (things : List Thing). going_all images things) gone in
    omega (arith, same, c.release.ensures.steps)

pub returns-clause-moment : goal.returns-clause-moment
returns-clause-moment g c =
    let kept = invariant_of-self-2-clause-kept g ((goal.at.returns-clause-moment g c).After-remove) in
    c.release.ensures.moment 0 (display-lives (world c.release.new.forest) c.leave.new.self.book kept)
