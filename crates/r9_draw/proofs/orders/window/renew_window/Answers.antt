use Rattle.std.proofs.Common.{List, Some, Ok, sym, ap, subst, ◌∙◌, arith}
use Rattle.std.specs.List.{fold}
use Rattle.model_forest.specs.World.{World as Images}
use Rattle.model_forest.specs.Numbers.{Numbers, next_number}
use Rattle.model_draw_parts.specs.declared.images.Thing.{Thing}
use Rattle.model_draw_parts.specs.images.Book.{Book, is_image_id_taken}
use Rattle.model_draw_parts.specs.images.Release.{Freed}
use Rattle.model_text.specs.text.Outcome.{Outcome}
use Rattle.model_draw_parts.specs.images.Ties.{HasTies}
use Rattle.model_draw_parts.proofs.images.Complete.{LeavesNone}
use Rattle.model_draw_parts.proofs.images.Spare.{free_id-gives}
use Rattle.model_draw_parts.proofs.images.Ties.{HasTies-add_id, HasTies-free_id}
use Rattle.r9_layers.specs.Forest.{numbers, world}
use Rattle.r9_device.specs.device.Gone.{CanRelease, images_without, numbers_without}
use Rattle.r9_device.specs.device.Spare.{AreSpare}
use Rattle.r9_device.specs.device.World.{world_of}
use Rattle.r9_draw.proofs.orders.Fitting.{window-some}
use Rattle.r9_draw.proofs.orders.Managed.{free_id-display}
use Rattle.r9_draw.proofs.orders.Pending.{can-release-next, kept-renewed}
use Rattle.r9_draw.proofs.orders.Renewing.{added-is, grows-renewed, id-given, id-left, kept-left, renewed-world, screen-left, spare-given}
use Rattle.r9_draw.proofs.orders.Unseen.{come-gone}
use Rattle.r9_draw.specs.orders.Ordering.{GoesUnseen}
use Rattle.r9_device.proofs.device.Spare.{spare-freed}
use Rattle.model_draw.specs.cost.Cost.{going_all}
use Rattle.r9_device.proofs.device.Kept.{can-release}
use Rattle.r9_device.proofs.device.Lookups.{display-lives}
use Rattle.r9_draw.proofs.orders.Costs.{renewed-costs, window-gone}
use Rattle.r9_draw.proofs.orders.window.renew_window.Goals as goal

pub release-requires : goal.release-requires
release-requires g c =
    let before = c.args.device.now in
    let window = c.args.window in
    let n = next_number (numbers before.forest) in
    let freed : Freed = record { book = c.free_id.new.self.book; gone = c.in-Ok.gone } in
    let e = c.in-Ok.ensures.freed in
    let other = window-some (world_of before) window c.requires.window in
    let used = screen-left before.book.book window c.args.next.now.screen freed c.requires.screen e in
    let is = c.free_id_frees.ensures.freed before.book.book 0 window freed before.kept.screens e in
    let order = c.free_id_frees.ensures.order before.book.book 0 window freed e in
    let rest = c.free_id_frees.ensures.rest before.book.book 0 window freed e in
    let g = grows-renewed c.next_window-made.result (world_of before) (world c.next_window-made.new.forest) window n c.args.next.now.screen c.args.next.now c.goes_unseen-stays.result before.kept c.keeps.ensures c.requires.next c.requires.ready c.next_window-made.ensures.free c.next_window-made.ensures.made in
    let can = can-release-next c.next_window-made.result (world before.forest) (world c.next_window-made.new.forest) before.book.book freed n c.args.next.now.screen before.kept g c.next_window-made.ensures.kept_images used is order in
    (can.0, subst (λ (gone : List Thing). CanRelease (world c.next_window-made.new.forest) can.0 gone) (sym c.as_slice-2.ensures) can.1)

pub add_window-requires-clause-fresh : goal.add_window-requires-clause-fresh
add_window-requires-clause-fresh g c =
    let before = c.args.device.now in
    let window = c.args.window in
    let n = next_number (numbers before.forest) in
    let freed : Freed = record { book = c.free_id.new.self.book; gone = c.in-Ok.gone } in
    let e = c.in-Ok.ensures.freed in
    let other = window-some (world_of before) window c.requires.window in
    let used = screen-left before.book.book window c.args.next.now.screen freed c.requires.screen e in
    let is = c.free_id_frees.ensures.freed before.book.book 0 window freed before.kept.screens e in
    let order = c.free_id_frees.ensures.order before.book.book 0 window freed e in
    let rest = c.free_id_frees.ensures.rest before.book.book 0 window freed e in
    ap (λ (b : Book). is_image_id_taken b 0 window) c.next_window-made.ensures.book ∙ id-left before.book.book window freed other e

pub invariant_of-device-in-Ok-made-clause-kept : goal.invariant_of-device-in-Ok-made-clause-kept
invariant_of-device-in-Ok-made-clause-kept g c =
    let before = c.args.device.now in
    let window = c.args.window in
    let n = next_number (numbers before.forest) in
    let freed : Freed = record { book = c.free_id.new.self.book; gone = c.in-Ok.gone } in
    let e = c.in-Ok.ensures.freed in
    let other = window-some (world_of before) window c.requires.window in
    let used = screen-left before.book.book window c.args.next.now.screen freed c.requires.screen e in
    let is = c.free_id_frees.ensures.freed before.book.book 0 window freed before.kept.screens e in
    let order = c.free_id_frees.ensures.order before.book.book 0 window freed e in
    let rest = c.free_id_frees.ensures.rest before.book.book 0 window freed e in
    let none : LeavesNone before.book.book freed = (c.free_id_frees.ensures.complete before.book.book 0 window freed before.kept.finds e, c.free_id_frees.ensures.finds before.book.book 0 window freed before.kept.finds e) in
    let display = free_id-display before.book.book window freed other e in
    let o : Outcome Book = Ok freed.book in
    let g = grows-renewed o (world_of before) (world c.next_window-made.new.forest) window n c.args.next.now.screen c.args.next.now c.goes_unseen-stays.result before.kept c.keeps.ensures c.requires.next c.requires.ready c.in-Ok-made.ensures.free c.in-Ok-made.ensures.made in
    let added = added-is freed.book c.next_window-made.new.book.book c.add_window.new.book.book window c.in-Ok-made.image.0 n c.args.next.now.screen c.next_window-made.ensures.book c.in-Ok-made.ensures.number c.add_window.ensures in
    let given = id-given freed.book c.add_window.new.book.book window n c.args.next.now.screen (id-left before.book.book window freed other e) added in
    kept-renewed (world before.forest) (world c.next_window-made.new.forest) (world c.release.new.forest) before.book.book c.add_window.new.book.book freed window n c.args.next.now.screen before.kept c.keeps.ensures.parents c.keeps-2.ensures.parents g used is none order rest display
    (c.release.ensures.world ∙ ap (λ (gone : List Thing). fold images_without (world c.next_window-made.new.forest) gone) c.as_slice-2.ensures) given other

pub invariant_of-device-in-Ok-made-clause-spare : goal.invariant_of-device-in-Ok-made-clause-spare
invariant_of-device-in-Ok-made-clause-spare g c =
    let before = c.args.device.now in
    let window = c.args.window in
    let n = next_number (numbers before.forest) in
    let freed : Freed = record { book = c.free_id.new.self.book; gone = c.in-Ok.gone } in
    let e = c.in-Ok.ensures.freed in
    let other = window-some (world_of before) window c.requires.window in
    let used = screen-left before.book.book window c.args.next.now.screen freed c.requires.screen e in
    let is = c.free_id_frees.ensures.freed before.book.book 0 window freed before.kept.screens e in
    let order = c.free_id_frees.ensures.order before.book.book 0 window freed e in
    let rest = c.free_id_frees.ensures.rest before.book.book 0 window freed e in
    let added = added-is freed.book c.next_window-made.new.book.book c.add_window.new.book.book window c.in-Ok-made.image.0 n c.args.next.now.screen c.next_window-made.ensures.book c.in-Ok-made.ensures.number c.add_window.ensures in
    let given = id-given freed.book c.add_window.new.book.book window n c.args.next.now.screen (id-left before.book.book window freed other e) added in
    let spare = spare-freed before.book.book freed before.spare before.kept.screens is rest (free_id-gives before.book.book 0 window freed e) in
    spare-given freed.book c.add_window.new.book.book window n c.args.next.now.screen spare given

pub invariant_of-device-in-Ok-made-clause-ties : goal.invariant_of-device-in-Ok-made-clause-ties
invariant_of-device-in-Ok-made-clause-ties g c =
    let before = c.args.device.now in
    let window = c.args.window in
    let n = next_number (numbers before.forest) in
    let freed : Freed = record { book = c.free_id.new.self.book; gone = c.in-Ok.gone } in
    let e = c.in-Ok.ensures.freed in
    let other = window-some (world_of before) window c.requires.window in
    let used = screen-left before.book.book window c.args.next.now.screen freed c.requires.screen e in
    let is = c.free_id_frees.ensures.freed before.book.book 0 window freed before.kept.screens e in
    let order = c.free_id_frees.ensures.order before.book.book 0 window freed e in
    let rest = c.free_id_frees.ensures.rest before.book.book 0 window freed e in
    let added = added-is freed.book c.next_window-made.new.book.book c.add_window.new.book.book window c.in-Ok-made.image.0 n c.args.next.now.screen c.next_window-made.ensures.book c.in-Ok-made.ensures.number c.add_window.ensures in
    let given = id-given freed.book c.add_window.new.book.book window n c.args.next.now.screen (id-left before.book.book window freed other e) added in
    HasTies-add_id freed.book c.add_window.new.book.book 0 window n (Some c.args.next.now.screen) (HasTies-free_id before.book.book 0 window freed other before.ties e) given

pub returns-in-Ok-made-clause-renewed : goal.returns-in-Ok-made-clause-renewed
returns-in-Ok-made-clause-renewed g c =
    let before = c.args.device.now in
    let window = c.args.window in
    let n = next_number (numbers before.forest) in
    let freed : Freed = record { book = c.free_id.new.self.book; gone = c.in-Ok.gone } in
    let e = c.in-Ok.ensures.freed in
    let other = window-some (world_of before) window c.requires.window in
    let used = screen-left before.book.book window c.args.next.now.screen freed c.requires.screen e in
    let is = c.free_id_frees.ensures.freed before.book.book 0 window freed before.kept.screens e in
    let order = c.free_id_frees.ensures.order before.book.book 0 window freed e in
    let rest = c.free_id_frees.ensures.rest before.book.book 0 window freed e in
    let added = added-is freed.book c.next_window-made.new.book.book c.add_window.new.book.book window c.in-Ok-made.image.0 n c.args.next.now.screen c.next_window-made.ensures.book c.in-Ok-made.ensures.number c.add_window.ensures in
    let given = id-given freed.book c.add_window.new.book.book window n c.args.next.now.screen (id-left before.book.book window freed other e) added in
    renewed-world (world_of before) window c.args.next.now.screen c.args.next.now freed (world c.release.new.forest) (numbers c.release.new.forest) c.add_window.new.book.book e
    ((c.release.ensures.world ∙ ap (λ (gone : List Thing). fold images_without (world c.next_window-made.new.forest) gone) c.as_slice-2.ensures) ∙ ap (λ (w : Images). fold images_without w freed.gone) c.in-Ok-made.ensures.made
    ∙ come-gone (world before.forest) n c.args.next.now c.keeps.ensures c.in-Ok-made.ensures.free c.requires.ready c.goes_unseen-stays.result freed.gone
    (λ is. subst (λ (gone : List Thing). GoesUnseen (world before.forest) c.args.next.now.old.0 c.args.next.now.parent.0 gone) c.as_slice.ensures (c.goes_unseen-stays.ensures is)))
    (c.release.ensures.numbers ∙ ap (λ (gone : List Thing). fold numbers_without (numbers c.next_window-made.new.forest) gone) c.as_slice-2.ensures ∙ ap (λ (ns : Numbers). fold numbers_without ns freed.gone) c.in-Ok-made.ensures.taken)
    added

pub invariant_of-device-in-Err-made : goal.invariant_of-device-in-Err-made
invariant_of-device-in-Err-made g c =
    let before = c.args.device.now in
    let window = c.args.window in
    let n = next_number (numbers before.forest) in
    let freed : Freed = record { book = c.free_id.new.self.book; gone = c.in-Ok.gone } in
    let e = c.in-Ok.ensures.freed in
    let other = window-some (world_of before) window c.requires.window in
    let used = screen-left before.book.book window c.args.next.now.screen freed c.requires.screen e in
    let is = c.free_id_frees.ensures.freed before.book.book 0 window freed before.kept.screens e in
    let order = c.free_id_frees.ensures.order before.book.book 0 window freed e in
    let rest = c.free_id_frees.ensures.rest before.book.book 0 window freed e in
    let none : LeavesNone before.book.book freed = (c.free_id_frees.ensures.complete before.book.book 0 window freed before.kept.finds e, c.free_id_frees.ensures.finds before.book.book 0 window freed before.kept.finds e) in
    let display = free_id-display before.book.book window freed other e in
    let spare = spare-freed before.book.book freed before.spare before.kept.screens is rest (free_id-gives before.book.book 0 window freed e) in
    let space = before.room in
    let more = c.next_window-made.ensures.room in
    let most = c.release.ensures.room in
    record {
      kept =
          kept-left (world before.forest) (world c.next_window-made.new.forest) (world c.release.new.forest) before.book.book c.next_window-made.new.book.book freed before.kept c.keeps.ensures is none order rest display c.in-Err-made.ensures.kept_images
          (c.release.ensures.world ∙ ap (λ (gone : List Thing). fold images_without (world c.next_window-made.new.forest) gone) c.as_slice-2.ensures) c.next_window-made.ensures.book;
      spare = subst AreSpare (sym c.next_window-made.ensures.book) spare;
      ties = subst HasTies (sym c.next_window-made.ensures.book) (HasTies-free_id before.book.book 0 window freed other before.ties e);
      room = omega (arith, space, more, most);
      manager = before.manager;
    }

pub returns-in-Ok-made-clause-steps : goal.returns-in-Ok-made-clause-steps
returns-in-Ok-made-clause-steps g c =
    let before = c.args.device.now in
    let images = world before.forest in
    let book = before.book.book in
    let window = c.args.window in
    let n = next_number (numbers before.forest) in
    let freed : Freed = record { book = c.free_id.new.self.book; gone = c.in-Ok.gone } in
    let e = c.in-Ok.ensures.freed in
    let is = c.free_id_frees.ensures.freed book 0 window freed before.kept.screens e in
    let order = c.free_id_frees.ensures.order book 0 window freed e in
    let o : Outcome Book = Ok freed.book in
    let g = grows-renewed o (world_of before) (world c.next_window-made.new.forest) window n c.args.next.now.screen c.args.next.now c.goes_unseen-stays.result before.kept c.keeps.ensures c.requires.next c.requires.ready c.in-Ok-made.ensures.free c.in-Ok-made.ensures.made in
    let same = renewed-costs images (world c.next_window-made.new.forest) book n c.args.next.now.screen freed.gone g (can-release images book freed before.kept is order) in
    let slice = ap (λ (gone : List Thing). going_all (world c.next_window-made.new.forest) gone) c.as_slice-2.ensures in
    omega (arith, same, slice, window-gone images book window freed e, c.next_window-made.ensures.steps, c.release.ensures.steps)

pub returns-in-Ok-made-clause-moment : goal.returns-in-Ok-made-clause-moment
returns-in-Ok-made-clause-moment g c =
    let before = c.args.device.now in
    let window = c.args.window in
    let n = next_number (numbers before.forest) in
    let freed : Freed = record { book = c.free_id.new.self.book; gone = c.in-Ok.gone } in
    let e = c.in-Ok.ensures.freed in
    let other = window-some (world_of before) window c.requires.window in
    let used = screen-left before.book.book window c.args.next.now.screen freed c.requires.screen e in
    let is = c.free_id_frees.ensures.freed before.book.book 0 window freed before.kept.screens e in
    let order = c.free_id_frees.ensures.order before.book.book 0 window freed e in
    let rest = c.free_id_frees.ensures.rest before.book.book 0 window freed e in
    let none : LeavesNone before.book.book freed = (c.free_id_frees.ensures.complete before.book.book 0 window freed before.kept.finds e, c.free_id_frees.ensures.finds before.book.book 0 window freed before.kept.finds e) in
    let display = free_id-display before.book.book window freed other e in
    let o : Outcome Book = Ok freed.book in
    let g = grows-renewed o (world_of before) (world c.next_window-made.new.forest) window n c.args.next.now.screen c.args.next.now c.goes_unseen-stays.result before.kept c.keeps.ensures c.requires.next c.requires.ready c.in-Ok-made.ensures.free c.in-Ok-made.ensures.made in
    let added = added-is freed.book c.next_window-made.new.book.book c.add_window.new.book.book window c.in-Ok-made.image.0 n c.args.next.now.screen c.next_window-made.ensures.book c.in-Ok-made.ensures.number c.add_window.ensures in
    let given = id-given freed.book c.add_window.new.book.book window n c.args.next.now.screen (id-left before.book.book window freed other e) added in
    let kept =
    kept-renewed (world before.forest) (world c.next_window-made.new.forest) (world c.release.new.forest) before.book.book c.add_window.new.book.book freed window n c.args.next.now.screen before.kept c.keeps.ensures.parents c.keeps-2.ensures.parents g used is none order rest display
    (c.release.ensures.world ∙ ap (λ (gone : List Thing). fold images_without (world c.next_window-made.new.forest) gone) c.as_slice-2.ensures) given other in
    c.release.ensures.moment 0 (display-lives (world c.release.new.forest) c.add_window.new.book.book kept) ∙ (λ i. c.next_window-made.ensures.moment i 0)

pub returns-clause-moment : goal.returns-clause-moment
returns-clause-moment g c =
    let before = c.args.device.now in
    let window = c.args.window in
    let freed : Freed = record { book = c.free_id.new.self.book; gone = c.in-Ok.gone } in
    let e = c.in-Ok.ensures.freed in
    let other = window-some (world_of before) window c.requires.window in
    let is = c.free_id_frees.ensures.freed before.book.book 0 window freed before.kept.screens e in
    let order = c.free_id_frees.ensures.order before.book.book 0 window freed e in
    let rest = c.free_id_frees.ensures.rest before.book.book 0 window freed e in
    let none : LeavesNone before.book.book freed = (c.free_id_frees.ensures.complete before.book.book 0 window freed before.kept.finds e, c.free_id_frees.ensures.finds before.book.book 0 window freed before.kept.finds e) in
    let display = free_id-display before.book.book window freed other e in
    let kept =
    kept-left (world before.forest) (world c.next_window-made.new.forest) (world c.release.new.forest) before.book.book c.next_window-made.new.book.book freed before.kept c.keeps.ensures is none order rest display c.in-Err-made.ensures.kept_images
    (c.release.ensures.world ∙ ap (λ (gone : List Thing). fold images_without (world c.next_window-made.new.forest) gone) c.as_slice-2.ensures) c.next_window-made.ensures.book in
    c.release.ensures.moment 0 (display-lives (world c.release.new.forest) c.next_window-made.new.book.book kept) ∙ (λ i. c.next_window-made.ensures.moment i 0)
