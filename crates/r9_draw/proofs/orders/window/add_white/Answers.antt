use Rattle.model_forest.specs.Numbers.{next_number}
use Rattle.r9_layers.specs.Forest.{numbers, world}
use Rattle.r9_draw.proofs.orders.Ordered.{can-hold, fresh-other, fresh-taken, kept-white, white-lives, white-ok, white-rect, white-stands}
use Rattle.r9_device.proofs.device.Spare.{spare-added}
use Rattle.r9_device.proofs.device.Ties.{ties-made}
use Rattle.std.proofs.Common.{Some}
use Rattle.r9_draw.proofs.orders.Costs.{white-placed}
use Rattle.r9_draw.proofs.orders.window.add_white.Goals as goal

pub put_white-requires-clause-fresh : goal.put_white-requires-clause-fresh
put_white-requires-clause-fresh g c =
    let before = c.args.device.now in
    fresh-taken before.book.book c.args.window c.requires.fresh (fresh-other (world before.forest) before.book.book c.args.window before.kept c.requires.fresh)

pub put_white-requires-clause-screen : goal.put_white-requires-clause-screen
put_white-requires-clause-screen g c =
    let before = c.args.device.now in
    can-hold (world before.forest) before.book.book c.args.screen before.kept c.requires.screen

pub invariant_of-device-clause-kept : goal.invariant_of-device-clause-kept
invariant_of-device-clause-kept g c =
    let before = c.args.device.now in
    kept-white c.put_white.result (world before.forest) (world c.put_white.new.forest) before.book.book c.put_white.new.book.book c.args.window (next_number (numbers before.forest)) c.args.screen c.args.place _ before.kept c.requires.fresh c.requires.screen
    c.requires.points c.requires.near c.put_white.ensures.free c.put_white.ensures.made c.put_white.ensures.book c.put_white.ensures.kept_images c.put_white.ensures.kept_book

pub invariant_of-device-clause-spare : goal.invariant_of-device-clause-spare
invariant_of-device-clause-spare g c =
    let before = c.args.device.now in
    let n = next_number (numbers before.forest) in
    let free = fresh-taken before.book.book c.args.window c.requires.fresh (fresh-other (world before.forest) before.book.book c.args.window before.kept c.requires.fresh) in
    spare-added c.put_white.result before.book.book c.put_white.new.book.book 0 c.args.window n (Some c.args.screen) before.spare (white-ok c.put_white.result before.book.book c.put_white.new.book.book c.args.window n c.args.screen free c.put_white.ensures.book) c.put_white.ensures.kept_book

pub invariant_of-device-clause-ties : goal.invariant_of-device-clause-ties
invariant_of-device-clause-ties g c =
    let before = c.args.device.now in
    let n = next_number (numbers before.forest) in
    let free = fresh-taken before.book.book c.args.window c.requires.fresh (fresh-other (world before.forest) before.book.book c.args.window before.kept c.requires.fresh) in
    ties-made c.put_white.result before.book.book c.put_white.new.book.book 0 c.args.window n (Some c.args.screen) before.ties (white-ok c.put_white.result before.book.book c.put_white.new.book.book c.args.window n c.args.screen free c.put_white.ensures.book) c.put_white.ensures.kept_book

pub returns-clause-live : goal.returns-clause-live
returns-clause-live g c =
    let before = c.args.device.now in
    let can = can-hold (world before.forest) before.book.book c.args.screen before.kept c.requires.screen in
    white-lives c.put_white.result (world before.forest) (world c.put_white.new.forest) c.args.place _
    (white-stands c.put_white.result (world before.forest) (world c.put_white.new.forest) before.book.book (next_number (numbers before.forest)) c.args.screen c.args.place _ can.image c.put_white.ensures.number c.put_white.ensures.free c.put_white.ensures.made)

pub returns-clause-rect : goal.returns-clause-rect
returns-clause-rect g c =
    let before = c.args.device.now in
    let can = can-hold (world before.forest) before.book.book c.args.screen before.kept c.requires.screen in
    white-rect c.put_white.result (world before.forest) (world c.put_white.new.forest) c.args.place _
    (white-stands c.put_white.result (world before.forest) (world c.put_white.new.forest) before.book.book (next_number (numbers before.forest)) c.args.screen c.args.place _ can.image c.put_white.ensures.number c.put_white.ensures.free c.put_white.ensures.made)

pub returns-clause-stands : goal.returns-clause-stands
returns-clause-stands g c =
    let before = c.args.device.now in
    let can = can-hold (world before.forest) before.book.book c.args.screen before.kept c.requires.screen in
    white-placed c.put_white.result (world before.forest) (world c.put_white.new.forest) before.book.book (next_number (numbers before.forest)) c.args.screen c.args.place _ can.image c.put_white.ensures.number c.put_white.ensures.free c.put_white.ensures.made
