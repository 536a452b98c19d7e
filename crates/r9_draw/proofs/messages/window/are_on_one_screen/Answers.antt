use Rattle.std.proofs.Common.{◌≡◌, ◌<◌, ◌/◌, length, sym, ap, ◌∙◌, arith}
use Rattle.std.specs.Int.{w32}
use Rattle.model_draw.specs.draw.Moving.{is_on_screen}
use Rattle.model_draw_parts.specs.images.Book.{screen_of}
use Rattle.r9_device.specs.device.World.{world_of}
use Rattle.r9_draw.specs.messages.Restacking.{group_of, ids_of}
use Rattle.model_draw_parts.proofs.dmsg.Rest.{length-numbers_of}
use Rattle.r9_draw.proofs.messages.Group.{none-one, one-all, one-elsewhere, one-further, one-screen, shown-length}
use Rattle.r9_draw.proofs.messages.window.are_on_one_screen.Goals as goal

pub returns-then-len-eq0 : goal.returns-then-len-eq0
returns-then-len-eq0 c =
    let world = world_of c.args.device.now in
    let many = shown-length c.args.client world (ids_of c.args.asked.now) c.requires ∙ length-numbers_of w32 _ c.args.asked.now.ids.now in
    sym (none-one world.book (group_of c.args.client world c.args.asked.now) (many ∙ sym c.len.ensures ∙ c.if-len-eq0.true))

pub returns-then-not-is_on_screen : goal.returns-then-not-is_on_screen
returns-then-not-is_on_screen c =
    let world = world_of c.args.device.now in
    let group = group_of c.args.client world c.args.asked.now in
    let many : length group ≡ length c.args.asked.now.ids.now / 4 = shown-length c.args.client world (ids_of c.args.asked.now) c.requires ∙ length-numbers_of w32 _ c.args.asked.now.ids.now in
    let end = c.len-k-end.ensures in
    let below = c.loop-k-test.true in
    let here : c.loop-k.k < length group = omega (arith, many, end, below) in
    let p = is_on_screen world.book c.screen_of-screen.result in
    let screen = c.screen_of-screen.ensures ∙ ap (screen_of world.book) c.window_at-first.ensures in
    sym (one-screen world.book group c.screen_of-screen.result (omega (arith, here)) screen
    ∙ one-elsewhere p group c.loop-k.k (omega arith) here (ap p (sym c.window_at.ensures) ∙ sym c.is_on_screen.ensures ∙ c.if-not-is_on_screen.true))

pub loop-k-preserved : goal.loop-k-preserved
loop-k-preserved c =
    let world = world_of c.args.device.now in
    let group = group_of c.args.client world c.args.asked.now in
    let many : length group ≡ length c.args.asked.now.ids.now / 4 = shown-length c.args.client world (ids_of c.args.asked.now) c.requires ∙ length-numbers_of w32 _ c.args.asked.now.ids.now in
    let end = c.len-k-end.ensures in
    let below = c.loop-k-test.true in
    let p = is_on_screen world.book c.screen_of-screen.result in
    one-further p group c.loop-k.k (omega arith) (omega (arith, many, end, below)) (ap p (sym c.window_at.ensures) ∙ sym c.is_on_screen.ensures ∙ c.if-not-is_on_screen.false) c.loop-k.invariant

pub returns : goal.returns
returns c =
    let world = world_of c.args.device.now in
    let group = group_of c.args.client world c.args.asked.now in
    let many : length group ≡ length c.args.asked.now.ids.now / 4 = shown-length c.args.client world (ids_of c.args.asked.now) c.requires ∙ length-numbers_of w32 _ c.args.asked.now.ids.now in
    let end = c.len-k-end.ensures in
    let above = c.loop-k-test.false in
    let some = c.if-len-eq0.false in
    let len = c.len.ensures in
    let p = is_on_screen world.book c.screen_of-screen.result in
    let screen = c.screen_of-screen.ensures ∙ ap (screen_of world.book) c.window_at-first.ensures in
    sym (one-screen world.book group c.screen_of-screen.result (omega (arith, many, some, len)) screen
    ∙ one-all p group c.loop-k.k (omega arith) (omega (arith, many, end, above)) c.loop-k.invariant)
