use Rattle.std.proofs.Common.{sym}
use Rattle.r9_device.proofs.device.Lookups.{fill-of-used, image-of-used, screen-used}
use Rattle.r9_draw.proofs.messages.screen.screen_named.Goals as goal

pub returns-clause-there : goal.returns-clause-there
returns-clause-there c = c.args.device.now.kept.screens c.in_ok-screen.screen (screen-used c.args.device.now.book.book c.args.client c.args.id c.in_ok-screen.screen (sym c.in_ok-screen.ensures))

pub returns-clause-image : goal.returns-clause-image
returns-clause-image c =
    let kept = c.args.device.now.kept in
    let there = kept.screens c.in_ok-screen.screen (screen-used c.args.device.now.book.book c.args.client c.args.id c.in_ok-screen.screen (sym c.in_ok-screen.ensures)) in
    kept.live _ (image-of-used c.args.device.now.book.book c.in_ok-screen.screen there)

pub returns-clause-fill : goal.returns-clause-fill
returns-clause-fill c =
    let kept = c.args.device.now.kept in
    let there = kept.screens c.in_ok-screen.screen (screen-used c.args.device.now.book.book c.args.client c.args.id c.in_ok-screen.screen (sym c.in_ok-screen.ensures)) in
    kept.live _ (fill-of-used c.args.device.now.book.book c.in_ok-screen.screen there)
