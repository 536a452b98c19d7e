use Rattle.std.proofs.Common.{sym}
use Rattle.r9_device.proofs.device.Lookups.{image-of-used, public-used}
use Rattle.r9_draw.proofs.messages.screen.public_screen.Goals as goal

pub returns-clause-there : goal.returns-clause-there
returns-clause-there c = c.args.device.now.kept.screens c.in_ok-screen.screen (public-used c.args.device.now.book.book c.args.id c.in_ok-screen.screen (sym c.in_ok-screen.ensures))

pub returns-clause-image : goal.returns-clause-image
returns-clause-image c =
    let kept = c.args.device.now.kept in
    let there = kept.screens c.in_ok-screen.screen (public-used c.args.device.now.book.book c.args.id c.in_ok-screen.screen (sym c.in_ok-screen.ensures)) in
    kept.live _ (image-of-used c.args.device.now.book.book c.in_ok-screen.screen there)
