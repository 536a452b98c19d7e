use Rattle.std.proofs.Common.{sym}
use Rattle.r9_layers.specs.Forest.{world}
use Rattle.r9_device.proofs.device.Lookups.{display-lives, shown-used}
use Rattle.r9_device.proofs.device.device.Device.image_shown.Goals as goal

pub returns-in-Some-clause-live : goal.returns-in-Some-clause-live
returns-in-Some-clause-live c =
    let before = c.args.self.now in
    before.kept.live c.in-Some.image (shown-used before.book.book 0 c.args.window c.in-Some.image (sym c.in-Some.ensures))

pub returns-in-None-clause-live : goal.returns-in-None-clause-live
returns-in-None-clause-live c =
    let before = c.args.self.now in
    display-lives (world before.forest) before.book.book before.kept
