use Rattle.r9_device.specs.device.Forest.{world}
use Rattle.r9_device.proofs.device.Lookups.{display-lives}
use Rattle.r9_draw.proofs.draw.draw.Draw.marked.Goals as goal

pub marked-requires-clause-live : goal.marked-requires-clause-live
marked-requires-clause-live c =
    let device = c.args.self.now.device in
    display-lives (world device.forest) device.book.book device.kept
