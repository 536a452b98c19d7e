use Rattle.r9_device.specs.device.Forest.{world}
use Rattle.r9_device.proofs.device.Lookups.{display-lives}
use Rattle.r9_draw.proofs.draw.draw.Draw.since.Goals as goal

pub since-requires : goal.since-requires
since-requires c =
    let device = c.args.self.now.device in
    record { live = display-lives (world device.forest) device.book.book device.kept }
