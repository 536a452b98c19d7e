use Rattle.r9_device.specs.device.World.{world_of}
use Rattle.r9_device.proofs.device.AllUsed.{all-used}
use Rattle.r9_device.proofs.device.device.Device.keeps.Goals as goal

pub returns : goal.returns
returns c = all-used (world_of c.args.self.now) c.args.self.now.kept
