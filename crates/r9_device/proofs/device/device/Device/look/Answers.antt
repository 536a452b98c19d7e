use Rattle.std.proofs.Common.{sym}
use Rattle.r9_device.proofs.device.Lookups.{image-used}
use Rattle.r9_device.proofs.device.device.Device.look.Goals as goal

pub returns-clause-live : goal.returns-clause-live
returns-clause-live c = c.args.self.now.kept.live c.in_ok-image.image (image-used c.args.self.now.book.book c.args.client c.args.id c.in_ok-image.image (sym c.in_ok-image.ensures))
