use Rattle.std.proofs.Common.{sym}
use Rattle.r9_device.specs.device.World.{world_of}
use Rattle.r9_draw.proofs.orders.Fitting.{rio-found, rio-screen}
use Rattle.r9_draw.proofs.orders.there.rio_screen.Goals as goal

pub unreachable-requires : goal.unreachable-requires
unreachable-requires c = rio-found (world_of c.args.device.now) c.args.host c.in-Err.field-0 c.requires (sym c.in-Err.ensures)

pub returns : goal.returns
returns c = rio-screen (world_of c.args.device.now) c.args.host c.in-Ok.screen (sym c.in-Ok.ensures)
