use Rattle.r9_device.specs.device.World.{world_of}
use Rattle.r9_draw.proofs.orders.Fitting.{window-some}
use Rattle.r9_draw.proofs.orders.Hosting.{dropped}
use Rattle.r9_draw.proofs.orders.Costs.{dropped-within}
use Rattle.r9_draw.proofs.orders.window.drop_window.Goals as goal

pub free_window-requires : goal.free_window-requires
free_window-requires g c = window-some (world_of c.args.device.now) c.args.window c.requires

pub returns-clause-dropped : goal.returns-clause-dropped
returns-clause-dropped g c =
    dropped c.free_window.result (world_of c.args.device.now) (world_of c.place_window.new.device) (world_of c.close_rio.new.device) (world_of c.free_window.new.device) c.args.window c.in_ok-place_window.ensures.placed c.in_ok-close_rio.ensures.closed
    c.free_window.ensures.freed

pub returns-clause-steps : goal.returns-clause-steps
returns-clause-steps g c =
    dropped-within c.free_window.result (world_of c.args.device.now) (world_of c.place_window.new.device) (world_of c.close_rio.new.device) c.args.window c.args.steps.now c.place_window.new.steps c.close_rio.new.steps c.free_window.new.steps
    c.in_ok-place_window.ensures.placed c.in_ok-close_rio.ensures.closed c.place_window.ensures.steps c.in_ok-close_rio.ensures.steps c.free_window.ensures.steps
