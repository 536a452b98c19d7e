-- Orders that end no connection of the window manager's.
use Rattle.std.specs.Prelude.{◌≡◌, ◌==◌, false}
use Rattle.r9_event.specs.declared.event.rio.Order.{Order}
use Rattle.r9_event.specs.declared.event.rio.Order.TheVariants.{Leave}
use Rattle.model_draw.specs.draw.Orders.{manager}

abbrev pub LeavesManager : Order → Type 0
LeavesManager (Leave client) = (client == manager) ≡ false
LeavesManager _ = Unit {0}
