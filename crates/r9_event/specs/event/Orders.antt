-- What orders leave alone.
use Rattle.std.specs.Prelude.{List, All}
use Rattle.r9_event.specs.declared.event.rio.Order.{Order}
use Rattle.r9_event.specs.declared.event.rio.Order.TheVariants.{Leave}

-- the order ends no connection to the draw device
abbrev pub EndsNoConnection : Order → Type 0
EndsNoConnection (Leave client) = ⊥
EndsNoConnection _ = Unit {0}

abbrev pub EndNoConnection : List Order → Type 0
EndNoConnection = All EndsNoConnection
