-- The draw device as the definitions have it.
use Rattle.std.specs.Prelude.{ℕ, Bool, Option}
use Rattle.r9_locate.specs.watched.Moments.{Moment}
use Rattle.model_draw.specs.draw.World.{World}
use Rattle.r9_device.specs.device.World as device
use Rattle.r9_draw.specs.declared.draw.draw.Draw.{Draw}

-- the world of a device
abbrev pub world_of : Draw → World
world_of d = device.world_of d.device

-- what the display was at the moment that proofs look back to, and how many pixels have been written
abbrev pub moment_of : Draw → Option Moment
moment_of d = device.moment_of d.device

abbrev pub writes_of : Draw → ℕ
writes_of d = device.writes_of d.device

-- whether a cell of the display is marked, and how many are
abbrev pub marked_in : Draw → (column row : ℕ) → Bool
marked_in d = device.marked_in d.device

abbrev pub marks_of : Draw → ℕ
marks_of d = device.marks_of d.device
