-- The draw device as the definitions have it.
use Rattle.std.specs.Prelude.{ℕ, Bool, Option}
use Rattle.r9_locate.specs.watched.Moments.{Moment}
use Rattle.r9_layers.specs.Forest as forest
use Rattle.model_draw.specs.draw.World.{World}
use Rattle.r9_device.specs.declared.device.device.Device.{Device}

-- the world of a device
abbrev pub world_of : Device → World
world_of d = record {
  opening = record { r = d.opening.r; chan = d.opening.chan };
  images = forest.world d.forest;
  numbers = forest.numbers d.forest;
  book = d.book.book;
  clients = d.clients.entries;
}

-- what the display was at the moment that proofs look back to, and how many pixels have been written
abbrev pub moment_of : Device → Option Moment
moment_of d = forest.moment d.forest 0

abbrev pub writes_of : Device → ℕ
writes_of d = forest.writes d.forest

-- whether a cell of the display is marked, and how many are
abbrev pub marked_in : Device → (column row : ℕ) → Bool
marked_in d = forest.marked d.forest 0

abbrev pub marks_of : Device → ℕ
marks_of d = forest.mark_count d.forest 0
