-- What the display shows and which of its cells are marked, and what became of both since a turn began.
use Rattle.std.specs.Prelude.{◌≡◌, ◌+◌, ◌-◌, ◌/◌, ◌^◌, ◌<◌, ◌≤◌, ℕ, Bool, true, false, not, is_some, min, Some}
use Rattle.r9_geom.specs.declared.Rect.{Rect}
use Rattle.r9_geom.specs.Geometry.{height, width}
use Rattle.model_pixel.specs.Channels.{depth}
use Rattle.r9_marks.specs.marks.Cells.{cells_over, count_cells}
use Rattle.model_forest.specs.World.{parent_of}
use Rattle.model_draw.specs.draw.World.{World, at_number}
use Rattle.r9_locate.specs.watched.Moments.{Moment}
use Rattle.r9_forest.specs.Marks.{shown_in, IsMoment}
use Rattle.r9_draw.specs.declared.draw.draw.Draw.{Draw}
use Rattle.r9_draw.specs.draw.World.{marked_in, marks_of, moment_of, world_of, writes_of}

-- the display's rectangle and its channels, its pixels by column and row, which of its cells of 32 by 32 pixels are marked and how many,
-- and whether it stands nowhere
pub record Display : Type 0 where
  pub r : Rect
  pub chan : ℕ
  pub pixels : (column row : ℕ) → ℕ
  pub marked : (column row : ℕ) → Bool
  pub count : ℕ
  pub nowhere : Bool

abbrev pub display_in : Draw → Display
display_in device = record {
  r = (at_number (world_of device) 0).r;
  chan = (at_number (world_of device) 0).chan;
  pixels = shown_in (world_of device).images 0;
  marked = marked_in device;
  count = marks_of device;
  nowhere = not (is_some (parent_of (world_of device).images 0));
}

-- the moment of the display is that at which the device was as it was then
pub record IsBegun (then now : Draw) : Type 0 where
  pub same : moment_of now ≡ moment_of then
  pub moment : (m : Moment) → moment_of then ≡ Some m → IsMoment m (display_in then).r (display_in then).pixels (display_in then).marked (display_in then).count (writes_of then)
  pub some : (display_in then).nowhere ≡ true → is_some (moment_of then) ≡ true

-- of the pixels that were written since then so many were counted, or 2^64 - 1 where there were more
abbrev pub AreCounted : Draw → Draw → ℕ → Type 0
AreCounted then now pixels = min (writes_of now) (writes_of then + (2 ^ 64 - 1)) ≤ writes_of then + pixels

-- Since then each cell of the display in which a pixel has changed was marked, none has lost its mark, and no more were marked than so
-- many pixels were written.
pub record IsMarked (then now : Display) (pixels : ℕ) : Type 0 where
  pub changed : (column row : ℕ) → column < width then.r → row < height then.r → column < width now.r → row < height now.r → now.marked (column / 32) (row / 32) ≡ false → now.pixels column row ≡ then.pixels column row
  pub kept : (column row : ℕ) → column < cells_over (width now.r) → row < cells_over (height now.r) → then.marked column row ≡ true → now.marked column row ≡ true
  pub few : now.count ≤ then.count + pixels

-- but for its marks a display is that of the device
pub record IsOf (device : World) (display : Display) : Type 0 where
  pub r : display.r ≡ (at_number device 0).r
  pub chan : display.chan ≡ (at_number device 0).chan
  pub pixels : display.pixels ≡ shown_in device.images 0
  pub nowhere : display.nowhere ≡ not (is_some (parent_of device.images 0))

-- as many cells are marked as it says, and its pixels have no more bits than its channels
pub record IsSound (display : Display) : Type 0 where
  pub counted : display.count ≡ count_cells (cells_over (width display.r)) (cells_over (height display.r)) display.marked
  pub fits : (column row : ℕ) → column < width display.r → row < height display.r → display.pixels column row < 2 ^ depth display.chan

-- the same display without marks
pub record IsCleared (before after : Display) : Type 0 where
  pub r : after.r ≡ before.r
  pub chan : after.chan ≡ before.chan
  pub pixels : after.pixels ≡ before.pixels
  pub marked : (column row : ℕ) → after.marked column row ≡ false
  pub count : after.count ≡ 0
  pub nowhere : after.nowhere ≡ before.nowhere
