-- What a plane was at a moment that proofs look back to, and what its marks tell of the time since then.
use Rattle.std.specs.Prelude.{◌≡◌, ◌+◌, ◌/◌, ◌<◌, ◌≤◌, ℕ, Bool, true, false, Option, if◌then◌else◌, ◌==◌}
use Rattle.r9_geom.specs.declared.Rect.{Rect}
use Rattle.r9_geom.specs.Geometry.{height, point_at, width}
use Rattle.r9_marks.specs.marks.Cells.{cells_over}
use Rattle.r9_plane.specs.declared.plane.Plane.{Plane}
use Rattle.r9_plane.specs.Marks.{mark_count, marked_at}
use Rattle.r9_plane.specs.Pixels.{pixel_at, rect_of}

-- the pixel in a column and row of a plane, both counted from its min
abbrev pub pixel_in : Plane → (column row : ℕ) → ℕ
pixel_in plane column row = pixel_at plane (point_at (rect_of plane) column row)

-- its pixels, which cells of 32 by 32 of them were marked, and how many; and how many pixels had been written by then, on it and elsewhere
pub record Moment : Type 0 where
  pub pixels : (column row : ℕ) → ℕ
  pub marked : (column row : ℕ) → Bool
  pub count : ℕ
  pub writes : ℕ

-- the moment at which a plane is as it is, when so many pixels have been written
abbrev pub moment_at : Plane → (writes : ℕ) → Moment
moment_at plane writes = record { pixels = pixel_in plane; marked = marked_at plane; count = mark_count plane; writes = writes }

-- Since the moment each cell of a rectangle in which a pixel has changed was marked, and none has lost its mark.
pub record IsSince (moment : Moment) (r : Rect) (pixels : (column row : ℕ) → ℕ) (marked : (column row : ℕ) → Bool) : Type 0 where
  pub unmarked : (column row : ℕ) → column < width r → row < height r → marked (column / 32) (row / 32) ≡ false → pixels column row ≡ moment.pixels column row
  pub kept : (column row : ℕ) → column < cells_over (width r) → row < cells_over (height r) → moment.marked column row ≡ true → marked column row ≡ true

-- since the moment no more cells were marked than pixels were written
abbrev pub IsFew : Moment → (count writes : ℕ) → Type 0
IsFew moment count writes = count + moment.writes ≤ moment.count + writes

-- the moments of images, where one has another, or none
abbrev pub with_moment : ℕ → Option Moment → (ℕ → Option Moment) → ℕ → Option Moment
with_moment i moment moments n = if n == i then moment else moments n
