-- A window of text: its sides, and where the next character goes.
use Rattle.std.specs.Prelude.{◌≡◌, ℕ, ◌+◌, ◌-◌, ◌*◌, ◌^◌, ◌<◌, ◌≤◌, min, length}
use Rattle.model_client.specs.textwin.Wrap.{Page}
use Rattle.model_client.specs.declared.textwin.Move.{Move}
use Rattle.model_client.specs.declared.textwin.Move.TheVariants.{Scroll, Put}

-- a window's columns and rows, and where in it the next character goes
pub record Spot : Type 0 where
  pub columns : ℕ
  pub rows : ℕ
  pub row : ℕ
  pub column : ℕ

pub record IsSpot (s : Spot) : Type 0 where
  pub wide : 1 ≤ s.columns
  pub row : s.row < s.rows
  pub column : s.column ≤ s.columns

-- a window, with the sides of a character in pixels
pub record Window : Type 0 where
  pub width : ℕ
  pub height : ℕ
  pub spot : Spot

-- its rectangle is near
pub record IsWindow (w : Window) : Type 0 where
  pub across : w.spot.columns * w.width ≤ 2 ^ 32
  pub down : w.spot.rows * w.height ≤ 2 ^ 32

-- the place behind the last of some rows
pub record IsBehind (s : Spot) (p : Page) : Type 0 where
  pub row : s.row ≡ min (length p.above) (s.rows - 1)
  pub column : s.column ≡ length p.last

-- a window has some rows of text
abbrev pub Stands : Window → Page → Type 0
Stands w p = IsBehind w.spot p

-- characters that are put stand in rows and columns of a window of so many, and there are some
abbrev pub IsWithin : (columns rows : ℕ) → Move → Type 0
IsWithin columns rows Scroll = Unit {0}
IsWithin columns rows (Put row column codes) = (row < rows) × (column + length codes ≤ columns) × (0 < length codes)

-- two windows have the same columns, rows and characters' sides
pub record SameSides (old new : Window) : Type 0 where
  pub columns : new.spot.columns ≡ old.spot.columns
  pub rows : new.spot.rows ≡ old.spot.rows
  pub width : new.width ≡ old.width
  pub height : new.height ≡ old.height
