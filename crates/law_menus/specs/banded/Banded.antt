-- A menu's window while its bands are drawn (draw(3)).
use Rattle.std.specs.Prelude.{◌≡◌, ℕ, zero, suc, ◌+◌, ◌*◌, [], ◌∷◌, slice_index, Some, None, if◌then◌else◌}
use Rattle.r9_geom.specs.declared.Point.{Point}
use Rattle.r9_geom.specs.declared.Rect.{Rect}
use Rattle.r9_geom.specs.Geometry.{holds}
use Rattle.model_pixel.specs.Channels.{colour_of, pack}
use Rattle.model_draw_parts.specs.declared.images.Tie.{Tie}
use Rattle.model_draw_parts.specs.images.Book.{image_id, tie_of}
use Rattle.model_draw.specs.draw.World.{World, at_number}
use Rattle.model_draw.specs.draw.Orders.{border_pixel, manager, on_border, white}
use Rattle.model_rio.specs.rio.Table.{name_by}
use Rattle.model_clients.specs.page.Text.{box, rgb24}
use Rattle.law_text.specs.page.Page.{IsSheet}
use Rattle.model_clients.specs.piloted.History.{colours}

-- where a menu's window stands, and each of its bands
abbrev pub menu_box : (x y : ℕ) → Rect
menu_box x y = box x y (x + 48) (y + 88)

abbrev pub band_box : (x y item : ℕ) → Rect
band_box x y item = box (x + 4) (y + 4 + 16 * item) (x + 44) (y + 20 + 16 * item)

-- the pixel of a band
abbrev pub ink : (item : ℕ) → ℕ
ink item = pack rgb24 (colour_of (slice_index colours item))

-- a window that nothing was drawn on: white, with its border
abbrev pub blank : Rect → Point → ℕ
blank r p = if on_border r p then border_pixel rgb24 else white rgb24

-- and then so many bands
abbrev pub shaded : (x y count : ℕ) → Point → ℕ
shaded x y zero p = blank (menu_box x y) p
shaded x y (suc count) p = if holds (band_box x y count) p then ink count else shaded x y count p

-- A window has the image, on which nothing stands, and the image has the window's first name.
pub record HasSheet (device : World) (window i : ℕ) (r : Rect) (pixel : Point → ℕ) : Type 0 where
  pub shown : image_id device.book manager window ≡ Some (record { client = manager; id = window; image = i; tie = None })
  pub tie : Tie
  pub named : tie_of device.book (name_by (window ∷ []) 1) ≡ Some tie
  pub image : tie.image ≡ i
  pub sheet : IsSheet (at_number device i) r rgb24 pixel
