-- Images that show what painting gives: all that stands on an image, put over it from back to front.
use Rattle.std.specs.Prelude.{◌≡◌, ℕ, List, true, Ok}
use Rattle.r9_geom.specs.declared.Point.{Point}
use Rattle.r9_geom.specs.declared.Rect.{Rect}
use Rattle.r9_geom.specs.Geometry.{holds}
use Rattle.model_pixel.specs.Channels as channels
use Rattle.model_pixel.specs.Rows.{rows_of}
use Rattle.model_forest.specs.World.{World as Images, image_at}
use Rattle.model_forest.specs.View.{view, view_within}
use Rattle.model_forest.specs.Paint.{paint, paint_within}
use Rattle.model_draw.specs.draw.World.{World, at_number, client_of, look, with_client}
use Rattle.model_draw.specs.draw.Drawing.{read_pixels, rows_shown}
use Rattle.model_draw.specs.draw.Files.{screen_file}
use Rattle.model_draw.specs.draw.Orders.{image_shown, picture_of}
use Rattle.model_draw.specs.imgfile.ImageFile.{image_file}

-- at each point of an image, what it shows is what is painted
pub record IsPainted (images : Images) : Type 0 where
  pub shown : (i : ℕ) (p : Point) → holds (image_at images i).r p ≡ true → view images i p ≡ paint images i p
  -- also seen through so many windows at most, and painted so far
  pub deep : (depth i : ℕ) (p : Point) → holds (image_at images i).r p ≡ true → view_within depth images i p ≡ paint_within depth images i p

-- an image as a file (image(6)), with what it shows
abbrev pub file_shown : World → ℕ → List ℕ
file_shown device i =
    let image = at_number device i in image_file image.chan image.r (rows_shown device i image.r)

-- what is read of images is what is painted
pub record ReadsPainting (device : World) : Type 0 where
  -- what `r` makes pending, if it is not refused
  pub rows :
      (client id i : ℕ) (r : Rect) (next : World)
      → look device client id ≡ Ok i
      → read_pixels client device id r ≡ Ok next
      → next ≡ with_client device client (record (client_of device client) {
        pending = rows_of r (channels.depth (at_number device i).chan) (paint device.images i);
      })
  -- the file `screen`, which is painted, has what the display shows, and the picture of a window what its image shows
  pub screen : screen_file device ≡ file_shown device 0
  pub picture : (window : ℕ) → picture_of device window ≡ file_shown device (image_shown device window)
