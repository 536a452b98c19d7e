-- What a mirror shows: the display with the cursor over it.
use Rattle.std.specs.Prelude.{ℕ, Option, Some, None, if◌then◌else◌}
use Rattle.std.specs.Option.{unwrap_or}
use Rattle.r9_geom.specs.declared.Point.{Point}
use Rattle.r9_geom.specs.Geometry.{height, holds, width}
use Rattle.model_forest.specs.Paint.{paint}
use Rattle.model_draw.specs.draw.World as draw
use Rattle.model_draw.specs.draw.World.{at_number}
use Rattle.model_client.specs.cursor.Cursor.{cursor_at}
use Rattle.model_client.specs.mirror.Picture.{Picture}
use Rattle.model_world.specs.World.{World}

-- a picture with the cursor over it, where there is one
abbrev pub under_cursor : (chan : ℕ) → Option Point → (Point → ℕ) → Point → ℕ
under_cursor chan None pixel p = pixel p
under_cursor chan (Some at) pixel p = unwrap_or (cursor_at chan at p) (pixel p)

-- the display, painted from back to front, with the cursor over it
abbrev pub display_with : Option Point → draw.World → Picture
display_with pointer device =
    let display = at_number device 0 in record {
      width = width display.r;
      height = height display.r;
      pixel = λ p. if holds display.r p then under_cursor display.chan pointer (paint device.images 0) p else 0;
    }

-- the cursor stands where the mouse was last
abbrev pub mirrored : World → Picture
mirrored world = display_with world.desktop.pointer world.desktop.device
