-- The messages that draw, read and write pixels (draw(3)). Each gives the world after it, or its first refusal.
use Rattle.std.specs.Prelude.{ℕ, not, ◌||◌, nat_lt, List, length, take, Some, Ok}
use Rattle.r9_geom.specs.declared.Point.{Point}
use Rattle.r9_geom.specs.declared.Rect.{Rect}
use Rattle.r9_geom.specs.Geometry.{is_empty, is_inside}
use Rattle.model_pixel.specs.Channels.{depth}
use Rattle.model_pixel.specs.Rows.{row_pixel, rows_of}
use Rattle.model_text.specs.text.Outcome.{Outcome, ◌>>=◌, refuse_if}
use Rattle.model_draw.specs.imgfile.ImageFile.{rows_len}
use Rattle.model_forest.specs.View.{view}
use Rattle.model_forest.specs.Draw.{Drawing, after_draw, after_load}
use Rattle.model_draw.specs.draw.World.{World, client_of, with_client, with_images, look, at_number, s_over_d}

-- the operator serves one message
abbrev pub with_operator : World → ℕ → ℕ → World
with_operator world k op = with_client world k (record (client_of world k) { op = op })

unfoldable pub drawing_of : ℕ → World → (dstid srcid maskid : ℕ) → Rect → Point → Point → Outcome Drawing
drawing_of k world dstid srcid maskid dstr srcp maskp = do
  dst ← look world k dstid
  src ← look world k srcid
  mask ← look world k maskid
  Ok
      (record {
        dst = dst;
        clip = dstr;
        r = dstr;
        src = src;
        sp = srcp;
        mask = Some mask;
        mp = maskp;
        op = (client_of world k).op;
      })

-- `d`: draw
unfoldable pub draw : ℕ → World → (dstid srcid maskid : ℕ) → Rect → Point → Point → Outcome World
draw k world dstid srcid maskid dstr srcp maskp = do
  drawing ← drawing_of k world dstid srcid maskid dstr srcp maskp
  Ok (with_operator (with_images world (after_draw world.images drawing)) k s_over_d)

-- `O`: the operator of the next drawing
unfoldable pub set_operator : ℕ → World → ℕ → Outcome World
set_operator k world op = do
  _ ← refuse_if (nat_lt 11 op) 21
  Ok (with_operator world k op)

-- most bytes of one `r`
abbrev pub most_read : ℕ
most_read = 65536

-- the rows of what an image shows
abbrev pub rows_shown : World → ℕ → Rect → List ℕ
rows_shown world i r = rows_of r (depth (at_number world i).chan) (view world.images i)

-- `r`: the rows of what an image shows become the pending bytes
unfoldable pub read_pixels : ℕ → World → ℕ → Rect → Outcome World
read_pixels k world id r = do
  i ← look world k id
  _ ← refuse_if (is_empty r || not (is_inside r (at_number world i).r)) 12
  _ ← refuse_if (nat_lt most_read (rows_len (at_number world i).chan r)) 25
  Ok (with_client world k (record (client_of world k) { pending = rows_shown world i r }))

-- rows written into a rectangle of an image
abbrev pub with_rows : World → ℕ → Rect → List ℕ → World
with_rows world i r rows =
    with_images world (after_load world.images i r (row_pixel r (depth (at_number world i).chan) rows))

-- `y`: the rows stand first in the bytes behind the message
unfoldable pub write_pixels : ℕ → World → ℕ → Rect → List ℕ → Outcome World
write_pixels k world id r rest = do
  i ← look world k id
  _ ← refuse_if (is_empty r || not (is_inside r (at_number world i).r)) 13
  _ ← refuse_if (nat_lt (length rest) (rows_len (at_number world i).chan r)) 1
  Ok (with_rows world i r (take (rows_len (at_number world i).chan r) rest))
