use Rattle.std.proofs.Common.{◌∙◌, ◌*◌, refl, sym, ap}
use Rattle.r9_geom.specs.Geometry.{height, holds}
use Rattle.model_pixel.specs.Channels.{depth}
use Rattle.model_pixel.specs.Rows.{row_bytes, row_pixel}
use Rattle.model_forest.specs.Draw.{after_load}
use Rattle.model_forest.specs.World.{image_at}
use Rattle.r9_locate.specs.locate.Table.{shape}
use Rattle.r9_pixels.specs.Kept.{kept_at}
use Rattle.r9_forest.specs.Images.{numbers, world}
use Rattle.r9_relist.proofs.arrive.Canvases.{bare_canvas}
use Rattle.r9_forest.proofs.Putting.{put_shown, put_sound, stored_sound}
use Rattle.r9_put.proofs.put.Putting.{written_same}
use Rattle.r9_forest.proofs.Raws.{row_pixel_below}
use Rattle.r9_forest.proofs.Showing.{bits_of}
use Rattle.r9_put.specs.put.Written.{IsWritten}
use Rattle.r9_forest.proofs.images.Images.load.Goals as goal

pub load_area-requires-clause-live : goal.load_area-requires-clause-live
unfolding world
load_area-requires-clause-live g c = (bare_canvas (shape c.args.self.now.lists) (kept_at c.args.self.now.pixels)).live c.args.i ∙ c.requires.live

pub load_area-requires-clause-of_image : goal.load_area-requires-clause-of_image
unfolding world
load_area-requires-clause-of_image g c p h =
    ap (λ r. holds r p) ((bare_canvas (shape c.args.self.now.lists) (kept_at c.args.self.now.pixels)).r c.args.i) ∙ c.requires.inside p h

pub load_area-requires-clause-rows : goal.load_area-requires-clause-rows
unfolding world
load_area-requires-clause-rows g c =
    let same = bare_canvas (shape c.args.self.now.lists) (kept_at c.args.self.now.pixels) in
    c.requires.rows ∙ ap (λ chan. row_bytes c.args.r (depth chan) * height c.args.r) (sym (same.chan c.args.i))

pub load_area-requires-clause-stored : goal.load_area-requires-clause-stored
load_area-requires-clause-stored g c = stored_sound c.args.self.now.lists c.args.self.now.pixels c.args.self.now.spare.items c.args.self.now.sound

pub load_area-requires-clause-bits : goal.load_area-requires-clause-bits
unfolding world
load_area-requires-clause-bits g c =
    let was = c.args.self.now in
    let same = bare_canvas (shape was.lists) (kept_at was.pixels) in
    bits_of was.lists was.pixels was.spare.items c.args.i was.sound c.requires.live ∙ ap depth (sym (same.chan c.args.i))

pub invariant_of-self : goal.invariant_of-self
unfolding world
invariant_of-self g c =
    let was = c.args.self.now in
    let here = world was in
    let same = bare_canvas (shape was.lists) (kept_at was.pixels) in
    let f = row_pixel c.args.r (depth (image_at here c.args.i).chan) c.args.rows.now in
    let written : IsWritten (shape was.lists) c.args.i (holds c.args.r) f was.pixels c.load_area.new.pixels = written_same (shape was.lists) c.args.i (holds c.args.r) (holds c.args.r) (row_pixel c.args.r (depth (image_at (shape was.lists) c.args.i).chan) c.args.rows.now) f was.pixels c.load_area.new.pixels
    (λ p. refl) (λ p h. ap (λ chan. row_pixel c.args.r (depth chan) c.args.rows.now p) (same.chan c.args.i)) c.load_area.ensures.written in
    record {
      sound =
          put_sound was.lists was.pixels c.load_area.new.pixels was.spare.items c.args.i (holds c.args.r) f was.sound c.requires.live c.requires.inside
          (λ p h. row_pixel_below c.args.r (image_at here c.args.i).chan c.args.rows.now p (was.sound.forest.images c.args.i c.requires.live).chan (λ j. (c.type_inv.rows j).fits))
          written;
      back = was.back;
      fills = was.fills;
    }

pub returns-clause-world : goal.returns-clause-world
unfolding world after_load
returns-clause-world g c =
    let was = c.args.self.now in
    let here = world was in
    let same = bare_canvas (shape was.lists) (kept_at was.pixels) in
    let f = row_pixel c.args.r (depth (image_at here c.args.i).chan) c.args.rows.now in
    put_shown was.lists was.pixels c.load_area.new.pixels was.spare.items c.args.i (holds c.args.r) f was.sound c.requires.live c.requires.inside
    (written_same (shape was.lists) c.args.i (holds c.args.r) (holds c.args.r) (row_pixel c.args.r (depth (image_at (shape was.lists) c.args.i).chan) c.args.rows.now) f was.pixels c.load_area.new.pixels
    (λ p. refl) (λ p h. ap (λ chan. row_pixel c.args.r (depth chan) c.args.rows.now p) (same.chan c.args.i)) c.load_area.ensures.written)

pub returns-clause-numbers : goal.returns-clause-numbers
unfolding numbers
returns-clause-numbers g c = refl

pub returns-clause-moment : goal.returns-clause-moment
returns-clause-moment g c = c.load_area.ensures.written.moment
