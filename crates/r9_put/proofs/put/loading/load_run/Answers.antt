use Rattle.std.proofs.Common.{◌≡◌, ◌∙◌, ◌*◌, ◌^◌, length, sym, ap, arith}
use Rattle.std.specs.Prelude.{slice_index}
use Rattle.r9_geom.specs.declared.Point.{Point as Spot}
use Rattle.r9_geom.specs.Geometry.{distance, height, holds, strip}
use Rattle.r9_geom.proofs.GeometryLemmas.{strip_distance}
use Rattle.model_pixel.specs.Channels.{depth}
use Rattle.model_pixel.specs.Rows.{row_bytes, row_pixel}
use Rattle.model_forest.specs.World.{Image, image_at}
use Rattle.r9_plane.specs.Pixels.{along}
use Rattle.r9_locate.specs.locate.Table.{shape}
use Rattle.r9_locate.proofs.locate.Locating.{strip_at}
use Rattle.r9_put.proofs.put.Putting.{written_same}
use Rattle.r9_put.proofs.put.loading.load_run.Goals as goal

pub read_rows-requires-clause-rows : goal.read_rows-requires-clause-rows
read_rows-requires-clause-rows g c =
    let bits : c.depth.result ≡ depth (image_at (shape c.args.lists.now) c.args.i).chan = c.depth.ensures.value ∙ ap (λ (im : Image). depth im.chan) (sym c.get.ensures) in
    c.requires.rows ∙ ap (λ n. row_bytes c.args.r.now n * height c.args.r.now) (sym bits)

pub put_side_by_side-requires-clause-inside : goal.put_side_by_side-requires-clause-inside
put_side_by_side-requires-clause-inside g c p h =
    c.requires.of_image p (c.requires.inside p (ap (λ n. holds (strip c.args.at n) p) (sym c.read_rows.auto.raws) ∙ h))

pub put_side_by_side-requires-clause-below : goal.put_side_by_side-requires-clause-below
put_side_by_side-requires-clause-below g c k lower =
    let bits : c.depth.result ≡ depth (image_at (shape c.args.lists.now) c.args.i).chan = c.depth.ensures.value ∙ ap (λ (im : Image). depth im.chan) (sym c.get.ensures) in
    let power = ap (λ n. 2 ^ n) (c.requires.bits ∙ sym bits) in
    omega (arith, c.read_rows.ensures.range k (omega (arith, lower, c.read_rows.auto.raws)), power)

pub returns-clause-written : goal.returns-clause-written
returns-clause-written g c =
    let w = shape c.args.lists.now in
    let r = c.args.r.now in
    let at = c.args.at in
    let rows = c.args.rows.now in
    let raws = c.read_rows.new.raws in
    let bits : c.depth.result ≡ depth (image_at w c.args.i).chan = c.depth.ensures.value ∙ ap (λ (im : Image). depth im.chan) (sym c.get.ensures) in
    written_same w c.args.i (holds (strip at (length raws))) (holds (strip at (length c.args.raws.now))) (λ p. slice_index raws (distance at.x p.x)) (row_pixel r (depth (image_at w c.args.i).chan) rows) c.args.pixels.now c.put_side_by_side.new.pixels
    (λ p. ap (λ n. holds (strip at n) p) (sym c.read_rows.auto.raws))
    (λ p h.
    let found = strip_at at p (length c.args.raws.now) h in
    ap (slice_index raws) (strip_distance at p found.0 (ap (λ (q : Spot). q.x) found.2))
    ∙ c.read_rows.ensures.pixels found.0 found.1
    ∙ ap (λ n. row_pixel r n rows (along at found.0)) bits
    ∙ ap (row_pixel r (depth (image_at w c.args.i).chan) rows) (sym found.2))
    c.put_side_by_side.ensures.written
