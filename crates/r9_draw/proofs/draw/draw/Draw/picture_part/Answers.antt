use Rattle.std.proofs.Common.{◌≡◌, ◌∙◌, ◌≤◌, ℕ, List, length, drop, ap, sym, arith}
use Rattle.std.proofs.lemmas.List.{length-take}
use Rattle.std.proofs.lemmas.Result.{IfOk-weaker}
use Rattle.r9_geom.specs.declared.Point.{Point}
use Rattle.r9_geom.specs.Geometry.{holds}
use Rattle.r9_locate.specs.declared.info.Info.{Info}
use Rattle.model_pixel.specs.Channels.{depth}
use Rattle.model_pixel.specs.Rows.{rows_of}
use Rattle.model_draw.specs.imgfile.ImageFile.{file_part, image_file}
use Rattle.model_forest.specs.Paint.{paint}
use Rattle.r9_imgfile.specs.Touched.{touched}
use Rattle.r9_draw.specs.draw.Shown.{picture_in, shown_in}
use Rattle.r9_draw.specs.draw.World.{world_of}
use Rattle.r9_draw.proofs.draw.Pictures.{picture-painted}
use Rattle.r9_draw.proofs.draw.draw.Draw.picture_part.Goals as goal

pub unload-requires-clause-inside : goal.unload-requires-clause-inside
unload-requires-clause-inside c = λ p h. ap (λ (info : Info). holds info.r p) (sym c.info-info.ensures.told) ∙ c.touched_rows.ensures.inside p h

pub returns-clause-part : goal.returns-clause-part
returns-clause-part c =
    let world = world_of c.args.self.now in
    let shown = paint world.images (shown_in world c.args.image) in
    let info = c.info-info.result in
    let told = c.info-info.ensures.told in
    let offset = c.args.offset in
    let count = c.args.count in
    let is : c.as_slice.result.now ≡ rows_of (touched info.chan info.r offset count) (depth info.chan) shown =
    c.as_slice.ensures ∙ c.in_ok-rows.ensures ∙ (λ j. rows_of (c.touched_rows.ensures.value j) (depth (sym told j).chan) shown) in
    IfOk-weaker c.part.result
    (λ bytes. (pixel : Point → ℕ) → c.as_slice.result.now ≡ rows_of (touched info.chan info.r offset count) (depth info.chan) pixel → bytes ≡ file_part (image_file info.chan info.r (rows_of info.r (depth info.chan) pixel)) offset count)
    (λ bytes. bytes ≡ file_part (picture_in world c.args.image) offset count)
    (λ bytes part. part shown is
    ∙ ap (λ (told_of : Info). file_part (image_file told_of.chan told_of.r (rows_of told_of.r (depth told_of.chan) shown)) offset count) told
    ∙ sym (ap (λ (file : List ℕ). file_part file offset count) (picture-painted world c.args.image)))
    c.part.ensures

pub returns-clause-short : goal.returns-clause-short
returns-clause-short c =
    let file = picture_in (world_of c.args.self.now) c.args.image in
    IfOk-weaker c.part.result (λ bytes. bytes ≡ file_part file c.args.offset c.args.count) (λ bytes. length bytes ≤ c.args.count)
    (λ bytes is. omega (arith, ap length is, length-take c.args.count (drop c.args.offset file)))
    (returns-clause-part c)
