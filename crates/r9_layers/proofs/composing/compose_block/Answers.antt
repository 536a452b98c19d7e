use Rattle.std.proofs.Common.{◌≡◌, ◌∙◌, ℕ, ◌<◌, true, length, get_or, take, sym, subst, arith}
use Rattle.r9_geom.specs.Geometry.{carried, holds, strip}
use Rattle.model_pixel.specs.Composition.{composed_raw}
use Rattle.r9_chan.specs.Op.{number}
use Rattle.r9_plane.specs.Pixels.{along}
use Rattle.model_forest.specs.View.{at}
use Rattle.model_forest.specs.World.{image_at}
use Rattle.r9_forest.specs.Images.{world}
use Rattle.r9_layers.specs.Area.{drawing_of, mask_chan}
use Rattle.r9_layers.specs.Way.{AreMasksOf, IsSingleOf}
use Rattle.r9_layers.proofs.Areas.{area_point}
use Rattle.r9_layers.proofs.Blocks.{block, length-written, short, written}
use borrow.Rule.Slice.PartMut.{put_mid}
use Rattle.r9_layers.proofs.composing.compose_block.Goals as goal

pub read_at-requires-clause-inside : goal.read_at-requires-clause-inside
read_at-requires-clause-inside c p h =
    let n = length c.args.row.now in
    let P : ℕ → Type 0 = λ m. holds (strip c.args.at m) p ≡ true in
    (area_point (world c.args.images.now) (drawing_of c.args.task.now) p
    (c.requires.inside p (subst P (short n c.requires.few) h))).source

pub returns-in-Single : goal.returns-in-Single
returns-in-Single c k below =
    let n = length c.args.row.now in
    let long = short n c.requires.few in
    let inside : k < length (take n block) = omega (arith, long) in
    let task = c.args.task.now in
    let W = world c.args.images.now in
    let s : get_or (take n (put_mid 0 n block c.read_at.new.raws)) k 0 ≡ at W task.src (carried (along c.args.at k) task.r.min task.sp) =
    written n c.read_at.new.raws k (c.read_at.auto.raws ∙ long) below ∙ c.read_at.ensures k inside in
    let single : IsSingleOf W task c.in-Single.through = subst (AreMasksOf W task) c.in-Single.is c.requires.way.through in
    c.compose.ensures _ _ _ _ _ single.serves k (omega (arith, c.compose.auto.d, below))
    ∙ (λ i. composed_raw (image_at W task.dst).chan (image_at W task.src).chan (mask_chan W task.mask) (number task.op) (s i) (sym (single.all (along c.args.at k)) i) (get_or c.args.row.now k 0))

pub compose_masked-requires-clause-chans : goal.compose_masked-requires-clause-chans
compose_masked-requires-clause-chans c = subst (AreMasksOf (world c.args.images.now) c.args.task.now) c.in-Image.is c.requires.way.through

pub compose_masked-requires-clause-sources : goal.compose_masked-requires-clause-sources
compose_masked-requires-clause-sources c =
    let n = length c.args.row.now in
    length-written n c.read_at.new.raws (c.read_at.auto.raws ∙ short n c.requires.few)

pub compose_masked-requires-clause-source : goal.compose_masked-requires-clause-source
compose_masked-requires-clause-source c k below =
    let n = length c.args.row.now in
    let long = short n c.requires.few in
    written n c.read_at.new.raws k (c.read_at.auto.raws ∙ long) below ∙ c.read_at.ensures k (omega (arith, below, long))
