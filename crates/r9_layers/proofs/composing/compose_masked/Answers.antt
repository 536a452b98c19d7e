use Rattle.std.proofs.Common.{◌≡◌, ◌∙◌, ℕ, ◌<◌, true, length, get_or, take, subst, arith}
use Rattle.r9_geom.specs.Geometry.{holds, strip}
use Rattle.model_pixel.specs.Composition.{composed_raw}
use Rattle.r9_chan.specs.Op.{number}
use Rattle.r9_plane.specs.Pixels.{along}
use Rattle.r9_forest.specs.Images.{world}
use Rattle.r9_layers.specs.Area.{mask_at}
use Rattle.r9_layers.proofs.Blocks.{block, short, written}
use borrow.Rule.Slice.PartMut.{put_mid}
use Rattle.r9_layers.proofs.composing.compose_masked.Goals as goal

pub read_masks-requires-clause-inside : goal.read_masks-requires-clause-inside
read_masks-requires-clause-inside c p h =
    let n = length c.args.row.now in
    let P : ℕ → Type 0 = λ m. holds (strip c.args.at m) p ≡ true in
    c.requires.inside p (subst P (short n c.requires.few) h)

pub returns : goal.returns
returns c k below =
    let n = length c.args.row.now in
    let long = short n c.requires.few in
    let inside : k < length (take n block) = omega (arith, long) in
    let task = c.args.task.now in
    let W = world c.args.images.now in
    let m : get_or (take n (put_mid 0 n block c.read_masks.new.masks)) k 0 ≡ mask_at W task (along c.args.at k) =
    written n c.read_masks.new.masks k (c.read_masks.auto.masks ∙ long) below ∙ c.read_masks.ensures k inside in
    c.compose.ensures k (omega (arith, c.compose.auto.d, below))
    ∙ (λ i. composed_raw (c.requires.chans.dst i) (c.requires.chans.src i) (c.requires.chans.mask i) (number task.op) (c.requires.source k below i) (m i) (get_or c.args.row.now k 0))
