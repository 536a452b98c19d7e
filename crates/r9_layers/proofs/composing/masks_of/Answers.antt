use Rattle.std.proofs.Common.{◌≡◌, ℕ, ap, subst}
use Rattle.r9_chan.specs.Op.{number}
use Rattle.r9_mem.specs.Through.{IsThrough}
use Rattle.model_forest.specs.World.{image_at}
use Rattle.r9_forest.specs.Images.{world}
use Rattle.r9_layers.specs.Area.{mask_chan}
use Rattle.r9_layers.proofs.composing.masks_of.Goals as goal

pub returns-in-Some : goal.returns-in-Some
returns-in-Some c =
    let W = world c.args.images.now in
    let task = c.args.task.now in
    let op = number task.op in
    let m = c.in-Some.m in
    let dst : c.info-dst.result.chan ≡ (image_at W task.dst).chan = λ i. (c.info-dst.ensures i).chan in
    let src : c.info-src.result.chan ≡ (image_at W task.src).chan = λ i. (c.info-src.ensures i).chan in
    record {
      m = m;
      all = c.in-Some.ensures;
      serves =
          subst (λ n. IsThrough c.of.result n (image_at W task.src).chan (mask_chan W task.mask) op m) dst
          (subst (λ n. IsThrough c.of.result c.info-dst.result.chan n (mask_chan W task.mask) op m) src
          (subst (λ n. IsThrough c.of.result c.info-dst.result.chan c.info-src.result.chan n op m) c.chan_of_mask-mask.ensures c.of.ensures));
    }

pub returns-in-None : goal.returns-in-None
returns-in-None c = record {
  dst = λ i. (c.info-dst.ensures i).chan;
  src = λ i. (c.info-src.ensures i).chan;
  mask = c.chan_of_mask-mask.ensures;
}
