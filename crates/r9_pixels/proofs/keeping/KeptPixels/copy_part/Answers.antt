use Rattle.std.proofs.Common.{◌∙◌, ◌^◌, ap, arith}
use Rattle.r9_plane.specs.Pixels.{along}
use Rattle.r9_pixels.proofs.Owning.{own_below}
use Rattle.r9_pixels.proofs.keeping.KeptPixels.copy_part.Goals as goal

pub put-requires-clause-live : goal.put-requires-clause-live
put-requires-clause-live g c =
    let self = c.args.self.now in
    omega (arith, own_below self.owns.items self.cells c.args.to (along c.args.p 0) (c.requires.can.has 0 c.requires.some), self.owns.ok.0)

pub put-requires-clause-has : goal.put-requires-clause-has
put-requires-clause-has g c k below = c.requires.can.has k (omega (arith, below, c.load.auto.raws))

pub put-requires-clause-below : goal.put-requires-clause-below
put-requires-clause-below g c k below =
    omega (arith, c.load.ensures.below k (omega (arith, below, c.load.auto.raws)), ap (λ n. 2 ^ n) c.requires.can.bits)

pub returns-clause-carried : goal.returns-clause-carried
returns-clause-carried g c = record {
  pixels = λ k below. c.put.ensures.at k (omega (arith, below, c.load.auto.raws)) ∙ c.load.ensures.pixels k below;
  others = λ place apart. c.put.ensures.others place (λ k lower. apart k (omega (arith, lower, c.load.auto.raws)));
  has = c.put.ensures.has;
  forms = c.put.ensures.forms;
  moment = c.put.ensures.moment;
  spare = c.put.ensures.spare;
}
