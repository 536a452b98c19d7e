use Rattle.std.proofs.Common.{take, get_or, ◌+◌}
use Rattle.r9_geom.specs.Geometry.{holds}
use Rattle.r9_region.specs.Region.{how_many_hold}
use Rattle.r9_region.proofs.Points.{nowhere, how_many_more, outside_step}
use Rattle.r9_region.proofs.outside.Goals as goal

pub loop-part-preserved : goal.loop-part-preserved
loop-part-preserved c = (
  λ p. outside_step (holds c.args.r.now p)
      (holds (get_or c.args.parts.now c.loop-part.part-index nowhere) p)
      (how_many_hold c.push_solid.new.out.items p)
      (how_many_hold c.loop-part.left.items p)
      (how_many_hold (take c.from.result c.minus-pieces.result.part) p)
      (how_many_hold (take c.loop-part.part-index c.args.parts.now) p)
      (how_many_hold (take (c.loop-part.part-index + 1) c.args.parts.now) p)
      (c.in_ok-push_solid.ensures.points p)
      (c.loop-part.invariant.0 p)
      (rw c.from.ensures (c.minus-pieces.ensures.points p))
      (how_many_more c.args.parts.now c.loop-part.part-index nowhere p c.loop-part-test.true),
  c.in_ok-push_solid.ensures.solid c.loop-part.invariant.1,
)
