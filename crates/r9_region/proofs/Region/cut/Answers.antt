use Rattle.std.proofs.Common.{not, ◌&&◌}
use Rattle.r9_geom.specs.Geometry.{holds}
use Rattle.r9_region.specs.Region.{how_many_hold}
use Rattle.r9_region.proofs.Points.{covers_both, cut_apart, cut_points}
use Rattle.r9_region.proofs.Region.cut.Goals as goal

pub invariant_of-self : goal.invariant_of-self
invariant_of-self c = record {
  apart = λ p. cut_apart (holds c.args.r p) _ (how_many_hold c.self.inside.parts.items p) (rw c.deref.ensures.value at (c.in_ok-self-inside.ensures.points p)) (c.self.invariant.apart p);
  solid = c.in_ok-self-inside.ensures.solid;
}

pub returns-clause-points : goal.returns-clause-points
returns-clause-points c p =
    rw (← c.self.view_is)
    (covers_both _ c.self.inside.parts.items p (λ b. b && not (holds c.args.r p)) (cut_points (holds c.args.r p) _ _ (rw c.deref.ensures.value at (c.in_ok-self-inside.ensures.points p))))
