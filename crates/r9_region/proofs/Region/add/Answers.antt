use Rattle.std.proofs.Common.{◌∙◌, ◌+◌, ap, zero-add, ◌||◌}
use Rattle.r9_geom.specs.Geometry.{holds}
use Rattle.r9_region.specs.Region.{how_many_hold}
use Rattle.r9_region.proofs.Points.{covers_both, added_apart, added_points, one_if}
use Rattle.r9_region.proofs.Region.add.Goals as goal

pub invariant_of-self : goal.invariant_of-self
invariant_of-self c = record {
  apart = λ p. added_apart (holds c.args.r p) _ _ (how_many_hold c.self.inside.parts.items p)
      (c.in_ok-push_solid.ensures.points p ∙ ap (λ n. how_many_hold c.in_ok-parts.parts.items p + n) (zero-add (one_if (holds c.args.r p))))
      (rw c.deref.ensures.value at (c.in_ok-parts.ensures.points p)) (c.self.invariant.apart p);
  solid = c.in_ok-push_solid.ensures.solid c.in_ok-parts.ensures.solid;
}

pub returns-clause-points : goal.returns-clause-points
returns-clause-points c p =
    rw (← c.self.view_is)
    (covers_both _ c.self.inside.parts.items p (λ b. b || holds c.args.r p)
    (added_points (holds c.args.r p) _ _ (how_many_hold c.self.inside.parts.items p)
    (c.in_ok-push_solid.ensures.points p ∙ ap (λ n. how_many_hold c.in_ok-parts.parts.items p + n) (zero-add (one_if (holds c.args.r p))))
    (rw c.deref.ensures.value at (c.in_ok-parts.ensures.points p))))
