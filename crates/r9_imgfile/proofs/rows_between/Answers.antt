use Rattle.std.proofs.Common.{◌≡◌, ◌∙◌, ◌^◌, lit≤, arith, ap, sym, subst}
use Rattle.r9_geom.specs.declared.Rect.{Rect}
use Rattle.r9_geom.specs.Geometry.{holds, IsRectNearBy, point_at}
use Rattle.r9_geom.proofs.GeometryLemmas.{height_most, rect_near_wider}
use Rattle.r9_imgfile.specs.Touched.{rows_between}
use Rattle.r9_imgfile.proofs.Bands.{inside_between, near_between, same_between}
use Rattle.r9_imgfile.proofs.rows_between.Goals as goal

pub point_at-requires-clause-near : goal.point_at-requires-clause-near
point_at-requires-clause-near c = rect_near_wider (2 ^ 33) (2 ^ 40) c.args.r (lit≤ tt) c.requires.near

pub point_at-requires-clause-row : goal.point_at-requires-clause-row
point_at-requires-clause-row c =
    omega (arith, c.requires.first, c.requires.end, height_most c.args.r (rect_near_wider (2 ^ 33) (2 ^ 40) c.args.r (lit≤ tt) c.requires.near) c.requires.ordered)

is : (c : goal.After-point_at-2) → record { min = c.point_at.result; max = c.point_at-2.result } ≡ rows_between c.args.r c.args.first c.args.end
is c =
    let high = c.point_at-2.ensures ∙ ap (λ w. point_at c.args.r w c.args.end) c.width.ensures in
    (λ j. record { min = c.point_at.ensures j; max = high j }) ∙ same_between c.args.r c.args.first c.args.end c.requires.ordered

pub returns-clause-near : goal.returns-clause-near
returns-clause-near c =
    subst (IsRectNearBy (2 ^ 33)) (sym (is c)) (near_between (2 ^ 33) c.args.r c.args.first c.args.end c.requires.ordered c.requires.first c.requires.end c.requires.near)

pub returns-clause-inside : goal.returns-clause-inside
returns-clause-inside c p inside =
    inside_between c.args.r c.args.first c.args.end c.requires.ordered c.requires.end p (sym (ap (λ (r : Rect). holds r p) (is c)) ∙ inside)
