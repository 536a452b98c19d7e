use Rattle.std.proofs.Common.{sym, subst, arith}
use Rattle.r9_geom.specs.declared.Point.{Point}
use Rattle.r9_geom.specs.Geometry.{carried, IsNear}
use Rattle.r9_pixels.proofs.Areas.{carried_min, empty_area, solid_corner}
use Rattle.r9_pixels.proofs.Copied.{place_near}
use Rattle.r9_pixels.proofs.keeping.KeptPixelsPixels.carry_block.Goals as goal

pub copy_block-requires-clause-point : goal.copy_block-requires-clause-point
copy_block-requires-clause-point g c =
    let r = c.args.r.now in
    subst IsNear (carried_min r.min c.args.p) (place_near c.args.self.now c.args.to (carried r.min r.min c.args.p) (c.requires.has r.min (solid_corner r (sym c.if-not-is_empty.ensures.exact))))

pub returns-else-not-is_empty-clause-steps : goal.returns-else-not-is_empty-clause-steps
returns-else-not-is_empty-clause-steps g c =
    let none = empty_area c.args.r.now c.requires.ordered (sym c.if-not-is_empty.ensures.exact) in
    omega (arith, none)
