use Rattle.std.proofs.Common.{◌∙◌, ap, arith}
use Rattle.std.specs.Prelude.{if◌then◌else◌}
use Rattle.r9_geom.specs.Geometry.{carried, holds}
use Rattle.model_pixel.specs.Channels.{depth}
use Rattle.r9_kern.specs.Over.{over_of}
use Rattle.r9_marks.specs.marks.Marks.{marked, marked_count}
use Rattle.r9_plane.specs.Pixels.{pixel_at}
use Rattle.r9_plane.proofs.plane.Plane.compose_over.Goals as goal

pub over_rows-requires-clause-inside : goal.over_rows-requires-clause-inside
over_rows-requires-clause-inside g c p h = ap (λ r. holds r p) c.mark.ensures.rect ∙ c.requires.inside p h

pub over_rows-requires-clause-depth : goal.over_rows-requires-clause-depth
over_rows-requires-clause-depth g c = ap depth c.mark.ensures.chan ∙ c.requires.depth

pub returns-clause-pixels : goal.returns-clause-pixels
returns-clause-pixels g c q =
    let r = c.args.r in
    let source = pixel_at c.args.other.now (carried q r.min c.args.from) in
    c.over_rows.ensures.pixels q
    ∙ (λ i. if holds r q then over_of c.args.over source ((c.mark.ensures.pixels i) q) else (c.mark.ensures.pixels i) q)

pub returns-clause-marks : goal.returns-clause-marks
returns-clause-marks g c column row = ap (λ marks. marked marks column row) c.over_rows.ensures.marks ∙ c.mark.ensures.marks column row

pub returns-clause-few : goal.returns-clause-few
returns-clause-few g c = omega (arith, c.mark.ensures.few, ap marked_count c.over_rows.ensures.marks)
