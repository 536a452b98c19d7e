use Rattle.std.proofs.Common.{◌∙◌, ap, arith}
use Rattle.std.specs.Prelude.{◌||◌}
use Rattle.r9_geom.specs.Geometry.{holds}
use Rattle.r9_marks.specs.marks.Marks.{marked, marked_count}
use Rattle.r9_plane.specs.Marks.{touched}
use Rattle.r9_plane.proofs.plane.Plane.fill.Goals as goal

pub mark-requires-clause-inside : goal.mark-requires-clause-inside
mark-requires-clause-inside g c p h = ap (λ r. holds r p) c.fill_block.ensures.rect ∙ c.requires.inside p h

pub returns-clause-pixels : goal.returns-clause-pixels
returns-clause-pixels g c q = ap (λ pixels. pixels q) c.mark.ensures.pixels ∙ c.fill_block.ensures.pixels q

pub returns-clause-marks : goal.returns-clause-marks
returns-clause-marks g c column row =
    c.mark.ensures.marks column row ∙ (λ i. touched (c.fill_block.ensures.rect i) c.args.r column row || marked (c.fill_block.ensures.marks i) column row)

pub returns-clause-few : goal.returns-clause-few
returns-clause-few g c = omega (arith, c.mark.ensures.few, ap marked_count c.fill_block.ensures.marks)
