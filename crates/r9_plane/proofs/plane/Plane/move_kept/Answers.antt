use Rattle.std.proofs.Common.{◌∙◌, ap, arith}
use Rattle.std.specs.Int.Bits.{bit_and}
use Rattle.std.specs.Prelude.{if◌then◌else◌}
use Rattle.r9_geom.specs.Geometry.{carried, holds}
use Rattle.r9_marks.specs.marks.Marks.{marked, marked_count}
use Rattle.r9_plane.proofs.plane.Plane.move_kept.Goals as goal

pub move_rows-requires-clause-inside : goal.move_rows-requires-clause-inside
move_rows-requires-clause-inside g c p h = ap (λ r. holds r p) c.mark.ensures.rect ∙ c.requires.inside p h

pub move_rows-requires-clause-inside_from : goal.move_rows-requires-clause-inside_from
move_rows-requires-clause-inside_from g c p h =
    ap (λ r. holds r (carried p c.args.r.min c.args.from)) c.mark.ensures.rect ∙ c.requires.inside_from p h

pub returns-clause-pixels : goal.returns-clause-pixels
returns-clause-pixels g c q =
    let r = c.args.r in
    c.move_rows.ensures.pixels q
    ∙ (λ i. if holds r q then bit_and ((c.mark.ensures.pixels i) (carried q r.min c.args.from)) c.args.bits else (c.mark.ensures.pixels i) q)

pub returns-clause-marks : goal.returns-clause-marks
returns-clause-marks g c column row = ap (λ marks. marked marks column row) c.move_rows.ensures.marks ∙ c.mark.ensures.marks column row

pub returns-clause-few : goal.returns-clause-few
returns-clause-few g c = omega (arith, c.mark.ensures.few, ap marked_count c.move_rows.ensures.marks)
