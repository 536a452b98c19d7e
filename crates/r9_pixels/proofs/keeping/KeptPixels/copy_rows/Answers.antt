use Rattle.std.proofs.Common.{◌≡◌, ◌∙◌, ◌<◌, ℕ, subst, ap, sym, arith}
use Rattle.std.proofs.Math.Nat.{mul-add}
use Rattle.r9_geom.specs.declared.Point.{Point}
use Rattle.r9_geom.specs.declared.Rect.{Rect}
use Rattle.r9_geom.specs.Geometry.{height, point_at, width}
use Rattle.r9_geom.proofs.GeometryLemmas.{band, height_most}
use Rattle.r9_cells.proofs.Areas.{every_row}
use Rattle.r9_pixels.specs.Carried.{CanCarry, IsCarried, IsCarriedBlock}
use Rattle.r9_pixels.proofs.Rowed.{can_row, row_there, rows_more, rows_none, whole_band}
use Rattle.r9_pixels.proofs.keeping.KeptPixels.copy_rows.Goals as goal

pub loop-row-init : goal.loop-row-init
loop-row-init g c = record {
  carried = rows_none c.args.self.now c.args.from c.args.r.now c.args.to c.args.p;
  steps = omega arith;
  writes = omega arith;
}

pub point_at-requires-clause-row : goal.point_at-requires-clause-row
point_at-requires-clause-row g c = omega (arith, height_most c.args.r.now c.requires.near c.requires.ordered, c.loop-row-test.true, c.height-row-end.ensures)

pub down-requires-clause-rows : goal.down-requires-clause-rows
down-requires-clause-rows g c = omega (arith, height_most c.args.r.now c.requires.near c.requires.ordered, c.loop-row-test.true, c.height-row-end.ensures)

pub copy-requires : goal.copy-requires
copy-requires g c =
    let r = c.args.r.now in
    let below : c.loop-row.row < height r = omega (arith, c.loop-row-test.true, c.height-row-end.ensures) in
    let there = row_there c.args.p c.loop-row.row in
    subst (λ (at : Point). CanCarry c.loop-row.self c.args.from at c.args.to c.down.result c.width-columns.result) (sym c.point_at.ensures)
    (subst (λ (at : Point). CanCarry c.loop-row.self c.args.from (point_at r 0 c.loop-row.row) c.args.to at c.width-columns.result) (sym c.down.ensures)
    (subst (λ (n : ℕ). CanCarry c.loop-row.self c.args.from (point_at r 0 c.loop-row.row) c.args.to there n) (sym c.width-columns.ensures)
    (can_row c.args.self.now c.loop-row.self c.args.from r c.args.to c.args.p c.loop-row.row c.requires.ordered below c.requires.can c.loop-row.invariant.carried)))

pub loop-row-preserved : goal.loop-row-preserved
loop-row-preserved g c =
    let r = c.args.r.now in
    let below : c.loop-row.row < height r = omega (arith, c.loop-row-test.true, c.height-row-end.ensures) in
    let there = row_there c.args.p c.loop-row.row in
    let copied =
    subst (λ (at : Point). IsCarried c.loop-row.self c.copy.new.self c.args.from (point_at r 0 c.loop-row.row) c.args.to at c.width-columns.result) c.down.ensures
    (subst (λ (at : Point). IsCarried c.loop-row.self c.copy.new.self c.args.from at c.args.to c.down.result c.width-columns.result) c.point_at.ensures c.copy.ensures.carried) in
    record {
      carried =
          rows_more c.args.self.now c.loop-row.self c.copy.new.self c.args.from r c.args.to c.args.p c.loop-row.row c.requires.ordered below c.requires.can.apart c.loop-row.invariant.carried
          (subst (λ (n : ℕ). IsCarried c.loop-row.self c.copy.new.self c.args.from (point_at r 0 c.loop-row.row) c.args.to there n) c.width-columns.ensures copied);
      steps = omega (arith, c.copy.ensures.steps, c.width-columns.ensures, c.loop-row.invariant.steps, mul-add (width r) c.loop-row.row 1);
      writes = omega (arith, c.copy.ensures.writes, c.loop-row.invariant.writes);
    }

pub returns-clause-carried : goal.returns-clause-carried
returns-clause-carried g c =
    let r = c.args.r.now in
    let end : c.loop-row.row ≡ height r = omega (arith, c.loop-row-test.false, c.loop-row.auto.row-end, c.height-row-end.ensures) in
    subst (λ (b : Rect). IsCarriedBlock c.args.self.now c.loop-row.self c.args.from b c.args.to c.args.p) (ap (band r) end ∙ whole_band r c.requires.ordered) c.loop-row.invariant.carried

pub returns-clause-steps : goal.returns-clause-steps
returns-clause-steps g c =
    let end : c.loop-row.row ≡ height c.args.r.now = omega (arith, c.loop-row-test.false, c.loop-row.auto.row-end, c.height-row-end.ensures) in
    every_row c.args.r.now c.loop-row.row c.args.steps.now c.loop-row.steps (omega (arith, end)) (omega (arith, end)) c.loop-row.invariant.steps
