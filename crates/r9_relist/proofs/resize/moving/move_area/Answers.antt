use Rattle.std.proofs.Common.{◌≡◌, ◌∙◌, ℕ, ◌+◌, ◌*◌, ◌<◌, ◌≤◌, ◌||◌, ◌^◌, refl, sym, ap, subst, arith}
use Rattle.r9_geom.specs.Geometry.{height, holds, strip, width}
use Rattle.r9_geom.proofs.GeometryLemmas.{band, band_all, band_more, band_none, near_point, row_inside, width_most}
use Rattle.r9_plane.specs.Pixels.{pixel_at, rect_of}
use Rattle.r9_locate.specs.locate.Table.{shape}
use Rattle.r9_pixels.specs.Kept.{kept_at}
use Rattle.r9_restack.specs.Moving.{more}
use Rattle.r9_restack.proofs.Parting.{fresh_row, row_begins}
use Rattle.r9_relist.specs.resize.Moves.{HasPlacesFor}
use Rattle.r9_relist.proofs.resize.Moved.{moved_none, moved_same}
use Rattle.r9_relist.proofs.resize.moving.move_area.Goals as goal

-- one more row was written
row_more : (start was now row width n : ℕ) → n ≡ width → now ≤ was + n → was ≤ start + row * width → now ≤ start + (row + 1) * width
row_more start was now row width n same more so_far =
    let next : (row + 1) * width ≡ row * width + width = mul-suc_left row width in
    omega (arith, same, more, so_far, next)
  where
    mul-suc_left : (a b : ℕ) → (a + 1) * b ≡ a * b + b
    mul-suc_left a b = grind arith

pub loop-row-init : goal.loop-row-init
loop-row-init g c = record {
  moved = moved_none (shape c.args.lists.now) c.args.i (rect_of c.args.had.now) (pixel_at c.args.had.now) c.requires.live c.requires.forest (kept_at c.args.pixels.now) (holds (band c.args.area.now 0)) (band_none c.args.area.now);
  has = refl;
  forms = refl;
  steps = omega arith;
  moment = refl;
  writes = refl;
}

pub move_row-requires-clause-width : goal.move_row-requires-clause-width
move_row-requires-clause-width g c = omega (arith, c.width-width.ensures, width_most c.args.area.now c.requires.near c.requires.ordered)

pub move_row-requires-clause-near : goal.move_row-requires-clause-near
move_row-requires-clause-near g c z h =
    let area = c.args.area.now in
    let below : c.loop-row.row < height area = omega (arith, c.loop-row-test.true, c.height-row-end.ensures) in
    let is = row_begins area c.point_at.result c.loop-row.row c.point_at.ensures in
    near_point (2 ^ 40) area z c.requires.near (row_inside area c.point_at.result z c.loop-row.row c.requires.ordered is.0 is.1 below (ap (λ n. holds (strip c.point_at.result n) z) (sym c.width-width.ensures) ∙ h))

pub move_row-requires-clause-forms : goal.move_row-requires-clause-forms
move_row-requires-clause-forms g c = c.loop-row.invariant.forms ∙ c.requires.forms

pub move_row-requires-clause-places : goal.move_row-requires-clause-places
move_row-requires-clause-places g c = subst (HasPlacesFor (shape c.args.lists.now) c.args.i (rect_of c.args.had.now)) (sym c.loop-row.invariant.has) c.requires.places

pub loop-row-preserved : goal.loop-row-preserved
loop-row-preserved g c =
    let area = c.args.area.now in
    let row = c.loop-row.row in
    let at = c.point_at.result in
    let is = row_begins area at row c.point_at.ensures in
    record {
      moved =
          moved_same (shape c.args.lists.now) c.args.i (rect_of c.args.had.now) (pixel_at c.args.had.now) c.requires.live c.requires.forest (kept_at c.args.pixels.now) (kept_at c.move_row.new.pixels) (more at c.width-width.result (holds (band area row))) (holds (band area (row + 1)))
          (λ z. band_more area at z row c.requires.ordered is.0 is.1 ∙ ap (λ n. holds (strip at n) z || holds (band area row) z) (sym c.width-width.ensures))
          (c.move_row.ensures.moved (kept_at c.args.pixels.now) (holds (band area row)) (fresh_row area at row c.width-width.result c.point_at.ensures) c.loop-row.invariant.moved);
      has = c.move_row.ensures.has ∙ c.loop-row.invariant.has;
      forms = c.move_row.ensures.forms ∙ c.loop-row.invariant.forms;
      steps = row_more _ _ _ row (width area) c.width-width.result c.width-width.ensures c.move_row.ensures.steps c.loop-row.invariant.steps;
      moment = c.move_row.ensures.moment ∙ c.loop-row.invariant.moment;
      writes = omega (arith, c.move_row.ensures.writes, c.loop-row.invariant.writes);
    }

pub returns-clause-moved : goal.returns-clause-moved
returns-clause-moved g c =
    let area = c.args.area.now in
    let end : c.loop-row.row ≡ height area = omega (arith, c.loop-row-test.false, c.loop-row.auto.row-end, c.height-row-end.ensures) in
    moved_same (shape c.args.lists.now) c.args.i (rect_of c.args.had.now) (pixel_at c.args.had.now) c.requires.live c.requires.forest (kept_at c.args.pixels.now) (kept_at c.loop-row.pixels) (holds (band area c.loop-row.row)) (holds area)
    (λ z. sym (ap (λ n. holds (band area n) z) end ∙ band_all area z c.requires.ordered.down))
    c.loop-row.invariant.moved
