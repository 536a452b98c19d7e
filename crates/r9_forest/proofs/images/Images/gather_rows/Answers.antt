use Rattle.std.proofs.Common.{◌≡◌, ◌∙◌, ◌+◌, ◌*◌, ◌≤◌, ◌^◌, refl, sym, subst, ap, arith}
use Rattle.std.proofs.lemmas.Bool.{false≢true}
use Rattle.std.proofs.lemmas.Nat.{mul-le}
use native.Mathlib.Nat.{mul_comm}
use Rattle.r9_geom.specs.Geometry.{area_of, height, holds, width, IsNear}
use Rattle.r9_geom.proofs.GeometryLemmas.{band, band_all, band_none, near_point, width_most}
use Rattle.model_forest.specs.World.{World, IsLive}
use Rattle.model_kept.specs.Keeping.{with_kept}
use Rattle.r9_plane.specs.Pixels.{along}
use Rattle.r9_plane.proofs.PlaneLemmas.{along_holds}
use Rattle.r9_locate.specs.locate.Table.{shape}
use Rattle.r9_pixels.specs.Kept.{kept_at}
use Rattle.r9_put.specs.fills.Fills.{fill_at}
use Rattle.r9_forest.specs.Images.{world}
use Rattle.r9_forest.proofs.Gathering.{row_gathered}
use Rattle.r9_put.proofs.put.Grids.{near_row, row_of}
use Rattle.r9_forest.proofs.images.Images.gather_rows.Goals as goal
use Rattle.r9_forest.proofs.images.Images.gather_rows.Goals.{At-loop-row}

pub loop-row-init : goal.loop-row-init
loop-row-init c = record {
  lists = refl;
  pixels = refl;
  spare = refl;
  len = refl;
  gathered = λ p h. absurd (false≢true (sym (band_none c.args.area.now p) ∙ h));
}

-- what is read is the same while rows are gathered
same : (c : At-loop-row) → world c.loop-row.self ≡ world c.args.self.now
unfolding world
same c = λ j. with_kept (shape (c.loop-row.invariant.lists j)) (kept_at (c.loop-row.invariant.pixels j))

pub gather_row-requires-clause-live : goal.gather_row-requires-clause-live
gather_row-requires-clause-live c = subst (λ (w : World). IsLive w c.args.fill) (sym (same (goal.at.gather_row-requires-clause-live c).At-loop-row)) c.requires.live

pub gather_row-requires-clause-near : goal.gather_row-requires-clause-near
gather_row-requires-clause-near c k below =
    let area = c.args.area.now in
    near_point (2 ^ 40) area (along c.point_at.result k) c.requires.near
    (row_of area c.point_at.result (along c.point_at.result k) c.loop-row.row c.width-width.result c.point_at.ensures (omega (arith, c.loop-row-test.true, c.height-row-end.ensures)) c.width-width.ensures c.requires.ordered (along_holds c.point_at.result c.width-width.result k below))

pub gather_row-requires-clause-width : goal.gather_row-requires-clause-width
gather_row-requires-clause-width c = omega (arith, c.width-width.ensures, width_most c.args.area.now c.requires.near c.requires.ordered)

pub gather_row-requires-clause-room : goal.gather_row-requires-clause-room
gather_row-requires-clause-room c =
    let row = c.loop-row.row in
    let w = c.width-width.result in
    let below : row + 1 ≤ height c.args.area.now = omega (arith, c.loop-row-test.true, c.height-row-end.ensures) in
    let most = mul-le (row + 1) w (height c.args.area.now) w below (omega arith) in
    let all : height c.args.area.now * w ≡ area_of c.args.area.now = ap (λ n. height c.args.area.now * n) c.width-width.ensures ∙ mul_comm (height c.args.area.now) (width c.args.area.now) in
    omega (arith, most, all, c.requires.room, c.loop-row.invariant.len)

pub loop-row-preserved : goal.loop-row-preserved
loop-row-preserved c =
    let area = c.args.area.now in
    let now = c.loop-row.invariant in
    record {
      lists = c.gather_row.ensures.lists ∙ now.lists;
      pixels = c.gather_row.ensures.pixels ∙ now.pixels;
      spare = c.gather_row.ensures.spare ∙ now.spare;
      len = c.gather_row.ensures.len ∙ now.len;
      gathered = λ p h.
          row_gathered area c.point_at.result p c.loop-row.row c.width-width.result c.loop-row.self.room.items c.gather_row.new.self.room.items
          (λ q. fill_at (world c.args.self.now) c.args.chan.now c.args.fill q) c.requires.ordered c.point_at.ensures c.width-width.ensures
          (λ k below. c.gather_row.ensures.row k below ∙ ap (λ (w : World). fill_at w c.args.chan.now c.args.fill (along c.point_at.result k)) (same (goal.at.loop-row-preserved c).At-loop-row))
          c.gather_row.ensures.before (now.gathered p) h;
    }

pub returns-clause-gathered : goal.returns-clause-gathered
returns-clause-gathered c p h =
    let area = c.args.area.now in
    let end : c.loop-row.row ≡ height area = omega (arith, c.loop-row-test.false, c.loop-row.auto.row-end, c.height-row-end.ensures) in
    c.loop-row.invariant.gathered p (ap (λ n. holds (band area n) p) end ∙ band_all area p c.requires.ordered.down ∙ h)

pub gather_row-requires-clause-start : goal.gather_row-requires-clause-start
gather_row-requires-clause-start c = subst IsNear (sym c.point_at.ensures) (near_row c.args.area.now c.loop-row.row c.requires.near (omega (arith, c.loop-row-test.true, c.height-row-end.ensures)))
