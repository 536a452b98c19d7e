use Rattle.std.proofs.Common.{◌≡◌, ◌∙◌, ◌+◌, ◌^◌, ◌||◌, true, length, lit≤, take, refl, sym, ap, subst, arith}
use Rattle.std.proofs.lemmas.List.{length-take-le}
use Rattle.r9_geom.specs.declared.Point.{Point as Spot}
use Rattle.r9_geom.specs.Geometry.{holds, point_at, strip, width, IsNearBy}
use Rattle.r9_geom.proofs.GeometryLemmas.{height_most, near_point, near_wider, strip_none, width_most}
use Rattle.model_pixel.specs.Channels.{depth}
use Rattle.model_pixel.specs.Rows.{row_pixel}
use Rattle.model_forest.specs.World.{image_at}
use Rattle.model_kept.proofs.Once.{places-forest}
use Rattle.model_kept.proofs.Worlds.{standing-forest}
use Rattle.r9_plane.specs.Pixels.{along}
use Rattle.r9_plane.proofs.PlaneLemmas.{start_in}
use Rattle.r9_locate.specs.locate.Forms.{bits_in}
use Rattle.r9_locate.specs.locate.Table.{shape}
use Rattle.r9_put.proofs.put.Grids.{begins_row, near_row, row_lies}
use Rattle.r9_shown.proofs.Pieces.{strip_part, strip_split}
use Rattle.r9_put.proofs.put.Putting.{stored_more, written_all, written_more, written_none}
use Rattle.r9_put.proofs.put.loading.load_row.Goals as goal

pub point_at-at-requires-clause-row : goal.point_at-at-requires-clause-row
point_at-at-requires-clause-row g c = omega (arith, height_most c.args.r.now c.requires.near c.requires.ordered, c.requires.row)

pub loop-done-init : goal.loop-done-init
loop-done-init g c = record {
  within = omega arith;
  written =
      written_none (shape c.args.lists.now) c.args.i (holds (strip (point_at c.args.r.now 0 c.args.row) 0)) (row_pixel c.args.r.now (depth (image_at (shape c.args.lists.now) c.args.i).chan) c.args.rows.now) c.args.pixels.now
      (λ p. strip_none (point_at c.args.r.now 0 c.args.row) p);
  steps = omega arith;
  writes = refl;
}

pub along-requires-clause-near : goal.along-requires-clause-near
along-requires-clause-near g c =
    subst (λ (p : Spot). IsNearBy (2 ^ 42) p) (sym c.point_at-at.ensures)
    (near_wider (2 ^ 40) (2 ^ 42) (point_at c.args.r.now 0 c.args.row) (lit≤ tt) (near_row c.args.r.now c.args.row c.requires.near c.requires.row))

pub along-requires-clause-columns : goal.along-requires-clause-columns
along-requires-clause-columns g c = omega (arith, c.loop-done.invariant.within, c.width-width.ensures, width_most c.args.r.now c.requires.near c.requires.ordered)

pub load_run-requires-clause-point : goal.load_run-requires-clause-point
load_run-requires-clause-point g c =
    let r = c.args.r.now in
    let at = c.point_at-at.result in
    let done = c.loop-done.done in
    let part = take c.min-size.result c.loop-done.block in
    let long : length part ≡ c.min-size.result = length-take-le c.min-size.result c.loop-done.block (omega (arith, c.min-size.ensures, c.along.array_long)) in
    let is = begins_row r at c.args.row c.point_at-at.ensures c.requires.row in
    let in_row : (p : Spot) → holds (strip c.along.result (length part)) p ≡ true → holds r p ≡ true = λ p h.
    row_lies r at p c.args.row c.width-width.result c.width-width.ensures c.requires.ordered is
    (strip_part at done (length part) c.width-width.result p (omega (arith, long, c.min-size.ensures, c.loop-done.invariant.within)) (ap (λ (z : Spot). holds (strip z (length part)) p) (sym c.along.ensures) ∙ h)) in
    near_point (2 ^ 40) r c.along.result c.requires.near (start_in r c.along.result (length part) (omega (arith, long, c.min-size.ensures, c.loop-done-test.true)) in_row)

pub load_run-requires-clause-inside : goal.load_run-requires-clause-inside
load_run-requires-clause-inside g c =
    let r = c.args.r.now in
    let at = c.point_at-at.result in
    let done = c.loop-done.done in
    let part = take c.min-size.result c.loop-done.block in
    let long : length part ≡ c.min-size.result = length-take-le c.min-size.result c.loop-done.block (omega (arith, c.min-size.ensures, c.along.array_long)) in
    let is = begins_row r at c.args.row c.point_at-at.ensures c.requires.row in
    let in_row : (p : Spot) → holds (strip c.along.result (length part)) p ≡ true → holds r p ≡ true = λ p h.
    row_lies r at p c.args.row c.width-width.result c.width-width.ensures c.requires.ordered is
    (strip_part at done (length part) c.width-width.result p (omega (arith, long, c.min-size.ensures, c.loop-done.invariant.within)) (ap (λ (z : Spot). holds (strip z (length part)) p) (sym c.along.ensures) ∙ h)) in
    in_row

pub load_run-requires-clause-stored : goal.load_run-requires-clause-stored
load_run-requires-clause-stored g c =
    stored_more (shape c.args.lists.now) c.args.i (holds (strip (point_at c.args.r.now 0 c.args.row) c.loop-done.done)) (row_pixel c.args.r.now (depth (image_at (shape c.args.lists.now) c.args.i).chan) c.args.rows.now) c.args.pixels.now c.loop-done.pixels
    c.loop-done.invariant.written c.requires.stored

pub load_run-requires-clause-bits : goal.load_run-requires-clause-bits
load_run-requires-clause-bits g c = ap (λ forms. bits_in forms c.args.i) c.loop-done.invariant.written.forms ∙ c.requires.bits

pub loop-done-preserved : goal.loop-done-preserved
loop-done-preserved g c =
    let w = shape c.args.lists.now in
    let r = c.args.r.now in
    let at = point_at r 0 c.args.row in
    let done = c.loop-done.done in
    let size = c.min-size.result in
    let part = take size c.loop-done.block in
    let q = c.along.result in
    let long : length part ≡ size = length-take-le size c.loop-done.block (omega (arith, c.min-size.ensures, c.along.array_long)) in
    let q_is : q ≡ along at done = c.along.ensures ∙ ap (λ (z : Spot). along z done) c.point_at-at.ensures in
    let f = row_pixel r (depth (image_at w c.args.i).chan) c.args.rows.now in
    record {
      within = omega (arith, c.min-size.ensures, c.loop-done.invariant.within);
      written =
          written_more w c.args.i (holds (strip at done)) (holds (strip q (length part))) (holds (strip at (done + size))) f f f
          c.args.pixels.now c.loop-done.pixels c.load_run.new.pixels (standing-forest w c.requires.stored.forest) (places-forest w c.requires.stored.forest) c.requires.live
          (λ p. strip_split at done size p ∙ (λ j. holds (strip (sym q_is j) (sym long j)) p || holds (strip at done) p))
          (λ p h. refl) (λ p h. refl)
          c.loop-done.invariant.written c.load_run.ensures.written;
      steps = omega (arith, c.load_run.ensures.steps, c.loop-done.invariant.steps, long);
      writes = omega (arith, c.load_run.ensures.writes, c.loop-done.invariant.writes);
    }

pub returns-clause-written : goal.returns-clause-written
returns-clause-written g c =
    let r = c.args.r.now in
    let at = point_at r 0 c.args.row in
    let end : c.loop-done.done ≡ width r = omega (arith, c.loop-done-test.false, c.loop-done.invariant.within, c.width-width.ensures) in
    written_all (shape c.args.lists.now) c.args.i (holds (strip at c.loop-done.done)) (holds (strip at (width r))) (row_pixel r (depth (image_at (shape c.args.lists.now) c.args.i).chan) c.args.rows.now) c.args.pixels.now c.loop-done.pixels
    (λ p. ap (λ n. holds (strip at n) p) (sym end))
    c.loop-done.invariant.written

pub returns-clause-steps : goal.returns-clause-steps
returns-clause-steps g c = omega (arith, c.loop-done.invariant.steps, c.loop-done.invariant.within, c.width-width.ensures)
