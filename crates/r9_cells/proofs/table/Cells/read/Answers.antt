use Rattle.std.proofs.Common.{lit≤, ◌≡◌, ◌∙◌, ◌+◌, ◌-◌, ◌<◌, ◌≤◌, ◌^◌, length, get_or, take, drop, ⊎_elim, sym, ap, arith}
use Rattle.std.proofs.lemmas.Bool.{cases_lt}
use Rattle.r9_geom.specs.Geometry.{holds}
use Rattle.std.specs.Prelude.{is_some}
use Rattle.r9_geom.proofs.GeometryLemmas.{near_wider}
use Rattle.r9_plane.specs.Pixels.{along}
use Rattle.r9_locate.proofs.locate.Locating.{along_none}
use Rattle.r9_locate.proofs.locate.Parts.{length-part, length-put_mid, put_mid_before, put_mid_inside}
use borrow.Rule.Slice.PartMut.{put_mid}
use Rattle.model_kept.specs.Cells.{cell_of}
use Rattle.r9_cells.specs.Rows.{cell_at, cell_place, rows_of}
use Rattle.r9_cells.specs.Cells.{all_rows, place_pixel}
use Rattle.r9_cells.proofs.Places.{row_near, row_small, run_places, tile_parts}
use Rattle.r9_cells.proofs.Changed.{cell_inside}
use Rattle.r9_cells.proofs.table.Cells.read.Goals as goal

pub along-requires-clause-near : goal.along-requires-clause-near
along-requires-clause-near c =
    let first = tile_parts (all_rows c.args.self.now) c.args.i c.args.r.now (along c.args.from 0) (c.requires.has 0 (omega (arith, c.loop-done-test.true, c.loop-done.auto.raws))) in
    near_wider (2 ^ 40) (2 ^ 42) c.args.from (lit≤ tt) (row_near c.args.r.now c.args.from 0 c.requires.near first.0 first.0).0

pub along-requires-clause-columns : goal.along-requires-clause-columns
along-requires-clause-columns c =
    let first = tile_parts (all_rows c.args.self.now) c.args.i c.args.r.now (along c.args.from 0) (c.requires.has 0 (omega (arith, c.loop-done-test.true, c.loop-done.auto.raws))) in
    let here = tile_parts (all_rows c.args.self.now) c.args.i c.args.r.now (along c.args.from c.loop-done.done) (c.requires.has c.loop-done.done (omega (arith, c.loop-done-test.true, c.loop-done.auto.raws))) in
    omega (arith, (row_near c.args.r.now c.args.from c.loop-done.done c.requires.near first.0 here.0).1)

pub run_of-run-requires-clause-inside : goal.run_of-run-requires-clause-inside
run_of-run-requires-clause-inside c =
    let here = tile_parts (all_rows c.args.self.now) c.args.i c.args.r.now (along c.args.from c.loop-done.done) (c.requires.has c.loop-done.done (omega (arith, c.loop-done-test.true, c.loop-done.auto.raws))) in
    ap (holds c.args.r.now) c.along.ensures ∙ here.0

pub run_of-run-requires-clause-small : goal.run_of-run-requires-clause-small
run_of-run-requires-clause-small c =
    let rows = c.args.self.now.rows.items in
    let here = tile_parts (rows_of rows) c.args.i c.args.r.now (along c.args.from c.loop-done.done) (c.requires.has c.loop-done.done (omega (arith, c.loop-done-test.true, c.loop-done.auto.raws))) in
    let small = row_small rows c.args.i (cell_of c.args.r.now (along c.args.from c.loop-done.done)) (cell_inside (rows_of rows) c.args.i (cell_of c.args.r.now (along c.args.from c.loop-done.done)) here.1).1 in
    omega (arith, ap (cell_of c.args.r.now) c.along.ensures, small)

pub get_row-requires-clause-tile : goal.get_row-requires-clause-tile
get_row-requires-clause-tile c =
    let here = tile_parts (all_rows c.args.self.now) c.args.i c.args.r.now (along c.args.from c.loop-done.done) (c.requires.has c.loop-done.done (omega (arith, c.loop-done-test.true, c.loop-done.auto.raws))) in
    let first : cell_of c.args.r.now (along c.args.from c.loop-done.done) ≡ c.run_of-run.result.cell =
    ap (cell_of c.args.r.now) (sym c.along.ensures ∙ sym (along_none c.along.result)) ∙ c.run_of-run.ensures.cell 0 c.run_of-run.ensures.some in
    ap (λ k. is_some (cell_at (all_rows c.args.self.now) c.args.i k)) (sym first) ∙ here.1

pub loop-done-preserved : goal.loop-done-preserved
loop-done-preserved c =
    let raws = c.loop-done.raws in
    let done = c.loop-done.done in
    let run = c.run_of-run.result in
    let size = done + run.len - done in
    let within : done ≤ length raws = c.loop-done.invariant.within in
    let fits : done + size ≤ length raws = omega (arith, c.run_of-run.ensures.most, within) in
    let long : length c.get_row.new.raws ≡ size = c.get_row.auto.raws ∙ length-part raws done size fits in
    let place = run_places c.args.i run.cell c.args.r.now c.args.from c.along.result run.at done run.len c.along.ensures c.run_of-run.ensures.cell c.run_of-run.ensures.at in
    record {
      within = omega (arith, length-put_mid done size raws c.get_row.new.raws fits long, fits);
      read = λ k below.
          ⊎_elim
          (λ (early : k < done). put_mid_before done size raws c.get_row.new.raws k within early ∙ c.loop-done.invariant.read k early)
          (λ (late : done ≤ k).
          let j = k - done in
          let at : k ≡ done + j = omega arith in
          let short : j < run.len = omega (arith, below, late) in
          let in_size : j < size = omega (arith, short) in
          let inside : j < length (take size (drop done raws)) = omega (arith, length-part raws done size fits, in_size) in
          ap (λ n. get_or (put_mid done size raws c.get_row.new.raws) n 0) at
          ∙ put_mid_inside done size raws c.get_row.new.raws j within long in_size
          ∙ c.get_row.ensures j inside
          ∙ ap (place_pixel c.args.self.now) (sym (place j short))
          ∙ ap (λ n. place_pixel c.args.self.now (cell_place c.args.i c.args.r.now (along c.args.from n))) (sym at))
          (cases_lt k done);
    }
