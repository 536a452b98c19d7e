use Rattle.std.proofs.Common.{lit≤, List, Option, ◌≡◌, ◌∙◌, ◌+◌, ◌-◌, ◌<◌, ◌≤◌, ◌^◌, ℕ, true, length, get_or, take, drop, ⊎_elim, sym, ap, arith}
use Rattle.std.proofs.lemmas.Bool.{cases_lt}
use Rattle.std.specs.Prelude.{is_some}
use Rattle.r9_geom.proofs.GeometryLemmas.{near_wider}
use Rattle.r9_geom.specs.Geometry.{holds}
use Rattle.r9_plane.specs.Pixels.{along}
use Rattle.r9_locate.proofs.locate.Locating.{along-apart, along_none}
use Rattle.r9_locate.proofs.locate.Parts.{get_or-part, length-part}
use Rattle.model_kept.specs.Cells.{cell_of}
use Rattle.r9_cells.specs.Rows.{cell_at, cell_place, rows_of}
use Rattle.r9_cells.specs.Cells.{all_rows, place_pixel}
use Rattle.r9_cells.proofs.Places.{place_injective, row_near, row_small, run_places, tile_parts}
use Rattle.r9_cells.proofs.Changed.{cell_inside}
use Rattle.r9_cells.proofs.table.Cells.write.Goals as goal

pub along-requires-clause-near : goal.along-requires-clause-near
along-requires-clause-near g c =
    let first = tile_parts (all_rows c.args.self.now) c.args.i c.args.r.now (along c.args.at 0) (c.requires.has 0 (omega (arith, c.loop-done-test.true))) in
    near_wider (2 ^ 40) (2 ^ 42) c.args.at (lit≤ tt) (row_near c.args.r.now c.args.at 0 c.requires.near first.0 first.0).0

pub along-requires-clause-columns : goal.along-requires-clause-columns
along-requires-clause-columns g c =
    let first = tile_parts (all_rows c.args.self.now) c.args.i c.args.r.now (along c.args.at 0) (c.requires.has 0 (omega (arith, c.loop-done-test.true))) in
    let here = tile_parts (all_rows c.args.self.now) c.args.i c.args.r.now (along c.args.at c.loop-done.done) (c.requires.has c.loop-done.done (c.loop-done-test.true)) in
    omega (arith, (row_near c.args.r.now c.args.at c.loop-done.done c.requires.near first.0 here.0).1)

pub run_of-run-requires-clause-inside : goal.run_of-run-requires-clause-inside
run_of-run-requires-clause-inside g c =
    let here = tile_parts (all_rows c.args.self.now) c.args.i c.args.r.now (along c.args.at c.loop-done.done) (c.requires.has c.loop-done.done (c.loop-done-test.true)) in
    ap (holds c.args.r.now) c.along.ensures ∙ here.0

pub run_of-run-requires-clause-small : goal.run_of-run-requires-clause-small
run_of-run-requires-clause-small g c =
    let rows = c.args.self.now.rows.items in
    let here = tile_parts (rows_of rows) c.args.i c.args.r.now (along c.args.at c.loop-done.done) (c.requires.has c.loop-done.done (c.loop-done-test.true)) in
    let small = row_small rows c.args.i (cell_of c.args.r.now (along c.args.at c.loop-done.done)) (cell_inside (rows_of rows) c.args.i (cell_of c.args.r.now (along c.args.at c.loop-done.done)) here.1).1 in
    omega (arith, ap (cell_of c.args.r.now) c.along.ensures, small)

pub put_row-requires-clause-tile : goal.put_row-requires-clause-tile
put_row-requires-clause-tile g c =
    let here = tile_parts (all_rows c.args.self.now) c.args.i c.args.r.now (along c.args.at c.loop-done.done) (c.requires.has c.loop-done.done (c.loop-done-test.true)) in
    let first : cell_of c.args.r.now (along c.args.at c.loop-done.done) ≡ c.run_of-run.result.cell =
    ap (cell_of c.args.r.now) (sym c.along.ensures ∙ sym (along_none c.along.result)) ∙ c.run_of-run.ensures.cell 0 c.run_of-run.ensures.some in
    ap (λ k. is_some (cell_at (all_rows c.loop-done.self) c.args.i k)) (sym first) ∙ ap (λ (rows : List (List (Option ℕ))). is_some (cell_at rows c.args.i (cell_of c.args.r.now (along c.args.at c.loop-done.done)))) c.loop-done.invariant.rows ∙ here.1

pub loop-done-preserved : goal.loop-done-preserved
loop-done-preserved g c =
    let raws = c.args.raws.now in
    let done = c.loop-done.done in
    let run = c.run_of-run.result in
    let size = done + run.len - done in
    let within : done ≤ length raws = c.loop-done.invariant.within in
    let fits : done + size ≤ length raws = omega (arith, c.run_of-run.ensures.most, within) in
    let long = length-part raws done size fits in
    let place = run_places c.args.i run.cell c.args.r.now c.args.at c.along.result run.at done run.len c.along.ensures c.run_of-run.ensures.cell c.run_of-run.ensures.at in
    let inside : (k : ℕ) → k < length raws → holds c.args.r.now (along c.args.at k) ≡ true = λ k below. (tile_parts (all_rows c.args.self.now) c.args.i c.args.r.now (along c.args.at k) (c.requires.has k below)).0 in
    record {
      within = omega (arith, fits);
      put = λ k below.
          ⊎_elim
          (λ (early : k < done).
          c.put_row.ensures.others (cell_place c.args.i c.args.r.now (along c.args.at k))
          (λ j lower same.
          let short : j < run.len = omega (arith, lower, long) in
          let points = place_injective c.args.i c.args.r.now (along c.args.at k) (along c.args.at (done + j)) (inside k (omega (arith, early, within))) (inside (done + j) (omega (arith, short, fits))) (same ∙ sym (place j short)) in
          absurd (omega (arith, early, along-apart c.args.at k (done + j) points)))
          ∙ c.loop-done.invariant.put k early)
          (λ (late : done ≤ k).
          let j = k - done in
          let at : k ≡ done + j = omega arith in
          let short : j < run.len = omega (arith, below, late) in
          let in_size : j < size = omega (arith, short) in
          let in_part : j < length (take size (drop done raws)) = omega (arith, long, in_size) in
          ap (λ n. place_pixel c.put_row.new.self (cell_place c.args.i c.args.r.now (along c.args.at n))) at
          ∙ ap (place_pixel c.put_row.new.self) (place j short)
          ∙ c.put_row.ensures.at j in_part
          ∙ get_or-part raws done size j in_size
          ∙ ap (λ n. get_or raws n 0) (sym at))
          (cases_lt k done);
      others = λ other apart.
          c.put_row.ensures.others other
          (λ j lower same.
          let short : j < run.len = omega (arith, lower, long) in
          apart (done + j) (omega (arith, short)) (same ∙ sym (place j short)))
          ∙ c.loop-done.invariant.others other (λ k lower. apart k (omega (arith, lower)));
      rows = c.put_row.ensures.rows ∙ c.loop-done.invariant.rows;
      spare = c.put_row.ensures.spare ∙ c.loop-done.invariant.spare;
      steps = omega (arith, c.put_row.ensures.steps, c.loop-done.invariant.steps, long);
    }
