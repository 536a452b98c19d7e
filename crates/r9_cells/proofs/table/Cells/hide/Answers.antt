use Rattle.std.proofs.Common.{lit≤, List, Option, ◌≡◌, ◌∙◌, ◌+◌, ◌-◌, ◌<◌, ◌≤◌, ◌^◌, ℕ, true, ⊎_elim, sym, ap, subst, arith}
use Rattle.std.proofs.lemmas.Bool.{cases_lt}
use Rattle.std.specs.Prelude.{is_some}
use Rattle.r9_geom.proofs.GeometryLemmas.{near_wider}
use Rattle.r9_geom.specs.Geometry.{holds}
use Rattle.model_pixel.specs.Channels.{depth}
use Rattle.r9_plane.specs.Pixels.{along, chan_of, pixel_at, rect_of}
use Rattle.r9_locate.proofs.locate.Locating.{along-along, along-apart, along_none}
use Rattle.model_kept.specs.Cells.{cell_of}
use Rattle.r9_cells.specs.Rows.{cell_at, cell_place, rows_of}
use Rattle.r9_cells.specs.Cells.{all_rows, place_pixel}
use Rattle.r9_cells.proofs.Places.{place_injective, row_near, row_small, run_places, tile_parts}
use Rattle.r9_cells.proofs.Changed.{cell_inside}
use Rattle.r9_cells.proofs.table.Cells.hide.Goals as goal

pub along-requires-clause-near : goal.along-requires-clause-near
along-requires-clause-near g c =
    let first = tile_parts (all_rows c.args.self.now) c.args.i c.args.r.now (along c.args.at 0) (c.requires.has 0 (omega (arith, c.loop-done-test.true))) in
    near_wider (2 ^ 40) (2 ^ 42) c.args.at (lit≤ tt) (row_near c.args.r.now c.args.at 0 c.requires.near first.0 first.0).0

pub along-requires-clause-columns : goal.along-requires-clause-columns
along-requires-clause-columns g c =
    let first = tile_parts (all_rows c.args.self.now) c.args.i c.args.r.now (along c.args.at 0) (c.requires.has 0 (omega (arith, c.loop-done-test.true))) in
    let here = tile_parts (all_rows c.args.self.now) c.args.i c.args.r.now (along c.args.at c.loop-done.done) (c.requires.has c.loop-done.done (c.loop-done-test.true)) in
    omega (arith, (row_near c.args.r.now c.args.at c.loop-done.done c.requires.near first.0 here.0).1)

pub along-there-requires-clause-near : goal.along-there-requires-clause-near
along-there-requires-clause-near g c =
    let first = c.requires.inside 0 (omega (arith, c.loop-done-test.true)) in
    near_wider (2 ^ 40) (2 ^ 42) c.args.from (lit≤ tt) (row_near (rect_of c.args.plane.now) c.args.from 0 c.args.plane.now.near first first).0

pub along-there-requires-clause-columns : goal.along-there-requires-clause-columns
along-there-requires-clause-columns g c =
    let first = c.requires.inside 0 (omega (arith, c.loop-done-test.true)) in
    let here = c.requires.inside c.loop-done.done c.loop-done-test.true in
    omega (arith, (row_near (rect_of c.args.plane.now) c.args.from c.loop-done.done c.args.plane.now.near first here).1)

pub run_of-run-requires-clause-inside : goal.run_of-run-requires-clause-inside
run_of-run-requires-clause-inside g c =
    let here = tile_parts (all_rows c.args.self.now) c.args.i c.args.r.now (along c.args.at c.loop-done.done) (c.requires.has c.loop-done.done (c.loop-done-test.true)) in
    ap (holds c.args.r.now) c.along.ensures ∙ here.0

pub run_of-run-requires-clause-small : goal.run_of-run-requires-clause-small
run_of-run-requires-clause-small g c =
    let rows = c.args.self.now.rows.items in
    let here = tile_parts (rows_of rows) c.args.i c.args.r.now (along c.args.at c.loop-done.done) (c.requires.has c.loop-done.done (c.loop-done-test.true)) in
    let small = row_small rows c.args.i (cell_of c.args.r.now (along c.args.at c.loop-done.done)) (cell_inside (rows_of rows) c.args.i (cell_of c.args.r.now (along c.args.at c.loop-done.done)) here.1).1 in
    omega (arith, ap (cell_of c.args.r.now) c.along.ensures, small)

pub copy_row-requires-clause-tile : goal.copy_row-requires-clause-tile
copy_row-requires-clause-tile g c =
    let here = tile_parts (all_rows c.args.self.now) c.args.i c.args.r.now (along c.args.at c.loop-done.done) (c.requires.has c.loop-done.done (c.loop-done-test.true)) in
    let first : cell_of c.args.r.now (along c.args.at c.loop-done.done) ≡ c.run_of-run.result.cell =
    ap (cell_of c.args.r.now) (sym c.along.ensures ∙ sym (along_none c.along.result)) ∙ c.run_of-run.ensures.cell 0 c.run_of-run.ensures.some in
    ap (λ k. is_some (cell_at (all_rows c.loop-done.self) c.args.i k)) (sym first) ∙ ap (λ (rows : List (List (Option ℕ))). is_some (cell_at rows c.args.i (cell_of c.args.r.now (along c.args.at c.loop-done.done)))) c.loop-done.invariant.rows ∙ here.1

pub copy_row-requires-clause-inside_plane : goal.copy_row-requires-clause-inside_plane
copy_row-requires-clause-inside_plane g c k below =
    ap (holds (rect_of c.args.plane.now)) (ap (λ q. along q k) c.along-there.ensures ∙ along-along c.args.from c.loop-done.done k)
    ∙ c.requires.inside (c.loop-done.done + k) (omega (arith, below, c.run_of-run.ensures.most, c.loop-done.invariant.within))

pub loop-done-preserved : goal.loop-done-preserved
loop-done-preserved g c =
    let done = c.loop-done.done in
    let run = c.run_of-run.result in
    let within : done ≤ c.args.n = c.loop-done.invariant.within in
    let fits : done + run.len ≤ c.args.n = omega (arith, c.run_of-run.ensures.most, within) in
    let place = run_places c.args.i run.cell c.args.r.now c.args.at c.along.result run.at done run.len c.along.ensures c.run_of-run.ensures.cell c.run_of-run.ensures.at in
    let inside : (k : ℕ) → k < c.args.n → holds c.args.r.now (along c.args.at k) ≡ true = λ k below. (tile_parts (all_rows c.args.self.now) c.args.i c.args.r.now (along c.args.at k) (c.requires.has k below)).0 in
    record {
      within = fits;
      put = λ k below.
          ⊎_elim
          (λ (early : k < done).
          c.copy_row.ensures.others (cell_place c.args.i c.args.r.now (along c.args.at k))
          (λ j lower same.
          let points = place_injective c.args.i c.args.r.now (along c.args.at k) (along c.args.at (done + j)) (inside k (omega (arith, early, within))) (inside (done + j) (omega (arith, lower, fits))) (same ∙ sym (place j lower)) in
          absurd (omega (arith, early, along-apart c.args.at k (done + j) points)))
          ∙ c.loop-done.invariant.put k early)
          (λ (late : done ≤ k).
          let j = k - done in
          let at : k ≡ done + j = omega arith in
          let short : j < run.len = omega (arith, below, late) in
          ap (λ n. place_pixel c.copy_row.new.self (cell_place c.args.i c.args.r.now (along c.args.at n))) at
          ∙ ap (place_pixel c.copy_row.new.self) (place j short)
          ∙ c.copy_row.ensures.at j short
          ∙ ap (pixel_at c.args.plane.now) (ap (λ q. along q j) c.along-there.ensures ∙ along-along c.args.from done j)
          ∙ ap (λ n. pixel_at c.args.plane.now (along c.args.from n)) (sym at))
          (cases_lt k done);
      below = λ k below.
          ⊎_elim
          (λ (early : k < done). c.loop-done.invariant.below k early)
          (λ (late : done ≤ k).
          let j = k - done in
          let at : k ≡ done + j = omega arith in
          let is : along c.along-there.result j ≡ along c.args.from k = ap (λ q. along q j) c.along-there.ensures ∙ along-along c.args.from done j ∙ ap (along c.args.from) (sym at) in
          subst (λ q. pixel_at c.args.plane.now q < 2 ^ depth (chan_of c.args.plane.now)) is (c.copy_row.ensures.below j (omega (arith, below, late))))
          (cases_lt k done);
      others = λ other apart.
          c.copy_row.ensures.others other (λ j lower same. apart (done + j) (omega (arith, lower)) (same ∙ sym (place j lower)))
          ∙ c.loop-done.invariant.others other (λ k lower. apart k (omega (arith, lower)));
      rows = c.copy_row.ensures.rows ∙ c.loop-done.invariant.rows;
      spare = c.copy_row.ensures.spare ∙ c.loop-done.invariant.spare;
      steps = omega (arith, c.copy_row.ensures.steps, c.loop-done.invariant.steps);
    }
