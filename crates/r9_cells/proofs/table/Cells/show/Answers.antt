use Rattle.std.proofs.Common.{lit≤, ◌≡◌, ◌∙◌, ◌+◌, ◌<◌, ◌^◌, ℕ, length, sym, ap, arith}
use Rattle.std.specs.Prelude.{is_some, slice_index, if◌then◌else◌}
use Rattle.r9_geom.specs.declared.Point.{Point}
use Rattle.r9_geom.specs.Geometry.{carried, distance, holds, strip}
use Rattle.r9_geom.proofs.GeometryLemmas.{near_wider, strip_distance}
use Rattle.model_pixel.specs.Channels.{depth}
use Rattle.r9_plane.specs.Pixels.{along, pixel_at, rect_of}
use Rattle.r9_locate.proofs.locate.Locating.{along-along, along_none, strip_at}
use Rattle.model_kept.specs.Cells.{cell_of}
use Rattle.r9_cells.specs.Rows.{cell_at, cell_place, rows_of}
use Rattle.r9_cells.specs.Cells.{all_rows, place_pixel}
use Rattle.r9_cells.proofs.Carried.{carried_along, grown}
use Rattle.r9_cells.proofs.Places.{row_near, row_small, run_places, tile_parts}
use Rattle.r9_cells.proofs.Changed.{cell_inside}
use Rattle.r9_cells.proofs.table.Cells.show.Goals as goal
use Rattle.r9_cells.proofs.table.Cells.show.Given.{Over}
use Rattle.r9_cells.proofs.table.Cells.show.Goals.{After-row}

pub along-requires-clause-near : goal.along-requires-clause-near
along-requires-clause-near g c =
    let first = tile_parts (all_rows c.args.self.now) c.args.i c.args.r.now (along c.args.from 0) (c.requires.has 0 (omega (arith, c.loop-done-test.true))) in
    near_wider (2 ^ 40) (2 ^ 42) c.args.from (lit≤ tt) (row_near c.args.r.now c.args.from 0 c.requires.near first.0 first.0).0

pub along-requires-clause-columns : goal.along-requires-clause-columns
along-requires-clause-columns g c =
    let first = tile_parts (all_rows c.args.self.now) c.args.i c.args.r.now (along c.args.from 0) (c.requires.has 0 (omega (arith, c.loop-done-test.true))) in
    let here = tile_parts (all_rows c.args.self.now) c.args.i c.args.r.now (along c.args.from c.loop-done.done) (c.requires.has c.loop-done.done c.loop-done-test.true) in
    omega (arith, (row_near c.args.r.now c.args.from c.loop-done.done c.requires.near first.0 here.0).1)

pub along-there-requires-clause-near : goal.along-there-requires-clause-near
along-there-requires-clause-near g c =
    let first = c.requires.inside 0 (omega (arith, c.loop-done-test.true)) in
    near_wider (2 ^ 40) (2 ^ 42) c.args.at (lit≤ tt) (row_near (rect_of c.args.watched.now.plane) c.args.at 0 c.args.watched.now.plane.near first first).0

pub along-there-requires-clause-columns : goal.along-there-requires-clause-columns
along-there-requires-clause-columns g c =
    let first = c.requires.inside 0 (omega (arith, c.loop-done-test.true)) in
    let here = c.requires.inside c.loop-done.done c.loop-done-test.true in
    omega (arith, (row_near (rect_of c.args.watched.now.plane) c.args.at c.loop-done.done c.args.watched.now.plane.near first here).1)

pub run_of-run-requires-clause-inside : goal.run_of-run-requires-clause-inside
run_of-run-requires-clause-inside g c =
    let here = tile_parts (all_rows c.args.self.now) c.args.i c.args.r.now (along c.args.from c.loop-done.done) (c.requires.has c.loop-done.done c.loop-done-test.true) in
    ap (holds c.args.r.now) c.along.ensures ∙ here.0

pub run_of-run-requires-clause-small : goal.run_of-run-requires-clause-small
run_of-run-requires-clause-small g c =
    let rows = c.args.self.now.rows.items in
    let here = tile_parts (rows_of rows) c.args.i c.args.r.now (along c.args.from c.loop-done.done) (c.requires.has c.loop-done.done c.loop-done-test.true) in
    let small = row_small rows c.args.i (cell_of c.args.r.now (along c.args.from c.loop-done.done)) (cell_inside (rows_of rows) c.args.i (cell_of c.args.r.now (along c.args.from c.loop-done.done)) here.1).1 in
    omega (arith, ap (cell_of c.args.r.now) c.along.ensures, small)

pub row-requires-clause-tile : goal.row-requires-clause-tile
row-requires-clause-tile g c =
    let here = tile_parts (all_rows c.args.self.now) c.args.i c.args.r.now (along c.args.from c.loop-done.done) (c.requires.has c.loop-done.done c.loop-done-test.true) in
    let first : cell_of c.args.r.now (along c.args.from c.loop-done.done) ≡ c.run_of-run.result.cell =
    ap (cell_of c.args.r.now) (sym c.along.ensures ∙ sym (along_none c.along.result)) ∙ c.run_of-run.ensures.cell 0 c.run_of-run.ensures.some in
    ap (λ k. is_some (cell_at (all_rows c.args.self.now) c.args.i k)) (sym first) ∙ here.1

-- the pixels of the run as they are kept
kept : (g : Over) (c : After-row g) (k : ℕ) → k < c.run_of-run.result.len → slice_index c.row.result.now k ≡ place_pixel c.args.self.now (cell_place c.args.i c.args.r.now (along c.args.from (c.loop-done.done + k)))
kept g c k below =
    let run = c.run_of-run.result in
    c.row.ensures.pixels k below
    ∙ ap (place_pixel c.args.self.now) (sym (run_places c.args.i run.cell c.args.r.now c.args.from c.along.result run.at c.loop-done.done run.len c.along.ensures c.run_of-run.ensures.cell c.run_of-run.ensures.at k below))

-- and where they are put
next : (g : Over) (c : After-row g) (k : ℕ) → along c.along-there.result k ≡ along c.args.at (c.loop-done.done + k)
next g c k = ap (λ q. along q k) c.along-there.ensures ∙ along-along c.args.at c.loop-done.done k

pub put_row-requires-clause-inside : goal.put_row-requires-clause-inside
put_row-requires-clause-inside g c p h =
    let now = (goal.at.put_row-requires-clause-inside g c).After-row in
    let found = strip_at c.along-there.result p (length c.row.result.now) h in
    ap (λ r. holds r p) c.loop-done.invariant.rect
    ∙ ap (holds (rect_of c.args.watched.now.plane)) (found.2 ∙ next g now found.0)
    ∙ c.requires.inside (c.loop-done.done + found.0) (omega (arith, found.1, c.row.ensures.len, c.run_of-run.ensures.most, c.loop-done.invariant.within))

pub put_row-requires-clause-raws : goal.put_row-requires-clause-raws
put_row-requires-clause-raws g c k below =
    let now = (goal.at.put_row-requires-clause-raws g c).After-row in
    let short : k < c.run_of-run.result.len = omega (arith, below, c.row.ensures.len) in
    let small = c.requires.below (c.loop-done.done + k) (omega (arith, short, c.run_of-run.ensures.most, c.loop-done.invariant.within)) in
    let bits = ap (λ chan. 2 ^ depth chan) c.loop-done.invariant.chan in
    omega (arith, kept g now k short, small, bits)

pub loop-done-preserved : goal.loop-done-preserved
loop-done-preserved g c =
    let now = (goal.at.loop-done-preserved g c).After-row in
    let at = c.args.at in
    let done = c.loop-done.done in
    let len = c.run_of-run.result.len in
    let there = c.along-there.result in
    let raws = c.row.result.now in
    let f : Point → ℕ = λ q. place_pixel c.args.self.now (cell_place c.args.i c.args.r.now (carried q at c.args.from)) in
    let strips : (q : Point) → holds (strip there (length raws)) q ≡ holds (strip (along at done) len) q = λ q j. holds (strip (c.along-there.ensures j) (c.row.ensures.len j)) q in
    record {
      within = omega (arith, c.run_of-run.ensures.most, c.loop-done.invariant.within);
      rect = c.put_row.ensures.rect ∙ c.loop-done.invariant.rect;
      chan = c.put_row.ensures.chan ∙ c.loop-done.invariant.chan;
      moment = c.put_row.ensures.moment ∙ c.loop-done.invariant.moment;
      few = omega (arith, c.loop-done.invariant.few, c.put_row.ensures.few, c.put_row.ensures.steps);
      pixels =
          grown at done len f (pixel_at c.args.watched.now.plane) (pixel_at c.loop-done.watched.plane) (pixel_at c.put_row.new.self.plane) c.loop-done.invariant.pixels
          (λ q h.
          let found = strip_at (along at done) q len h in
          let is : q ≡ along there found.0 = found.2 ∙ sym (ap (λ p. along p found.0) c.along-there.ensures) in
          let place : q ≡ along at (done + found.0) = found.2 ∙ along-along at done found.0 in
          c.put_row.ensures.pixels q
          ∙ ap (λ b. if b then slice_index raws (distance there.x q.x) else pixel_at c.loop-done.watched.plane q) (strips q ∙ h)
          ∙ ap (slice_index raws) (strip_distance there q found.0 (ap (λ (p : Point). p.x) is))
          ∙ kept g now found.0 found.1
          ∙ ap (λ p. place_pixel c.args.self.now (cell_place c.args.i c.args.r.now p)) (sym (ap (λ p. carried p at c.args.from) place ∙ carried_along at c.args.from (done + found.0))))
          (λ q none.
          c.put_row.ensures.pixels q
          ∙ ap (λ b. if b then slice_index raws (distance there.x q.x) else pixel_at c.loop-done.watched.plane q) (strips q ∙ none));
      steps = omega (arith, c.put_row.ensures.steps, c.loop-done.invariant.steps, c.row.ensures.len);
    }

pub returns-clause-few : goal.returns-clause-few
returns-clause-few g c = omega (arith, c.loop-done.invariant.few, c.loop-done.invariant.steps, c.loop-done.invariant.within)
