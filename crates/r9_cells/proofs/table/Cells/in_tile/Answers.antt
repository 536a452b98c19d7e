use Rattle.std.proofs.Common.{◌≡◌, ◌∙◌, ℕ, Some, sym, ap}
use Rattle.std.specs.Prelude.{◌==◌, is_some}
use Rattle.std.specs.Option.{option_map_or}
use Rattle.std.proofs.lemmas.Bool.{and_parts}
use Rattle.std.proofs.lemmas.Bool.Decides.{Decides-eqb}
use Rattle.r9_locate.proofs.locate.Locating.{along_none}
use Rattle.r9_store.specs.Tiles.{pixel}
use Rattle.model_kept.specs.Cells.{cell_of, in_cell}
use Rattle.r9_cells.specs.Cells.{all_rows, tiles_in}
use Rattle.r9_cells.specs.Rows.{cell_at, rows_of}
use Rattle.r9_cells.proofs.Changed.{cell_inside}
use Rattle.r9_cells.proofs.Places.{row_small, tile_parts}
use Rattle.r9_cells.proofs.table.Cells.in_tile.Goals as goal
use Rattle.r9_cells.proofs.table.Cells.in_tile.Goals.{After-run_of-run}

pub run_of-run-requires-clause-inside : goal.run_of-run-requires-clause-inside
run_of-run-requires-clause-inside c = (tile_parts (all_rows c.args.self.now) c.args.i c.args.r.now c.args.p c.requires.has).0

pub run_of-run-requires-clause-small : goal.run_of-run-requires-clause-small
run_of-run-requires-clause-small c =
    let rows = c.args.self.now.rows.items in
    let cell = cell_of c.args.r.now c.args.p in
    row_small rows c.args.i cell (cell_inside (rows_of rows) c.args.i cell (tile_parts (rows_of rows) c.args.i c.args.r.now c.args.p c.requires.has).1).1

-- the cell and the point in it, as the run has them
cell_is : (c : After-run_of-run) → cell_of c.args.r.now c.args.p ≡ c.run_of-run.result.cell
cell_is c = ap (cell_of c.args.r.now) (sym (along_none c.args.p)) ∙ c.run_of-run.ensures.cell 0 c.run_of-run.ensures.some

at_is : (c : After-run_of-run) → in_cell c.args.r.now c.args.p ≡ c.run_of-run.result.at
at_is c = ap (in_cell c.args.r.now) (sym (along_none c.args.p)) ∙ c.run_of-run.ensures.at 0 c.run_of-run.ensures.some ∙ along_none c.run_of-run.result.at

tile_is : (c : After-run_of-run) (tile : ℕ) → cell_at (all_rows c.args.self.now) c.args.i c.run_of-run.result.cell ≡ Some tile → cell_at (all_rows c.args.self.now) c.args.i (cell_of c.args.r.now c.args.p) ≡ Some tile
tile_is c tile is = ap (cell_at (all_rows c.args.self.now) c.args.i) (cell_is c) ∙ is

pub tile-requires : goal.tile-requires
tile-requires c =
    ap (λ k. is_some (cell_at (all_rows c.args.self.now) c.args.i k)) (sym (cell_is (goal.at.tile-requires c).After-run_of-run))
    ∙ (tile_parts (all_rows c.args.self.now) c.args.i c.args.r.now c.args.p c.requires.has).1

pub returns-clause-tile : goal.returns-clause-tile
returns-clause-tile c = tile_is (goal.at.returns-clause-tile c).After-run_of-run c.tile.result c.tile.ensures

pub returns-clause-at : goal.returns-clause-at
returns-clause-at c = sym (at_is (goal.at.returns-clause-at c).After-run_of-run)

pub returns-clause-held : goal.returns-clause-held
returns-clause-held c =
    c.args.self.now.kept.alive c.args.i (cell_of c.args.r.now c.args.p) c.tile.result (tile_is (goal.at.returns-clause-held c).After-run_of-run c.tile.result c.tile.ensures)

pub returns-clause-pixel : goal.returns-clause-pixel
returns-clause-pixel c =
    let store = tiles_in c.args.self.now in
    ap (pixel store c.tile.result) (sym (at_is (goal.at.returns-clause-pixel c).After-run_of-run))
    ∙ sym (ap (λ o. option_map_or (λ t. pixel store t (in_cell c.args.r.now c.args.p)) o 0) (tile_is (goal.at.returns-clause-pixel c).After-run_of-run c.tile.result c.tile.ensures))

pub returns-clause-alone : goal.returns-clause-alone
returns-clause-alone c j l e =
    let cell = cell_of c.args.r.now c.args.p in
    let parts = and_parts (j == c.args.i) (l == cell) (c.args.self.now.kept.apart c.args.i cell j l c.tile.result (tile_is (goal.at.returns-clause-alone c).After-run_of-run c.tile.result c.tile.ensures) e) in
    ((Decides-eqb j c.args.i).0 parts.0, (Decides-eqb l cell).0 parts.1)
