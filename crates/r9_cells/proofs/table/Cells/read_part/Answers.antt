use Rattle.std.proofs.Common.{◌≡◌, ◌∙◌, ℕ, Some, get_or, length, sym, ap, subst}
use Rattle.std.specs.Prelude.{is_some}
use Rattle.r9_geom.proofs.GeometryLemmas.{corner}
use Rattle.r9_plane.specs.Blocks.{number_in, HasRows}
use Rattle.r9_store.specs.Tiles.{is_held, pixel, place_of, Tiles}
use Rattle.model_kept.specs.Cells.{cell_of, in_cell}
use Rattle.r9_cells.specs.Cells.{all_rows}
use Rattle.r9_cells.specs.Rows.{cell_at}
use Rattle.r9_cells.proofs.Inner.{first_small, first_tile, has_lies, in_tile, tile_number, tile_pixel, tile_rows}
use Rattle.r9_cells.proofs.Places.{tile_parts}
use Rattle.r9_cells.proofs.table.Cells.read_part.Goals as goal

pub cell_at-requires-clause-inside : goal.cell_at-requires-clause-inside
cell_at-requires-clause-inside c =
    (tile_parts (all_rows c.args.self.now) c.args.i c.args.r.now c.args.part.now.min (c.requires.has c.args.part.now.min (corner c.args.part.now c.requires.some.across c.requires.some.down))).0

pub cell_at-requires-clause-small : goal.cell_at-requires-clause-small
cell_at-requires-clause-small c =
    first_small c.args.self.now c.args.i c.args.r.now c.args.part.now c.requires.some c.requires.has

pub tile-tile-requires : goal.tile-tile-requires
tile-tile-requires c =
    ap (λ k. is_some (cell_at (all_rows c.args.self.now) c.args.i k)) c.cell_at.ensures ∙ first_tile c.args.self.now c.args.i c.args.r.now c.args.part.now c.requires.some c.requires.has

pub tile-pixels-requires : goal.tile-pixels-requires
tile-pixels-requires c =
    record { held = ap (λ (s : Tiles). is_held s c.tile-tile.result) c.store.ensures ∙ c.args.self.now.kept.alive c.args.i c.cell_at.result c.tile-tile.result c.tile-tile.ensures }

pub place_at-place-requires : goal.place_at-place-requires
place_at-place-requires c =
    (tile_parts (all_rows c.args.self.now) c.args.i c.args.r.now c.args.part.now.min (c.requires.has c.args.part.now.min (corner c.args.part.now c.requires.some.across c.requires.some.down))).0

pub copy_rows-requires-clause-from_rows : goal.copy_rows-requires-clause-from_rows
copy_rows-requires-clause-from_rows c =
    let rows = tile_rows c.args.r.now c.args.part.now (has_lies c.args.self.now c.args.i c.args.r.now c.args.part.now c.requires.also c.requires.ordered c.requires.some c.requires.has) c.requires.part in
    subst (λ (n : ℕ). HasRows c.args.part.now n 32 (length c.tile-pixels.result.now)) (sym c.place_at-place.ensures.value) (subst (HasRows c.args.part.now (place_of (in_cell c.args.r.now c.args.part.now.min)) 32) (sym c.tile-pixels.ensures.len) rows)

pub returns-clause-pixels : goal.returns-clause-pixels
returns-clause-pixels c p h =
    let r = c.args.r.now in
    let part = c.args.part.now in
    let pixels = c.tile-pixels.result.now in
    let lies = has_lies c.args.self.now c.args.i c.args.r.now c.args.part.now c.requires.also c.requires.ordered c.requires.some c.requires.has in
    let tile : cell_at (all_rows c.args.self.now) c.args.i (cell_of r part.min) ≡ Some c.tile-tile.result = ap (cell_at (all_rows c.args.self.now) c.args.i) (sym c.cell_at.ensures) ∙ c.tile-tile.ensures in
    c.copy_rows.ensures.pixels p h
    ∙ ap (λ n. get_or pixels (number_in part n 32 p) 0) c.place_at-place.ensures.value
    ∙ ap (λ n. get_or pixels n 0) (tile_number r part p lies c.requires.part h)
    ∙ c.tile-pixels.ensures.pixels (in_cell r p) (in_tile r p)
    ∙ ap (λ (s : Tiles). pixel s c.tile-tile.result (in_cell r p)) c.store.ensures
    ∙ sym (tile_pixel c.args.self.now c.args.i r part c.tile-tile.result p c.requires.part h tile)
