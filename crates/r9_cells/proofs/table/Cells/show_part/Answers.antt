use Rattle.std.proofs.Common.{◌≡◌, ◌∙◌, ℕ, true, Some, get_or, length, sym, ap, subst, arith}
use Rattle.std.specs.Prelude.{is_some, if◌then◌else◌}
use Rattle.r9_geom.specs.declared.Point.{Point}
use Rattle.r9_geom.specs.declared.Rect.{Rect}
use Rattle.r9_geom.specs.Geometry.{at_min, carried, holds, IsOrdered, IsRectNear}
use Rattle.r9_geom.proofs.GeometryLemmas.{corner}
use Rattle.r9_plane.specs.Blocks.{number_in, HasRows}
use Rattle.r9_plane.specs.Pixels.{pixel_at, rect_of}
use Rattle.r9_plane.proofs.Shifts.{holds-at_min, ordered-at_min}
use Rattle.r9_store.specs.Tiles.{is_held, pixel, place_of, Tiles}
use Rattle.r9_store.proofs.Blocks.{carried_back}
use Rattle.model_kept.specs.Cells.{cell_of, in_cell}
use Rattle.r9_cells.specs.Cells.{all_rows, place_pixel}
use Rattle.r9_cells.specs.Rows.{cell_at, cell_place}
use Rattle.r9_cells.proofs.Areas.{same_there}
use Rattle.r9_cells.proofs.Inner.{first_small, first_tile, from_there, has_lies, in_tile, near_within, number_there, points_there, rows_there, tile_number, tile_pixel, tile_rows}
use Rattle.r9_cells.proofs.Places.{tile_parts}
use Rattle.r9_cells.proofs.Sets.{if_same}
use Rattle.r9_cells.proofs.table.Cells.show_part.Goals as goal

pub cell_at-requires-clause-inside : goal.cell_at-requires-clause-inside
cell_at-requires-clause-inside g c =
    (tile_parts (all_rows c.args.self.now) c.args.i c.args.r.now c.args.part.now.min (c.requires.has c.args.part.now.min (corner c.args.part.now c.requires.some.across c.requires.some.down))).0

pub cell_at-requires-clause-small : goal.cell_at-requires-clause-small
cell_at-requires-clause-small g c =
    first_small c.args.self.now c.args.i c.args.r.now c.args.part.now c.requires.some c.requires.has

pub tile-tile-requires : goal.tile-tile-requires
tile-tile-requires g c =
    ap (λ k. is_some (cell_at (all_rows c.args.self.now) c.args.i k)) c.cell_at.ensures ∙ first_tile c.args.self.now c.args.i c.args.r.now c.args.part.now c.requires.some c.requires.has

pub tile-pixels-requires : goal.tile-pixels-requires
tile-pixels-requires g c =
    record { held = ap (λ (s : Tiles). is_held s c.tile-tile.result) c.store.ensures ∙ c.args.self.now.kept.alive c.args.i c.cell_at.result c.tile-tile.result c.tile-tile.ensures }

pub place_at-requires : goal.place_at-requires
place_at-requires g c =
    (tile_parts (all_rows c.args.self.now) c.args.i c.args.r.now c.args.part.now.min (c.requires.has c.args.part.now.min (corner c.args.part.now c.requires.some.across c.requires.some.down))).0

pub put_block-requires-clause-near : goal.put_block-requires-clause-near
put_block-requires-clause-near g c =
    let to_is : c.at_min.result ≡ at_min c.args.part.now c.args.to = c.at_min.ensures in
    subst IsRectNear (sym to_is) (near_within (rect_of c.args.watched.now.plane) (at_min c.args.part.now c.args.to) c.args.watched.now.plane.near (points_there c.args.part.now c.args.to c.requires.some) (λ (q : Point) (h : holds (at_min c.args.part.now c.args.to) q ≡ true). ap (holds (rect_of c.args.watched.now.plane)) (sym (carried_back q c.args.to c.args.part.now.min)) ∙ c.requires.inside (carried q c.args.to c.args.part.now.min) (from_there c.args.part.now c.args.to q h)))

pub put_block-requires-clause-ordered : goal.put_block-requires-clause-ordered
put_block-requires-clause-ordered g c =
    let to_is : c.at_min.result ≡ at_min c.args.part.now c.args.to = c.at_min.ensures in
    subst IsOrdered (sym to_is) (ordered-at_min c.args.part.now c.args.to c.requires.ordered)

pub put_block-requires-clause-inside : goal.put_block-requires-clause-inside
put_block-requires-clause-inside g c q h =
    let to_is : c.at_min.result ≡ at_min c.args.part.now c.args.to = c.at_min.ensures in
    (λ (q : Point) (h : holds (at_min c.args.part.now c.args.to) q ≡ true). ap (holds (rect_of c.args.watched.now.plane)) (sym (carried_back q c.args.to c.args.part.now.min)) ∙ c.requires.inside (carried q c.args.to c.args.part.now.min) (from_there c.args.part.now c.args.to q h)) q (ap (λ (s : Rect). holds s q) (sym to_is) ∙ h)

pub put_block-requires-clause-rows : goal.put_block-requires-clause-rows
put_block-requires-clause-rows g c =
    let to_is : c.at_min.result ≡ at_min c.args.part.now c.args.to = c.at_min.ensures in
    let rows = rows_there c.args.part.now c.args.to (place_of (in_cell c.args.r.now c.args.part.now.min)) 32 1024 (tile_rows c.args.r.now c.args.part.now (has_lies c.args.self.now c.args.i c.args.r.now c.args.part.now c.requires.also c.requires.ordered c.requires.some c.requires.has) c.requires.part) in
    subst (λ (s : Rect). HasRows s c.place_at.result 32 (length c.tile-pixels.result.now)) (sym to_is) (subst (λ (n : ℕ). HasRows (at_min c.args.part.now c.args.to) n 32 (length c.tile-pixels.result.now)) (sym c.place_at.ensures.value) (subst (HasRows (at_min c.args.part.now c.args.to) (place_of (in_cell c.args.r.now c.args.part.now.min)) 32) (sym c.tile-pixels.ensures.len) rows))

pub put_block-requires-clause-raws : goal.put_block-requires-clause-raws
put_block-requires-clause-raws g c q h =
    let to_is : c.at_min.result ≡ at_min c.args.part.now c.args.to = c.at_min.ensures in
    let r = c.args.r.now in
    let part = c.args.part.now in
    let pixels = c.tile-pixels.result.now in
    let lies = has_lies c.args.self.now c.args.i c.args.r.now c.args.part.now c.requires.also c.requires.ordered c.requires.some c.requires.has in
    let tile : cell_at (all_rows c.args.self.now) c.args.i (cell_of r part.min) ≡ Some c.tile-tile.result = ap (cell_at (all_rows c.args.self.now) c.args.i) (sym c.cell_at.ensures) ∙ c.tile-tile.ensures in
    let value : (q : Point) → holds part (carried q c.args.to part.min) ≡ true → get_or pixels (number_in c.at_min.result c.place_at.result 32 q) 0 ≡ place_pixel c.args.self.now (cell_place c.args.i r (carried q c.args.to part.min)) = λ q h.
    let p = carried q c.args.to part.min in
    ap (λ (s : Rect). get_or pixels (number_in s c.place_at.result 32 q) 0) to_is
    ∙ ap (λ (x : Point). get_or pixels (number_in (at_min part c.args.to) c.place_at.result 32 x) 0) (sym (carried_back q c.args.to part.min))
    ∙ ap (λ n. get_or pixels n 0) (number_there part c.args.to p c.place_at.result 32 h)
    ∙ ap (λ n. get_or pixels (number_in part n 32 p) 0) c.place_at.ensures.value
    ∙ ap (λ n. get_or pixels n 0) (tile_number r part p lies c.requires.part h)
    ∙ c.tile-pixels.ensures.pixels (in_cell r p) (in_tile r p)
    ∙ ap (λ (s : Tiles). pixel s c.tile-tile.result (in_cell r p)) c.store.ensures
    ∙ sym (tile_pixel c.args.self.now c.args.i r part c.tile-tile.result p c.requires.part h tile) in
    let inside = from_there part c.args.to q (ap (λ (s : Rect). holds s q) (sym to_is) ∙ h) in
    let small = c.requires.below (carried q c.args.to part.min) inside in
    let same = value q inside in
    omega (arith, small, same)

pub returns-clause-pixels : goal.returns-clause-pixels
returns-clause-pixels g c q =
    let to_is : c.at_min.result ≡ at_min c.args.part.now c.args.to = c.at_min.ensures in
    let r = c.args.r.now in
    let part = c.args.part.now in
    let pixels = c.tile-pixels.result.now in
    let lies = has_lies c.args.self.now c.args.i c.args.r.now c.args.part.now c.requires.also c.requires.ordered c.requires.some c.requires.has in
    let tile : cell_at (all_rows c.args.self.now) c.args.i (cell_of r part.min) ≡ Some c.tile-tile.result = ap (cell_at (all_rows c.args.self.now) c.args.i) (sym c.cell_at.ensures) ∙ c.tile-tile.ensures in
    let value : (q : Point) → holds part (carried q c.args.to part.min) ≡ true → get_or pixels (number_in c.at_min.result c.place_at.result 32 q) 0 ≡ place_pixel c.args.self.now (cell_place c.args.i r (carried q c.args.to part.min)) = λ q h.
    let p = carried q c.args.to part.min in
    ap (λ (s : Rect). get_or pixels (number_in s c.place_at.result 32 q) 0) to_is
    ∙ ap (λ (x : Point). get_or pixels (number_in (at_min part c.args.to) c.place_at.result 32 x) 0) (sym (carried_back q c.args.to part.min))
    ∙ ap (λ n. get_or pixels n 0) (number_there part c.args.to p c.place_at.result 32 h)
    ∙ ap (λ n. get_or pixels (number_in part n 32 p) 0) c.place_at.ensures.value
    ∙ ap (λ n. get_or pixels n 0) (tile_number r part p lies c.requires.part h)
    ∙ c.tile-pixels.ensures.pixels (in_cell r p) (in_tile r p)
    ∙ ap (λ (s : Tiles). pixel s c.tile-tile.result (in_cell r p)) c.store.ensures
    ∙ sym (tile_pixel c.args.self.now c.args.i r part c.tile-tile.result p c.requires.part h tile) in
    let test : holds c.at_min.result q ≡ holds part (carried q c.args.to part.min) = ap (λ (s : Rect). holds s q) to_is ∙ holds-at_min part c.args.to q in
    let old = pixel_at c.args.watched.now.plane q in
    let raw = get_or pixels (number_in c.at_min.result c.place_at.result 32 q) 0 in
    c.put_block.ensures.pixels q
    ∙ ap (λ b. if b then raw else old) test
    ∙ if_same (holds part (carried q c.args.to part.min)) raw (place_pixel c.args.self.now (cell_place c.args.i r (carried q c.args.to part.min))) old (value q)

pub returns-clause-steps : goal.returns-clause-steps
returns-clause-steps g c =
    same_there c.args.part.now c.at_min.result c.args.to c.args.steps.now c.put_block.new.steps c.at_min.ensures c.put_block.ensures.steps

pub returns-clause-few : goal.returns-clause-few
returns-clause-few g c =
    omega (arith, c.put_block.ensures.few, c.put_block.ensures.steps, same_there c.args.part.now c.at_min.result c.args.to c.args.steps.now c.put_block.new.steps c.at_min.ensures c.put_block.ensures.steps)
