use Rattle.std.proofs.Common.{◌≡◌, ◌∙◌, sym, ap, subst, arith}
use Rattle.std.specs.Prelude.{is_some}
use Rattle.std.proofs.lemmas.Int.{ints}
use Rattle.r9_geom.specs.declared.Point.{Point}
use Rattle.r9_geom.specs.declared.Rect.{Rect}
use Rattle.r9_geom.specs.Geometry.{at_min, holds, HasPoints}
use Rattle.r9_geom.proofs.GeometryLemmas.{bounds_of, corner}
use Rattle.r9_store.specs.Tiles.{cell}
use Rattle.model_kept.specs.Cells.{in_cell}
use Rattle.r9_cells.specs.Cells.{all_rows}
use Rattle.r9_cells.specs.Rows.{cell_at}
use Rattle.r9_cells.proofs.Areas.{same_there}
use Rattle.r9_cells.proofs.Inner.{first_small, first_tile, has_lies, points_there, there_in_tile, tile_set}
use Rattle.r9_cells.proofs.Places.{tile_parts}
use Rattle.r9_cells.proofs.table.Cells.fill_part.Goals as goal

pub cell_at-requires-clause-inside : goal.cell_at-requires-clause-inside
cell_at-requires-clause-inside g c =
    (tile_parts (all_rows c.args.self.now) c.args.i c.args.r.now c.args.part.now.min (c.requires.has c.args.part.now.min (corner c.args.part.now c.requires.some.across c.requires.some.down))).0

pub cell_at-requires-clause-small : goal.cell_at-requires-clause-small
cell_at-requires-clause-small g c =
    first_small c.args.self.now c.args.i c.args.r.now c.args.part.now c.requires.some c.requires.has

pub inner-requires : goal.inner-requires
inner-requires g c =
    (tile_parts (all_rows c.args.self.now) c.args.i c.args.r.now c.args.part.now.min (c.requires.has c.args.part.now.min (corner c.args.part.now c.requires.some.across c.requires.some.down))).0

pub at_min-at-requires-clause-min : goal.at_min-at-requires-clause-min
at_min-at-requires-clause-min g c =
    let b = bounds_of cell c.inner.result c.inner.ensures.within in
    record { left = omega (arith, ints, b.left); right = omega (arith, ints, b.right); top = omega (arith, ints, b.top); bottom = omega (arith, ints, b.bottom) }

pub fill_in-requires-clause-tile : goal.fill_in-requires-clause-tile
fill_in-requires-clause-tile g c =
    ap (λ k. is_some (cell_at (all_rows c.args.self.now) c.args.i k)) c.cell_at.ensures ∙ first_tile c.args.self.now c.args.i c.args.r.now c.args.part.now c.requires.some c.requires.has

pub fill_in-requires-clause-some : goal.fill_in-requires-clause-some
fill_in-requires-clause-some g c =
    let at_is : c.at_min-at.result ≡ at_min c.args.part.now (in_cell c.args.r.now c.args.part.now.min) = c.at_min-at.ensures ∙ ap (at_min c.args.part.now) c.inner.ensures.value in
    subst HasPoints (sym at_is) (points_there c.args.part.now (in_cell c.args.r.now c.args.part.now.min) c.requires.some)

pub fill_in-requires-clause-inside : goal.fill_in-requires-clause-inside
fill_in-requires-clause-inside g c q h =
    let at_is : c.at_min-at.result ≡ at_min c.args.part.now (in_cell c.args.r.now c.args.part.now.min) = c.at_min-at.ensures ∙ ap (at_min c.args.part.now) c.inner.ensures.value in
    there_in_tile c.args.r.now c.args.part.now q (has_lies c.args.self.now c.args.i c.args.r.now c.args.part.now c.requires.also c.requires.ordered c.requires.some c.requires.has) c.requires.part (ap (λ (s : Rect). holds s q) (sym at_is) ∙ h)

pub returns-clause-at : goal.returns-clause-at
returns-clause-at g c p h =
    let at_is : c.at_min-at.result ≡ at_min c.args.part.now (in_cell c.args.r.now c.args.part.now.min) = c.at_min-at.ensures ∙ ap (at_min c.args.part.now) c.inner.ensures.value in
    let part = c.args.part.now in
    let set = tile_set c.args.self.now c.fill_in.new.self c.args.i c.args.r.now part c.cell_at.result c.at_min-at.result (λ (q : Point). c.args.raw) (has_lies c.args.self.now c.args.i c.args.r.now c.args.part.now c.requires.also c.requires.ordered c.requires.some c.requires.has) c.requires.part c.cell_at.ensures at_is c.fill_in.ensures.at c.fill_in.ensures.others in
    set.written p h

pub returns-clause-others : goal.returns-clause-others
returns-clause-others g c =
    let at_is : c.at_min-at.result ≡ at_min c.args.part.now (in_cell c.args.r.now c.args.part.now.min) = c.at_min-at.ensures ∙ ap (at_min c.args.part.now) c.inner.ensures.value in
    let part = c.args.part.now in
    let set = tile_set c.args.self.now c.fill_in.new.self c.args.i c.args.r.now part c.cell_at.result c.at_min-at.result (λ (q : Point). c.args.raw) (has_lies c.args.self.now c.args.i c.args.r.now c.args.part.now c.requires.also c.requires.ordered c.requires.some c.requires.has) c.requires.part c.cell_at.ensures at_is c.fill_in.ensures.at c.fill_in.ensures.others in
    set.others

pub returns-clause-steps : goal.returns-clause-steps
returns-clause-steps g c =
    same_there c.args.part.now c.at_min-at.result c.inner.result c.args.steps.now c.fill_in.new.steps c.at_min-at.ensures c.fill_in.ensures.steps
