use Rattle.std.proofs.Common.{◌≡◌, ◌≢◌, ◌∙◌, true, refl, sym, ap, subst}
use Rattle.std.specs.Prelude.{is_some}
use Rattle.r9_geom.specs.declared.Point.{Point}
use Rattle.r9_geom.specs.declared.Rect.{Rect}
use Rattle.r9_geom.specs.Geometry.{at_min, carried, holds, HasPoints, IsRectNear}
use Rattle.r9_geom.proofs.GeometryLemmas.{corner}
use Rattle.r9_plane.specs.Pixels.{pixel_at, rect_of}
use Rattle.r9_store.specs.Tiles.{cell}
use Rattle.r9_store.proofs.Blocks.{carried_back}
use Rattle.model_kept.specs.Cells.{in_cell}
use Rattle.r9_cells.specs.Cells.{all_rows, cell_pixel, place_pixel}
use Rattle.r9_cells.specs.Rows.{cell_at, CellPlace}
use Rattle.r9_cells.proofs.Areas.{same_there}
use Rattle.r9_cells.proofs.Inner.{carried_through, first_small, first_tile, from_there, has_lies, near_within, points_there, tile_set, to_there, lies_at}
use Rattle.r9_cells.proofs.Places.{tile_parts}
use Rattle.r9_cells.proofs.table.Cells.hide_part.Goals as goal

pub inner-at-requires : goal.inner-at-requires
inner-at-requires g c =
    (tile_parts (all_rows c.args.self.now) c.args.i c.args.r.now c.args.part.now.min (c.requires.has c.args.part.now.min (corner c.args.part.now c.requires.some.across c.requires.some.down))).0

pub cell_at-requires-clause-inside : goal.cell_at-requires-clause-inside
cell_at-requires-clause-inside g c =
    (tile_parts (all_rows c.args.self.now) c.args.i c.args.r.now c.args.part.now.min (c.requires.has c.args.part.now.min (corner c.args.part.now c.requires.some.across c.requires.some.down))).0

pub cell_at-requires-clause-small : goal.cell_at-requires-clause-small
cell_at-requires-clause-small g c =
    first_small c.args.self.now c.args.i c.args.r.now c.args.part.now c.requires.some c.requires.has

pub copy_block-requires-clause-tile : goal.copy_block-requires-clause-tile
copy_block-requires-clause-tile g c =
    ap (λ k. is_some (cell_at (all_rows c.args.self.now) c.args.i k)) c.cell_at.ensures ∙ first_tile c.args.self.now c.args.i c.args.r.now c.args.part.now c.requires.some c.requires.has

pub copy_block-requires-clause-some : goal.copy_block-requires-clause-some
copy_block-requires-clause-some g c =
    let from_is : c.at_min.result ≡ at_min c.args.part.now c.args.from = c.at_min.ensures in
    let at_is : c.inner-at.result ≡ in_cell c.args.r.now c.args.part.now.min = c.inner-at.ensures.value in
    subst HasPoints (sym from_is) (points_there c.args.part.now c.args.from c.requires.some)

pub copy_block-requires-clause-near : goal.copy_block-requires-clause-near
copy_block-requires-clause-near g c =
    let from_is : c.at_min.result ≡ at_min c.args.part.now c.args.from = c.at_min.ensures in
    let at_is : c.inner-at.result ≡ in_cell c.args.r.now c.args.part.now.min = c.inner-at.ensures.value in
    subst IsRectNear (sym from_is) (near_within (rect_of c.args.plane.now) (at_min c.args.part.now c.args.from) c.args.plane.now.near (points_there c.args.part.now c.args.from c.requires.some) (λ q h. ap (holds (rect_of c.args.plane.now)) (sym (carried_back q c.args.from c.args.part.now.min)) ∙ c.requires.inside (carried q c.args.from c.args.part.now.min) (from_there c.args.part.now c.args.from q h)))

pub copy_block-requires-clause-inside : goal.copy_block-requires-clause-inside
copy_block-requires-clause-inside g c q h =
    let from_is : c.at_min.result ≡ at_min c.args.part.now c.args.from = c.at_min.ensures in
    let at_is : c.inner-at.result ≡ in_cell c.args.r.now c.args.part.now.min = c.inner-at.ensures.value in
    let p = carried q c.args.from c.args.part.now.min in
    let inside = from_there c.args.part.now c.args.from q (ap (λ (s : Rect). holds s q) (sym from_is) ∙ h) in
    let same : carried q c.at_min.result.min c.inner-at.result ≡ carried p c.args.part.now.min (in_cell c.args.r.now c.args.part.now.min) =
    (λ j. carried q (from_is j).min (at_is j)) ∙ sym (carried_through q c.args.from c.args.part.now.min (in_cell c.args.r.now c.args.part.now.min)) in
    ap (holds cell) same ∙ lies_at c.args.r.now c.args.part.now (has_lies c.args.self.now c.args.i c.args.r.now c.args.part.now c.requires.also c.requires.ordered c.requires.some c.requires.has) c.requires.part p inside

pub copy_block-requires-clause-inside_plane : goal.copy_block-requires-clause-inside_plane
copy_block-requires-clause-inside_plane g c q h =
    let from_is : c.at_min.result ≡ at_min c.args.part.now c.args.from = c.at_min.ensures in
    let at_is : c.inner-at.result ≡ in_cell c.args.r.now c.args.part.now.min = c.inner-at.ensures.value in
    (λ (q : Point) (h : holds (at_min c.args.part.now c.args.from) q ≡ true). ap (holds (rect_of c.args.plane.now)) (sym (carried_back q c.args.from c.args.part.now.min)) ∙ c.requires.inside (carried q c.args.from c.args.part.now.min) (from_there c.args.part.now c.args.from q h)) q (ap (λ (s : Rect). holds s q) (sym from_is) ∙ h)

pub returns-clause-at : goal.returns-clause-at
returns-clause-at g c p h =
    let from_is : c.at_min.result ≡ at_min c.args.part.now c.args.from = c.at_min.ensures in
    let at_is : c.inner-at.result ≡ in_cell c.args.r.now c.args.part.now.min = c.inner-at.ensures.value in
    let r = c.args.r.now in
    let part = c.args.part.now in
    let at = in_cell r part.min in
    let there : (q : Point) → holds (at_min part at) q ≡ true → cell_pixel c.copy_block.new.self c.args.i c.cell_at.result q ≡ pixel_at c.args.plane.now (carried q at c.args.from) = λ q h.
    let p = carried q at part.min in
    let f = carried q at c.args.from in
    let inside = to_there part c.args.from p (from_there part at q h) in
    let f_is : carried p part.min c.args.from ≡ f = carried_through q at part.min c.args.from in
    let back : carried f c.at_min.result.min c.inner-at.result ≡ q = (λ j. carried f (from_is j).min (at_is j)) ∙ carried_back q at c.args.from in
    ap (cell_pixel c.copy_block.new.self c.args.i c.cell_at.result) (sym back)
    ∙ c.copy_block.ensures.at f (ap (λ (s : Rect). holds s f) from_is ∙ ap (holds (at_min part c.args.from)) (sym f_is) ∙ inside) in
    let off : (place : CellPlace) → ((q : Point) → holds (at_min part at) q ≡ true → place ≢ record { image = c.args.i; cell = c.cell_at.result; at = q }) → place_pixel c.copy_block.new.self place ≡ place_pixel c.args.self.now place = λ place apart.
    c.copy_block.ensures.others place
    (λ f h same.
    let p = carried f c.args.from part.min in
    let inside = from_there part c.args.from f (ap (λ (s : Rect). holds s f) (sym from_is) ∙ h) in
    let q = carried p part.min at in
    let q_is : carried f c.at_min.result.min c.inner-at.result ≡ q = (λ j. carried f (from_is j).min (at_is j)) ∙ sym (carried_through f c.args.from part.min at) in
    apart q (to_there part at p inside) (same ∙ (λ j. record { image = c.args.i; cell = c.cell_at.result; at = q_is j }))) in
    let set = tile_set c.args.self.now c.copy_block.new.self c.args.i r part c.cell_at.result (at_min part at) (λ (q : Point). pixel_at c.args.plane.now (carried q at c.args.from)) (has_lies c.args.self.now c.args.i c.args.r.now c.args.part.now c.requires.also c.requires.ordered c.requires.some c.requires.has) c.requires.part c.cell_at.ensures refl there off in
    set.written p h ∙ ap (pixel_at c.args.plane.now) (carried_through p part.min at c.args.from)

pub returns-clause-others : goal.returns-clause-others
returns-clause-others g c =
    let from_is : c.at_min.result ≡ at_min c.args.part.now c.args.from = c.at_min.ensures in
    let at_is : c.inner-at.result ≡ in_cell c.args.r.now c.args.part.now.min = c.inner-at.ensures.value in
    let r = c.args.r.now in
    let part = c.args.part.now in
    let at = in_cell r part.min in
    let there : (q : Point) → holds (at_min part at) q ≡ true → cell_pixel c.copy_block.new.self c.args.i c.cell_at.result q ≡ pixel_at c.args.plane.now (carried q at c.args.from) = λ q h.
    let p = carried q at part.min in
    let f = carried q at c.args.from in
    let inside = to_there part c.args.from p (from_there part at q h) in
    let f_is : carried p part.min c.args.from ≡ f = carried_through q at part.min c.args.from in
    let back : carried f c.at_min.result.min c.inner-at.result ≡ q = (λ j. carried f (from_is j).min (at_is j)) ∙ carried_back q at c.args.from in
    ap (cell_pixel c.copy_block.new.self c.args.i c.cell_at.result) (sym back)
    ∙ c.copy_block.ensures.at f (ap (λ (s : Rect). holds s f) from_is ∙ ap (holds (at_min part c.args.from)) (sym f_is) ∙ inside) in
    let off : (place : CellPlace) → ((q : Point) → holds (at_min part at) q ≡ true → place ≢ record { image = c.args.i; cell = c.cell_at.result; at = q }) → place_pixel c.copy_block.new.self place ≡ place_pixel c.args.self.now place = λ place apart.
    c.copy_block.ensures.others place
    (λ f h same.
    let p = carried f c.args.from part.min in
    let inside = from_there part c.args.from f (ap (λ (s : Rect). holds s f) (sym from_is) ∙ h) in
    let q = carried p part.min at in
    let q_is : carried f c.at_min.result.min c.inner-at.result ≡ q = (λ j. carried f (from_is j).min (at_is j)) ∙ sym (carried_through f c.args.from part.min at) in
    apart q (to_there part at p inside) (same ∙ (λ j. record { image = c.args.i; cell = c.cell_at.result; at = q_is j }))) in
    let set = tile_set c.args.self.now c.copy_block.new.self c.args.i r part c.cell_at.result (at_min part at) (λ (q : Point). pixel_at c.args.plane.now (carried q at c.args.from)) (has_lies c.args.self.now c.args.i c.args.r.now c.args.part.now c.requires.also c.requires.ordered c.requires.some c.requires.has) c.requires.part c.cell_at.ensures refl there off in
    set.others

pub returns-clause-below : goal.returns-clause-below
returns-clause-below g c p h =
    let from_is : c.at_min.result ≡ at_min c.args.part.now c.args.from = c.at_min.ensures in
    let at_is : c.inner-at.result ≡ in_cell c.args.r.now c.args.part.now.min = c.inner-at.ensures.value in
    c.copy_block.ensures.below (carried p c.args.part.now.min c.args.from) (ap (λ (s : Rect). holds s (carried p c.args.part.now.min c.args.from)) from_is ∙ to_there c.args.part.now c.args.from p h)

pub returns-clause-steps : goal.returns-clause-steps
returns-clause-steps g c =
    same_there c.args.part.now c.at_min.result c.args.from c.args.steps.now c.copy_block.new.steps c.at_min.ensures c.copy_block.ensures.steps
