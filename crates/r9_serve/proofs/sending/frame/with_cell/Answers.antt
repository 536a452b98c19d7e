use Rattle.std.proofs.Common.{◌≡◌, ◌∙◌, List, ℕ, ◌∷◌, ◌++◌, [], ap, sym, subst}
use Rattle.r9_geom.specs.declared.Rect.{Rect}
use Rattle.r9_geom.specs.Geometry.{height, width}
use Rattle.model_forest.specs.World.{origin_point}
use Rattle.model_mirror.specs.Frame.{numbers_line, place_of, rect_of}
use Rattle.model_mirror.specs.Shown.{mirrored}
use Rattle.r9_hall.specs.hall.WorldView.{display_in, world_in}
use Rattle.r9_serve.specs.sending.Cells.{place_in, place_line, AreRowsAdded, IsCellAdded, IsCellOf, IsPartOf}
use Rattle.r9_serve.proofs.sending.Lists.{cell_added}
use Rattle.r9_serve.proofs.sending.Pictures.{area_height, area_width, cell_part, place_is}
use Rattle.r9_serve.proofs.sending.frame.with_cell.Goals as goal

pub cell_rect-r-requires-clause-cell : goal.cell_rect-r-requires-clause-cell
cell_rect-r-requires-clause-cell c = subst (λ (r : Rect). IsCellOf r c.args.cell) (sym c.display.ensures.r) c.requires.cell

pub with_rows-requires-clause-part : goal.with_rows-requires-clause-part
with_rows-requires-clause-part c =
    let corner : c.display.result.min ≡ origin_point = ap (λ (r : Rect). r.min) (c.display.ensures.r ∙ c.sound.ensures.shows.r) ∙ c.requires.display.corner in
    let cell = subst (λ (r : Rect). IsCellOf r c.args.cell) (sym c.display.ensures.r) c.requires.cell in
    subst (λ (r : Rect). IsPartOf r c.cell_rect-r.result) c.display.ensures.r
    (subst (λ (r : Rect). IsPartOf c.display.result r) (sym c.cell_rect-r.ensures) (cell_part c.display.result c.args.cell corner c.display.ensures.ordered c.display.ensures.near cell))

pub returns : goal.returns
returns c =
    let w = world_in c.args.world.now in
    let place = place_of (mirrored w) (c.args.cell.column, c.args.cell.row) in
    let at : c.cell_rect-r.result ≡ rect_of place =
    c.cell_rect-r.ensures
    ∙ ap (λ (r : Rect). rect_of (place_in r c.args.cell)) c.display.ensures.r
    ∙ ap rect_of (place_is w (display_in c.args.world.now) c.args.cell c.sound.ensures.shows) in
    let across : c.width.result ≡ place.width = c.width.ensures ∙ ap width at ∙ area_width place.x place.y place.width place.height in
    let down : c.height.result ≡ place.height = c.height.ensures ∙ ap height at ∙ area_height place.x place.y place.width place.height in
    let line : c.push_line.new.text ≡ c.args.text ++ place_line place =
    c.in_ok-push_line.ensures ∙ (λ i. c.args.text ++ numbers_line 67 (c.cell_start.ensures i ∷ c.cell_start-2.ensures i ∷ across i ∷ down i ∷ [])) in
    let rows : AreRowsAdded c.args.chan (mirrored w) (rect_of place) c.push_line.new.text c.in_ok-all.all.items =
    subst (λ (front : List ℕ). AreRowsAdded c.args.chan (mirrored w) (rect_of place) front c.in_ok-all.all.items) c.into_vec.ensures
    (subst (λ (r : Rect). AreRowsAdded c.args.chan (mirrored w) r c.into_vec.result.items c.in_ok-all.all.items) at c.in_ok-all.ensures) in
    subst (IsCellAdded c.args.chan (mirrored w) (c.args.cell.column, c.args.cell.row) c.args.text) (sym c.from.ensures)
    (cell_added c.args.chan (mirrored w) (c.args.cell.column, c.args.cell.row) c.args.text c.push_line.new.text c.in_ok-all.all.items line rows)
