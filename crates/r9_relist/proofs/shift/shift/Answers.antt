use Rattle.std.proofs.Common.{◌≡◌, ◌∙◌, ◌^◌, ℕ, Option, lit≤, sym, subst, ap}
use Rattle.std.specs.Prelude.{is_some, option_map}
use Rattle.std.specs.Option.{option_map_or}
use Rattle.r9_geom.specs.declared.Rect.{Rect}
use Rattle.r9_geom.specs.Geometry.{at_min, carried, IsRectNear}
use Rattle.r9_geom.proofs.GeometryLemmas.{near_wider}
use Rattle.model_forest.specs.World.{Image, World, image_at, no_rect, IsLive}
use Rattle.model_forest.proofs.Changes.{live-standing}
use Rattle.model_forest.proofs.Placed.{IsForest-shifted}
use Rattle.model_kept.specs.Keeping.{own, with_kept}
use Rattle.model_kept.specs.Restack.{shifted_shape, with_shifted}
use Rattle.model_kept.proofs.Shifting.{shifted-world}
use Rattle.model_kept.proofs.Worlds.{standing-forest}
use Rattle.r9_locate.specs.locate.Forms.{forms_of, Form}
use Rattle.r9_locate.specs.locate.Table.{shape}
use Rattle.r9_pixels.specs.Kept.{has_place, kept_at, rect_at}
use Rattle.r9_pixels.specs.Places.{shifted_form, with_form, with_places, HasCells}
use Rattle.r9_relist.proofs.relist.Near.{nearby}
use Rattle.r9_relist.proofs.shift.Along.{at_min-carried}
use Rattle.r9_relist.proofs.shift.Hiding.{at_i, shifted_cells}
use Rattle.r9_relist.proofs.shift.Shapes.{form_some, rect_is, shifted_forms, shifted_live}
use Rattle.r9_relist.proofs.shift.shift.Goals as goal
use Rattle.r9_relist.proofs.shift.shift.Goals.{Start}

rect : (c : Start) → rect_at c.args.pixels.now c.args.i ≡ (image_at (shape c.args.lists.now) c.args.i).r
rect c = ap (λ (forms : ℕ → Option Form). option_map_or (λ (form : Form). form.r) (forms c.args.i) no_rect) c.requires.forms ∙ rect_is (shape c.args.lists.now c.args.i)

pub shift-requires-clause-live : goal.shift-requires-clause-live
shift-requires-clause-live c =
    ap (λ (forms : ℕ → Option Form). is_some (forms c.args.i)) c.requires.forms ∙ form_some (shape c.args.lists.now c.args.i) c.requires.live

pub shift-requires-clause-rect : goal.shift-requires-clause-rect
shift-requires-clause-rect c =
    subst IsRectNear (sym (rect (goal.at.shift-requires-clause-rect c).Start)) (nearby (shape c.args.lists.now) c.requires.before c.args.i c.requires.live).0

pub shift-requires-clause-min : goal.shift-requires-clause-min
shift-requires-clause-min c = near_wider (2 ^ 34) (2 ^ 40) c.args.min (lit≤ tt) c.requires.min

pub shift-requires-clause-near : goal.shift-requires-clause-near
shift-requires-clause-near c =
    let old = shape c.args.lists.now in
    let new = shifted_shape old c.args.i c.args.min in
    let ok = IsForest-shifted old c.args.i c.args.min c.requires.live c.requires.min c.requires.before in
    let here = at_i old c.args.i c.args.min c.requires.before in
    let live : IsLive new c.args.i = shifted_live old c.args.i c.args.min in
    subst (λ (r : Rect). IsRectNear (at_min r c.args.min)) (sym (rect (goal.at.shift-requires-clause-near c).Start))
    (subst IsRectNear (ap (λ (im : Image). im.r) here ∙ sym (at_min-carried (image_at old c.args.i).r c.args.min)) (nearby new ok c.args.i live).0)

pub returns-clause-world : goal.returns-clause-world
returns-clause-world c =
    let old = shape c.args.lists.now in
    let kept = kept_at c.args.pixels.now in
    let i = c.args.i in
    (λ j. with_kept (c.shift_frame.ensures.world j) (c.shift.ensures.kept j))
    ∙ ap (λ (r : Rect). with_kept (shifted_shape old i c.args.min) (with_shifted i r.min c.args.min kept)) (rect (goal.at.returns-clause-world c).Start)
    ∙ shifted-world old (standing-forest old c.requires.before) i c.args.min kept c.requires.live (λ n stands. c.requires.before.listed n i (live-standing old n i stands) stands)

pub returns-clause-cells : goal.returns-clause-cells
returns-clause-cells c =
    let old = shape c.args.lists.now in
    let has = has_place c.args.pixels.now in
    let i = c.args.i in
    let same = c.shift.ensures.has ∙ ap (λ (r : Rect). with_places i (λ p. has (own i (carried p c.args.min r.min))) has) (rect (goal.at.returns-clause-cells c).Start) in
    subst (λ (w : World). HasCells w (has_place c.shift.new.self)) (sym c.shift_frame.ensures.world)
    (subst (HasCells (shifted_shape old i c.args.min)) (sym same) (shifted_cells old i c.args.min c.requires.before has c.requires.cells))

pub returns-clause-forms : goal.returns-clause-forms
returns-clause-forms c =
    let i = c.args.i in
    c.shift.ensures.forms
    ∙ (λ j. with_form i (option_map (shifted_form c.args.min) (c.requires.forms j i)) (c.requires.forms j))
    ∙ shifted_forms (shape c.args.lists.now) i c.args.min c.requires.live
    ∙ ap forms_of (sym c.shift_frame.ensures.world)
