use Rattle.std.proofs.Common.{◌≡◌, ◌∙◌, ℕ, All, Bool, false, None, Option, Some, sym, subst, ap, arith}
use Rattle.std.specs.Prelude.{option_map}
use Rattle.r9_geom.specs.declared.Rect.{Rect}
use Rattle.r9_geom.specs.Geometry.{holds}
use Rattle.r9_plane.specs.Pixels.{pixel_at, rect_of}
use Rattle.model_forest.specs.declared.Standing.{Standing}
use Rattle.model_forest.specs.World.{Image, World, parent_of, IsForest, IsLive}
use Rattle.model_kept.specs.Keeping.{Place}
use Rattle.model_kept.specs.Restack.{with_own}
use Rattle.r9_locate.specs.locate.Forms.{forms_of, Form}
use Rattle.r9_locate.specs.locate.Table.{shape}
use Rattle.r9_pixels.specs.Kept.{form_at, has_place, kept_at, moment}
use Rattle.r9_pixels.specs.Owns.{plane_form}
use Rattle.r9_pixels.specs.Places.{with_form, with_places, StandsOn}
use Rattle.r9_cells.specs.Fitting.{AreOne}
use Rattle.r9_locate.specs.watched.Moments.{with_moment, Moment}
use Rattle.r9_locate.specs.watched.Watched.{moment_of}
use Rattle.r9_relist.specs.resize.Sizes.{with_rects}
use Rattle.r9_relist.proofs.resize.Ones.{all_taken, ones}
use Rattle.r9_relist.proofs.resize.Resized.{rects_at, rects_live}
use Rattle.r9_relist.proofs.resize.Shapes.{form_back, moment_back, own_back, own_on, plane_is, places_there, rects_again, rects_forms, root_form, IsPlaneOf}
use Rattle.r9_relist.proofs.resize.resizing.enter.Goals as goal
use Rattle.r9_relist.proofs.resize.resizing.enter.Goals.{After-replace_whole-had, After-set_rects, Start}

-- the form of a plane
root : (c : Start) → option_map (λ (form : Form). form.is_window) (form_at c.args.pixels.now c.args.i) ≡ Some false
root c =
    ap (λ (forms : ℕ → Option Form). option_map (λ (form : Form). form.is_window) (forms c.args.i)) c.requires.forms
    ∙ root_form (shape c.args.lists.now) c.args.i c.requires.can.live c.requires.can.nowhere

-- the lists then
sized : (c : After-set_rects) → shape c.set_rects.new.lists ≡ with_rects (shape c.args.lists.now) c.args.i (rect_of c.args.watched.plane) (rect_of c.args.watched.plane)
sized c = c.set_rects.ensures.world ∙ ap (λ (r : Rect). with_rects (shape c.args.lists.now) c.args.i r r) c.rect-to.ensures.value

alive : (c : After-set_rects) → shape c.set_rects.new.lists ≡ with_rects (shape c.args.lists.now) c.args.i (rect_of c.args.watched.plane) (rect_of c.args.watched.plane) → IsLive (shape c.set_rects.new.lists) c.args.i
alive c is = subst (λ (w : World). IsLive w c.args.i) (sym is) (rects_live (shape c.args.lists.now) c.args.i (rect_of c.args.watched.plane) (rect_of c.args.watched.plane))

forest : (c : After-set_rects) → shape c.set_rects.new.lists ≡ with_rects (shape c.args.lists.now) c.args.i (rect_of c.args.watched.plane) (rect_of c.args.watched.plane) → IsForest (shape c.set_rects.new.lists)
forest c is = subst IsForest (sym is) c.requires.after

nowhere : (c : After-set_rects) → shape c.set_rects.new.lists ≡ with_rects (shape c.args.lists.now) c.args.i (rect_of c.args.watched.plane) (rect_of c.args.watched.plane) → parent_of (shape c.set_rects.new.lists) c.args.i ≡ None
nowhere c is =
    ap (λ (w : World). parent_of w c.args.i) is
    ∙ ap (λ (im : Image). option_map (λ (s : Standing). s.parent) im.standing) (rects_at (shape c.args.lists.now) c.args.i (rect_of c.args.watched.plane) (rect_of c.args.watched.plane))
    ∙ c.requires.can.nowhere

forms : (c : After-replace_whole-had) → shape c.set_rects.new.lists ≡ with_rects (shape c.args.lists.now) c.args.i (rect_of c.args.watched.plane) (rect_of c.args.watched.plane) → form_at c.replace_whole-had.new.self ≡ forms_of (shape c.set_rects.new.lists)
forms c is =
    c.replace_whole-had.ensures.forms
    ∙ ap (with_form c.args.i (Some (plane_form c.args.watched.plane))) c.requires.forms
    ∙ rects_forms (shape c.args.lists.now) c.args.i c.args.watched.plane (rect_of c.args.watched.plane) c.requires.can.live c.requires.can.nowhere c.requires.chan
    ∙ ap forms_of (sym is)

-- the plane that it had
had_is : (c : After-replace_whole-had) → IsPlaneOf (shape c.args.lists.now) c.args.i c.replace_whole-had.result.plane
had_is c =
    plane_is (shape c.args.lists.now) c.args.i c.replace_whole-had.result.plane c.requires.can.live
    (ap (λ (forms : ℕ → Option Form). forms c.args.i) (sym c.requires.forms) ∙ c.replace_whole-had.ensures.form)

pub replace_whole-had-requires-clause-whole : goal.replace_whole-had-requires-clause-whole
replace_whole-had-requires-clause-whole c = root (goal.at.replace_whole-had-requires-clause-whole c).Start

pub reserve_hidden-requires-clause-forms : goal.reserve_hidden-requires-clause-forms
reserve_hidden-requires-clause-forms c =
    let at = goal.at.reserve_hidden-requires-clause-forms c in
    forms at.After-replace_whole-had (sized at.After-set_rects)

pub reserve_hidden-requires-clause-windows : goal.reserve_hidden-requires-clause-windows
reserve_hidden-requires-clause-windows c =
    let at = goal.at.reserve_hidden-requires-clause-windows c in
    let now = shape c.set_rects.new.lists in
    subst (All (StandsOn now c.args.i)) (ap (λ (im : Image). im.windows) c.get.ensures ∙ sym c.deref.ensures.value)
    (own_on now c.args.i (forest at.After-set_rects (sized at.After-set_rects)) (alive at.After-set_rects (sized at.After-set_rects)))

pub reserve_hidden-requires-clause-one : goal.reserve_hidden-requires-clause-one
reserve_hidden-requires-clause-one c =
    let at = goal.at.reserve_hidden-requires-clause-one c in
    let is = sized at.After-set_rects in
    subst AreOne (ap (λ (im : Image). im.windows) c.get.ensures ∙ sym c.deref.ensures.value)
    (ones (shape c.set_rects.new.lists) (forest at.After-set_rects is) c.args.i (alive at.After-set_rects is))

pub reserve_hidden-requires-clause-still : goal.reserve_hidden-requires-clause-still
reserve_hidden-requires-clause-still c = all_taken (shape c.set_rects.new.lists) c.args.i c.deref.result.now (has_place c.replace_whole-had.new.self)

-- the lists once more
again : (c : After-set_rects) → shape c.set_rects.new.lists ≡ with_rects (shape c.args.lists.now) c.args.i (rect_of c.args.watched.plane) (rect_of c.args.watched.plane) → with_rects (shape c.set_rects.new.lists) c.args.i c.get-frame.result.now.r c.get-frame.result.now.clipr ≡ shape c.args.lists.now
again c is =
    ap (λ (w : World). with_rects w c.args.i c.get-frame.result.now.r c.get-frame.result.now.clipr) is
    ∙ rects_again (shape c.args.lists.now) c.args.i (rect_of c.args.watched.plane) (rect_of c.args.watched.plane) c.get-frame.result.now.r c.get-frame.result.now.clipr c.requires.can.live
    (ap (λ (im : Image). im.r) (sym c.get-frame.ensures)) (ap (λ (im : Image). im.clipr) (sym c.get-frame.ensures))

pub set_rects-requires-in-Err-clause-after : goal.set_rects-requires-in-Err-clause-after
set_rects-requires-in-Err-clause-after c =
    let at = goal.at.set_rects-requires-in-Err-clause-after c in
    subst IsForest (sym (again at.After-set_rects (sized at.After-set_rects))) c.requires.before

pub replace_whole-requires-clause-whole : goal.replace_whole-requires-clause-whole
replace_whole-requires-clause-whole c =
    let at = goal.at.replace_whole-requires-clause-whole c in
    let is = sized at.After-set_rects in
    ap (λ (forms : ℕ → Option Form). option_map (λ (form : Form). form.is_window) (forms c.args.i)) (c.reserve_hidden.ensures.kept.forms ∙ forms at.After-replace_whole-had is)
    ∙ root_form (shape c.set_rects.new.lists) c.args.i (alive at.After-set_rects is) (nowhere at.After-set_rects is)

pub replace_whole-requires-clause-few : goal.replace_whole-requires-clause-few
replace_whole-requires-clause-few c =
    omega (arith, c.replace_whole-had.ensures.had_few, c.replace_whole-had.ensures.writes, c.reserve_hidden.ensures.kept.writes)

pub returns-in-Ok-clause-rect : goal.returns-in-Ok-clause-rect
returns-in-Ok-clause-rect c = (had_is (goal.at.returns-in-Ok-clause-rect c).After-replace_whole-had).rect

pub returns-in-Ok-clause-had_chan : goal.returns-in-Ok-clause-had_chan
returns-in-Ok-clause-had_chan c = (had_is (goal.at.returns-in-Ok-clause-had_chan c).After-replace_whole-had).chan

pub returns-in-Ok-clause-forms : goal.returns-in-Ok-clause-forms
returns-in-Ok-clause-forms c =
    let at = goal.at.returns-in-Ok-clause-forms c in
    c.reserve_hidden.ensures.kept.forms ∙ forms at.After-replace_whole-had (sized at.After-set_rects)

pub returns-in-Err-clause-lists_err : goal.returns-in-Err-clause-lists_err
returns-in-Err-clause-lists_err c =
    let at = goal.at.returns-in-Err-clause-lists_err c in
    c.set_rects-in-Err.ensures.world ∙ again at.After-set_rects (sized at.After-set_rects)

pub returns-in-Err-clause-kept_err : goal.returns-in-Err-clause-kept_err
returns-in-Err-clause-kept_err c =
    c.replace_whole.ensures.kept
    ∙ ap (with_own c.args.i (pixel_at c.replace_whole-had.result.plane)) (c.reserve_hidden.ensures.kept.kept ∙ c.replace_whole-had.ensures.kept)
    ∙ own_back (kept_at c.args.pixels.now) c.args.i (pixel_at c.args.watched.plane) (pixel_at c.replace_whole-had.result.plane) c.replace_whole-had.ensures.pixels

pub returns-in-Err-clause-has_err : goal.returns-in-Err-clause-has_err
returns-in-Err-clause-has_err c place other =
    let i = c.args.i in
    let had = holds (rect_of c.replace_whole-had.result.plane) in
    let has = has_place c.args.pixels.now in
    ap (λ (h : Place → Bool). h place) (c.replace_whole.ensures.has ∙ ap (with_places i had) (c.reserve_hidden.ensures.kept.has ∙ c.replace_whole-had.ensures.has))
    ∙ places_there (with_places i (holds (rect_of c.args.watched.plane)) has) i place.image had place.at other
    ∙ places_there has i place.image (holds (rect_of c.args.watched.plane)) place.at other

pub returns-in-Err-clause-forms : goal.returns-in-Err-clause-forms
returns-in-Err-clause-forms c =
    let at = goal.at.returns-in-Err-clause-forms c in
    c.replace_whole.ensures.forms
    ∙ ap (with_form c.args.i (Some (plane_form c.replace_whole-had.result.plane))) (c.reserve_hidden.ensures.kept.forms ∙ c.replace_whole-had.ensures.forms)
    ∙ form_back (form_at c.args.pixels.now) c.args.i (Some (plane_form c.args.watched.plane)) (Some (plane_form c.replace_whole-had.result.plane)) c.replace_whole-had.ensures.form
    ∙ c.requires.forms
    ∙ ap forms_of (sym (c.set_rects-in-Err.ensures.world ∙ again at.After-set_rects (sized at.After-set_rects)))

pub returns-in-Err-clause-moment_err : goal.returns-in-Err-clause-moment_err
returns-in-Err-clause-moment_err c =
    let i = c.args.i in
    let had = Some (moment_of c.replace_whole-had.result) in
    c.replace_whole.ensures.moment
    ∙ ap (λ (moments : ℕ → Option Moment). with_moment i had moments) (c.reserve_hidden.ensures.kept.moment ∙ c.replace_whole-had.ensures.moment)
    ∙ moment_back (moment c.args.pixels.now) i (Some (moment_of c.args.watched)) had c.replace_whole-had.ensures.had_moment
