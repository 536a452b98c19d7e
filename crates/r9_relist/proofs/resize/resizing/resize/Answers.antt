use Rattle.std.proofs.Common.{◌≡◌, ◌∙◌, ℕ, ◌*◌, ◌<◌, ◌^◌, All, Bool, Option, Some, refl, sym, subst, ap, arith}
use Rattle.std.specs.Prelude.{◌&&◌, ◌||◌, not, option_map, if◌then◌else◌}
use Rattle.std.specs.Option.{option_map_or}
use Rattle.r9_geom.specs.declared.Rect.{Rect}
use Rattle.r9_geom.specs.Geometry.{area_of, holds}
use Rattle.r9_plane.specs.declared.plane.Plane.{Plane}
use Rattle.r9_plane.specs.Pixels.{pixel_at, rect_of}
use Rattle.model_pixel.specs.Channels.{depth}
use Rattle.model_forest.specs.declared.Standing.{Standing}
use Rattle.model_forest.specs.World.{Image, World, image_at, no_rect, parent_of, IsForest, IsLive}
use Rattle.model_kept.specs.Keeping.{with_kept, Place}
use Rattle.model_kept.specs.Restack.{with_own}
use Rattle.model_exchanged.specs.resize.Resize.{sized}
use Rattle.model_exchanged.proofs.resize.Sizes.{SameButSize}
use Rattle.r9_locate.specs.locate.Forms.{bits_in, forms_of, Form}
use Rattle.r9_locate.specs.locate.Table.{shape}
use Rattle.r9_pixels.specs.Kept.{form_at, has_place, kept_at, moment, rect_at}
use Rattle.r9_pixels.specs.Places.{in_hidden, in_shown, with_places, HasCells, StandsOn}
use Rattle.r9_locate.specs.watched.Moments.{with_moment, Moment}
use Rattle.r9_locate.specs.watched.Watched.{moment_of}
use Rattle.r9_relist.proofs.relist.Relisted.{bits_at}
use Rattle.r9_relist.proofs.relist.Surfaces.{placed_alike}
use Rattle.r9_cells.specs.Fitting.{AreOne}
use Rattle.r9_relist.specs.resize.Moves.{HasPlacesFor, IsResized}
use Rattle.r9_relist.specs.resize.Sizes.{with_rects}
use Rattle.r9_relist.proofs.resize.Celled.{cells_then, places_for}
use Rattle.r9_relist.proofs.resize.Ones.{all_given, all_taken, ones}
use Rattle.r9_relist.proofs.resize.Resized.{rects_at, rects_live, rects_same, resized_world}
use Rattle.r9_relist.proofs.resize.Shapes.{cells_still, form_rect, moment_back, own_on, own_there, root_form, sized_area, sized_forest}
use Rattle.r9_relist.proofs.resize.resizing.resize.Given.{Over}
use Rattle.r9_relist.proofs.resize.resizing.resize.Goals as goal
use Rattle.r9_relist.proofs.resize.resizing.resize.Goals.{After-deref, After-deref-2, After-give_shown, After-move_pixels, After-take_hidden, Start}

-- the lists then
then_ok : (g : Over) (c : Start g) → IsForest (with_rects (shape c.args.lists.now) c.args.i (sized c.args.width c.args.height) (sized c.args.width c.args.height))
then_ok g c =
    sized_forest (shape c.args.lists.now) c.args.i c.args.width c.args.height c.requires.before c.requires.can (omega (arith, c.ranges.width.fits)) (omega (arith, c.ranges.height.fits))

then_live : (g : Over) (c : Start g) → IsLive (with_rects (shape c.args.lists.now) c.args.i (sized c.args.width c.args.height) (sized c.args.width c.args.height)) c.args.i
then_live g c = rects_live (shape c.args.lists.now) c.args.i (sized c.args.width c.args.height) (sized c.args.width c.args.height)

then_same : (g : Over) (c : Start g) → SameButSize (shape c.args.lists.now) (with_rects (shape c.args.lists.now) c.args.i (sized c.args.width c.args.height) (sized c.args.width c.args.height)) c.args.i
then_same g c = rects_same (shape c.args.lists.now) c.args.i (sized c.args.width c.args.height) c.requires.can refl

pub enter-requires-clause-after : goal.enter-requires-clause-after
enter-requires-clause-after g c =
    let at = goal.at.enter-requires-clause-after g c in
    subst (λ (r : Rect). IsForest (with_rects (shape c.args.lists.now) c.args.i r r)) (sym (ap (λ (plane : Plane). rect_of plane) c.watch-watched.ensures.plane ∙ c.in_ok-plane.ensures.rect ∙ c.sized.ensures)) (then_ok g at.Start)

pub returns-in_err-had-clause-cells : goal.returns-in_err-had-clause-cells
returns-in_err-had-clause-cells g c =
    let old = shape c.args.lists.now in
    subst (λ (w : World). HasCells w (has_place c.enter.new.pixels)) (sym c.in_err-had.ensures.lists_err)
    (cells_still old c.args.i (has_place c.args.pixels.now) (has_place c.enter.new.pixels) c.requires.can.nowhere c.in_err-had.ensures.has_err c.requires.cells)

-- ---- once the plane and the rectangle are others

lists_are : (g : Over) (c : After-deref g) → shape c.enter.new.lists ≡ with_rects (shape c.args.lists.now) c.args.i (sized c.args.width c.args.height) (sized c.args.width c.args.height)
lists_are g c =
    c.in_ok-had.ensures.lists ∙ ap (λ (r : Rect). with_rects (shape c.args.lists.now) c.args.i r r) (ap (λ (plane : Plane). rect_of plane) c.watch-watched.ensures.plane ∙ c.in_ok-plane.ensures.rect ∙ c.sized.ensures)

forest : (g : Over) (c : After-deref g) → shape c.enter.new.lists ≡ with_rects (shape c.args.lists.now) c.args.i (sized c.args.width c.args.height) (sized c.args.width c.args.height) → IsForest (with_rects (shape c.args.lists.now) c.args.i (sized c.args.width c.args.height) (sized c.args.width c.args.height)) → IsForest (shape c.enter.new.lists)
forest g c is ok = subst IsForest (sym is) ok

alive : (g : Over) (c : After-deref g) → shape c.enter.new.lists ≡ with_rects (shape c.args.lists.now) c.args.i (sized c.args.width c.args.height) (sized c.args.width c.args.height) → IsLive (with_rects (shape c.args.lists.now) c.args.i (sized c.args.width c.args.height) (sized c.args.width c.args.height)) c.args.i → IsLive (shape c.enter.new.lists) c.args.i
alive g c is live = subst (λ (w : World). IsLive w c.args.i) (sym is) live

pub take_hidden-requires-clause-windows : goal.take_hidden-requires-clause-windows
take_hidden-requires-clause-windows g c =
    let at = goal.at.take_hidden-requires-clause-windows g c in
    let is = lists_are g at.After-deref in
    let now = shape c.enter.new.lists in
    subst (All (StandsOn now c.args.i)) (ap (λ (im : Image). im.windows) c.get-2.ensures ∙ sym c.deref.ensures.value)
    (own_on now c.args.i (forest g at.After-deref is (then_ok g at.Start)) (alive g at.After-deref is (then_live g at.Start)))

pub take_hidden-requires-clause-one : goal.take_hidden-requires-clause-one
take_hidden-requires-clause-one g c =
    let at = goal.at.take_hidden-requires-clause-one g c in
    let is = lists_are g at.After-deref in
    subst AreOne (ap (λ (im : Image). im.windows) c.get-2.ensures ∙ sym c.deref.ensures.value)
    (ones (shape c.enter.new.lists) (forest g at.After-deref is (then_ok g at.Start)) c.args.i (alive g at.After-deref is (then_live g at.Start)))

pub take_hidden-requires-clause-still : goal.take_hidden-requires-clause-still
take_hidden-requires-clause-still g c = all_taken (shape c.enter.new.lists) c.args.i c.deref.result.now (has_place c.enter.new.pixels)

pub give_shown-requires-clause-one : goal.give_shown-requires-clause-one
give_shown-requires-clause-one g c =
    let at = goal.at.give_shown-requires-clause-one g c in
    let is = lists_are g at.After-deref in
    subst AreOne (ap (λ (im : Image). im.windows) c.get-3.ensures ∙ sym c.deref-2.ensures.value)
    (ones (shape c.enter.new.lists) (forest g at.After-deref is (then_ok g at.Start)) c.args.i (alive g at.After-deref is (then_live g at.Start)))

pub give_shown-requires-clause-still : goal.give_shown-requires-clause-still
give_shown-requires-clause-still g c = all_given (shape c.enter.new.lists) c.args.i c.deref-2.result.now (has_place c.move_pixels.new.pixels)

-- the forms once the tiles are taken
formed : (g : Over) (c : After-take_hidden g) → form_at c.take_hidden.new.self ≡ forms_of (shape c.enter.new.lists)
formed g c = c.take_hidden.ensures.forms ∙ c.enter.ensures.forms

pub resume-had-requires-clause-whole : goal.resume-had-requires-clause-whole
resume-had-requires-clause-whole g c =
    let at = goal.at.resume-had-requires-clause-whole g c in
    let i = c.args.i in
    let old = shape c.args.lists.now in
    let to = sized c.args.width c.args.height in
    let is = lists_are g at.After-deref in
    ap (λ (forms : ℕ → Option Form). option_map (λ (form : Form). form.is_window) (forms i)) (formed g at.After-take_hidden)
    ∙ root_form (shape c.enter.new.lists) i (alive g at.After-deref is (then_live g at.Start))
    (ap (λ (w : World). parent_of w i) is ∙ ap (λ (im : Image). option_map (λ (s : Standing). s.parent) im.standing) (rects_at old i to to) ∙ c.requires.can.nowhere)

pub resume-had-requires-clause-raw : goal.resume-had-requires-clause-raw
resume-had-requires-clause-raw g c =
    let at = goal.at.resume-had-requires-clause-raw g c in
    let i = c.args.i in
    let old = shape c.args.lists.now in
    let to = sized c.args.width c.args.height in
    let is = lists_are g at.After-deref in
    let bits : bits_in (form_at c.take_hidden.new.self) i ≡ depth (image_at old i).chan =
    ap (λ (forms : ℕ → Option Form). bits_in forms i) (formed g at.After-take_hidden)
    ∙ bits_at (shape c.enter.new.lists) i (alive g at.After-deref is (then_live g at.Start))
    ∙ ap (λ (w : World). depth (image_at w i).chan) is
    ∙ ap (λ (im : Image). depth im.chan) (rects_at old i to to) in
    subst (λ (n : ℕ). c.args.raw < 2 ^ n) (sym bits) c.requires.raw

pub resume-had-requires-clause-few : goal.resume-had-requires-clause-few
resume-had-requires-clause-few g c = omega (arith, c.in_ok-had.ensures.had_few, c.enter.ensures.writes, c.take_hidden.ensures.writes)

pub move_pixels-requires-clause-forest : goal.move_pixels-requires-clause-forest
move_pixels-requires-clause-forest g c =
    let at = goal.at.move_pixels-requires-clause-forest g c in
    forest g at.After-deref (lists_are g at.After-deref) (then_ok g at.Start)

-- the places once the tiles are taken
taken : (g : Over) (c : After-take_hidden g) → shape c.enter.new.lists ≡ with_rects (shape c.args.lists.now) c.args.i (sized c.args.width c.args.height) (sized c.args.width c.args.height) → (place : Place) → has_place c.take_hidden.new.self place ≡ (with_places c.args.i (holds (image_at (with_rects (shape c.args.lists.now) c.args.i (sized c.args.width c.args.height) (sized c.args.width c.args.height)) c.args.i).r) (has_place c.args.pixels.now) place || in_hidden (with_rects (shape c.args.lists.now) c.args.i (sized c.args.width c.args.height) (sized c.args.width c.args.height)) c.args.i (image_at (with_rects (shape c.args.lists.now) c.args.i (sized c.args.width c.args.height) (sized c.args.width c.args.height)) c.args.i).windows place)
taken g c is place =
    let i = c.args.i in
    let to = sized c.args.width c.args.height in
    let new = with_rects (shape c.args.lists.now) i to to in
    let rect : rect_of c.watch-watched.result.plane ≡ (image_at new i).r = ap (λ (plane : Plane). rect_of plane) c.watch-watched.ensures.plane ∙ c.in_ok-plane.ensures.rect ∙ c.sized.ensures ∙ sym (ap (λ (im : Image). im.r) (rects_at (shape c.args.lists.now) i to to)) in
    let list : c.deref.result.now ≡ (image_at new i).windows = c.deref.ensures.value ∙ sym (ap (λ (im : Image). im.windows) c.get-2.ensures) ∙ ap (λ (w : World). (image_at w i).windows) is in
    c.take_hidden.ensures.has place
    ∙ ap (λ (h : Place → Bool). h place || in_hidden (shape c.enter.new.lists) i c.deref.result.now place) (c.in_ok-had.ensures.has ∙ ap (λ (r : Rect). with_places i (holds r) (has_place c.args.pixels.now)) rect)
    ∙ (λ j. with_places i (holds (image_at new i).r) (has_place c.args.pixels.now) place || in_hidden (is j) i (list j) place)

pub move_pixels-requires-clause-places : goal.move_pixels-requires-clause-places
move_pixels-requires-clause-places g c =
    let at = goal.at.move_pixels-requires-clause-places g c in
    let i = c.args.i in
    let old = shape c.args.lists.now in
    let to = sized c.args.width c.args.height in
    let is = lists_are g at.After-deref in
    let mid = has_place c.take_hidden.new.self in
    subst (λ (has : Place → Bool). HasPlacesFor (shape c.enter.new.lists) i (rect_of c.resume-had.result) has) (sym c.resume-had.ensures.has)
    (subst (λ (w : World). HasPlacesFor w i (rect_of c.resume-had.result) mid) (sym is)
    (subst (λ (r : Rect). HasPlacesFor (with_rects old i to to) i r mid) (sym (ap (λ (plane : Plane). rect_of plane) c.resume-had.ensures.had ∙ c.in_ok-had.ensures.rect))
    (places_for old (with_rects old i to to) i (then_live g at.Start) c.requires.before (then_ok g at.Start) (then_same g at.Start) (has_place c.args.pixels.now) c.requires.cells mid (taken g at.After-take_hidden is))))

pub give_shown-requires-clause-windows : goal.give_shown-requires-clause-windows
give_shown-requires-clause-windows g c =
    let at = goal.at.give_shown-requires-clause-windows g c in
    let is = lists_are g at.After-deref in
    let now = shape c.enter.new.lists in
    subst (All (StandsOn now c.args.i)) (ap (λ (im : Image). im.windows) c.get-3.ensures ∙ sym c.deref-2.ensures.value)
    (own_on now c.args.i (forest g at.After-deref is (then_ok g at.Start)) (alive g at.After-deref is (then_live g at.Start)))

-- ---- and then

cells : (g : Over) (c : After-give_shown g) → shape c.enter.new.lists ≡ with_rects (shape c.args.lists.now) c.args.i (sized c.args.width c.args.height) (sized c.args.width c.args.height) → HasCells (with_rects (shape c.args.lists.now) c.args.i (sized c.args.width c.args.height) (sized c.args.width c.args.height)) (has_place c.give_shown.new.self) → HasCells (shape c.enter.new.lists) (has_place c.give_shown.new.self)
cells g c is ok = subst (λ (w : World). HasCells w (has_place c.give_shown.new.self)) (sym is) ok

given : (g : Over) (c : After-give_shown g) → shape c.enter.new.lists ≡ with_rects (shape c.args.lists.now) c.args.i (sized c.args.width c.args.height) (sized c.args.width c.args.height) → (place : Place) → has_place c.give_shown.new.self place ≡ (not (in_shown (with_rects (shape c.args.lists.now) c.args.i (sized c.args.width c.args.height) (sized c.args.width c.args.height)) c.args.i (image_at (with_rects (shape c.args.lists.now) c.args.i (sized c.args.width c.args.height) (sized c.args.width c.args.height)) c.args.i).windows place) && has_place c.take_hidden.new.self place)
given g c is place =
    let i = c.args.i in
    let to = sized c.args.width c.args.height in
    let new = with_rects (shape c.args.lists.now) i to to in
    let list : c.deref-2.result.now ≡ (image_at new i).windows = c.deref-2.ensures.value ∙ sym (ap (λ (im : Image). im.windows) c.get-3.ensures) ∙ ap (λ (w : World). (image_at w i).windows) is in
    c.give_shown.ensures.has place
    ∙ (λ j. not (in_shown (is j) i (list j) place) && (c.move_pixels.ensures.has ∙ c.resume-had.ensures.has) j place)

-- the pixels once they are moved
resized : (g : Over) (c : After-move_pixels g) → shape c.enter.new.lists ≡ with_rects (shape c.args.lists.now) c.args.i (sized c.args.width c.args.height) (sized c.args.width c.args.height) → form_at c.take_hidden.new.self ≡ forms_of (shape c.enter.new.lists) → IsLive (shape c.enter.new.lists) c.args.i → IsResized (with_rects (shape c.args.lists.now) c.args.i (sized c.args.width c.args.height) (sized c.args.width c.args.height)) c.args.i (image_at (shape c.args.lists.now) c.args.i).r c.args.raw (kept_at c.args.pixels.now) (kept_at c.move_pixels.new.pixels)
resized g c is forms live =
    let i = c.args.i in
    let old = shape c.args.lists.now in
    let to = sized c.args.width c.args.height in
    let before = kept_at c.args.pixels.now in
    let after = kept_at c.move_pixels.new.pixels in
    let watched = c.watch-watched.result in
    let entered : kept_at c.take_hidden.new.self ≡ with_own i (pixel_at watched.plane) before = c.take_hidden.ensures.kept ∙ c.in_ok-had.ensures.kept in
    let rect : rect_at c.take_hidden.new.self i ≡ (image_at (shape c.enter.new.lists) i).r =
    ap (λ (forms : ℕ → Option Form). option_map_or (λ (form : Form). form.r) (forms i) no_rect) forms ∙ form_rect (shape c.enter.new.lists) i live in
    subst (λ (w : World). IsResized w i (image_at old i).r c.args.raw before after) is
    (subst (λ (r : Rect). IsResized (shape c.enter.new.lists) i r c.args.raw before after) (ap (λ (plane : Plane). rect_of plane) c.resume-had.ensures.had ∙ c.in_ok-had.ensures.rect)
    (c.move_pixels.ensures.resized before c.args.raw
    (λ q here. c.resume-had.ensures.at q (ap (λ (r : Rect). holds r q) rect ∙ here))
    (λ q. c.in_ok-had.ensures.had q ∙ ap (λ (plane : Plane). pixel_at plane q) (sym c.resume-had.ensures.had))
    (λ place other. c.resume-had.ensures.others place other ∙ ap (λ (kept : Place → ℕ). kept place) entered ∙ own_there before i (pixel_at watched.plane) place other)))

pub returns-clause-cells : goal.returns-clause-cells
returns-clause-cells g c =
    let at = goal.at.returns-clause-cells g c in
    let i = c.args.i in
    let old = shape c.args.lists.now in
    let to = sized c.args.width c.args.height in
    let is = lists_are g at.After-deref in
    cells g at.After-give_shown is
    (cells_then old (with_rects old i to to) i (then_live g at.Start) c.requires.before (then_ok g at.Start) (then_same g at.Start) (has_place c.args.pixels.now) c.requires.cells (has_place c.take_hidden.new.self) (taken g at.After-take_hidden is) (has_place c.give_shown.new.self) (given g at.After-give_shown is))

pub returns-clause-world : goal.returns-clause-world
returns-clause-world g c =
    let at = goal.at.returns-clause-world g c in
    let i = c.args.i in
    let old = shape c.args.lists.now in
    let to = sized c.args.width c.args.height in
    let is = lists_are g at.After-deref in
    let moved = kept_at c.move_pixels.new.pixels in
    let celled =
    cells_then old (with_rects old i to to) i (then_live g at.Start) c.requires.before (then_ok g at.Start) (then_same g at.Start) (has_place c.args.pixels.now) c.requires.cells (has_place c.take_hidden.new.self) (taken g at.After-take_hidden is) (has_place c.give_shown.new.self) (given g at.After-give_shown is) in
    placed_alike c.give_shown.new.self (shape c.enter.new.lists) moved (forest g at.After-deref is (then_ok g at.Start))
    (c.give_shown.ensures.forms ∙ c.move_pixels.ensures.forms ∙ c.resume-had.ensures.forms ∙ formed g at.After-take_hidden)
    (cells g at.After-give_shown is celled)
    (λ place has. c.give_shown.ensures.kept place ∙ ap (λ b. if b then moved place else 0) has)
    ∙ ap (λ (w : World). with_kept w moved) is
    ∙ resized_world old i c.args.width c.args.height c.args.raw (kept_at c.args.pixels.now) moved c.requires.can c.requires.before (then_ok g at.Start) (resized g at.After-move_pixels is (formed g at.After-take_hidden) (alive g at.After-deref is (then_live g at.Start)))

-- the points that it has then
size : (g : Over) (c : After-deref g) → area_of (image_at (shape c.enter.new.lists) c.args.i).r ≡ c.args.width * c.args.height
size g c =
    let i = c.args.i in
    let to = sized c.args.width c.args.height in
    ap (λ (w : World). area_of (image_at w i).r) (lists_are g c) ∙ ap (λ (im : Image). area_of im.r) (rects_at (shape c.args.lists.now) i to to) ∙ sized_area c.args.width c.args.height

pub returns-clause-steps : goal.returns-clause-steps
returns-clause-steps g c =
    let at = goal.at.returns-clause-steps g c in
    let was : area_of (rect_of c.resume-had.result) ≡ area_of (image_at (shape c.args.lists.now) c.args.i).r = ap (λ (plane : Plane). area_of (rect_of plane)) c.resume-had.ensures.had ∙ ap area_of c.in_ok-had.ensures.rect in
    let is = size g at.After-deref in
    let filled : area_of (rect_at c.take_hidden.new.self c.args.i) ≡ area_of (image_at (shape c.enter.new.lists) c.args.i).r =
    ap (λ (forms : ℕ → Option Form). area_of (option_map_or (λ (form : Form). form.r) (forms c.args.i) no_rect)) (formed g at.After-take_hidden)
    ∙ ap area_of (form_rect (shape c.enter.new.lists) c.args.i (alive g at.After-deref (lists_are g at.After-deref) (then_live g at.Start))) in
    omega (arith, was, is, filled, c.move_pixels.ensures.steps, c.resume-had.ensures.steps)

-- the moment of the plane that it had is that of the new one
pub returns-clause-moment : goal.returns-clause-moment
returns-clause-moment g c =
    let i = c.args.i in
    let had = Some (moment_of c.in_ok-had.had) in
    c.give_shown.ensures.moment ∙ c.move_pixels.ensures.moment ∙ c.resume-had.ensures.moment
    ∙ ap (λ (moments : ℕ → Option Moment). with_moment i had moments) (c.take_hidden.ensures.moment ∙ c.in_ok-had.ensures.moment)
    ∙ moment_back (moment c.args.pixels.now) i (Some (moment_of c.watch-watched.result)) had c.in_ok-had.ensures.had_moment

pub returns-clause-writes : goal.returns-clause-writes
returns-clause-writes g c =
    omega (arith, c.give_shown.ensures.writes, c.move_pixels.ensures.writes, c.resume-had.ensures.writes, c.take_hidden.ensures.writes, c.enter.ensures.writes)
