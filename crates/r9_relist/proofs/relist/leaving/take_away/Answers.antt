use Rattle.std.proofs.Common.{◌≡◌, ◌∙◌, All, Bool, List, [], ◌∷◌, None, Option, ℕ, sym, subst, ap}
use Rattle.std.specs.Prelude.{◌&&◌, not}
use Rattle.model_forest.specs.declared.Window.{Window}
use Rattle.model_forest.specs.World.{Image, World, image_at, with_image, IsLive}
use Rattle.model_kept.specs.Keeping.{with_kept, HasOnePlaces, IsStanding, Place}
use Rattle.model_kept.specs.Restack.{with_list}
use Rattle.model_kept.proofs.Once.{places-forest}
use Rattle.model_kept.proofs.Worlds.{standing-forest}
use Rattle.r9_locate.specs.locate.Forms.{forms_of, Form}
use Rattle.r9_locate.specs.locate.Lists.{IsNearby}
use Rattle.r9_locate.specs.locate.Table.{shape}
use Rattle.r9_cells.specs.Fitting.{AreOne}
use Rattle.r9_pixels.specs.Kept.{form_at, has_place, kept_at, moment}
use Rattle.r9_pixels.specs.Places.{in_shown, with_form, HasCells, HasGivenOff, StandsOn}
use Rattle.r9_locate.specs.watched.Moments.{with_moment, Moment}
use Rattle.r9_relist.specs.relist.Leaving.{gone, others}
use Rattle.r9_relist.proofs.relist.Uncovering.{final_forest, gone_cells, gone_forms, gone_kept, gone_room, gone_world, live_below, on_then, ones_then}
use Rattle.r9_relist.proofs.relist.Moments.{moment_same, window_moment}
use Rattle.r9_relist.proofs.relist.Near.{nearby}
use Rattle.r9_relist.proofs.relist.Off.{left_given}
use Rattle.r9_relist.proofs.relist.Relisted.{list_at, list_live, relist_forms}
use Rattle.r9_relist.proofs.relist.leaving.take_away.Goals as goal
use Rattle.r9_relist.proofs.relist.leaving.take_away.Goals.{After-deref, After-remove-2, After-unlist}

live : (g : _) (c : After-unlist g) → IsLive (shape c.unlist.new.lists) c.args.p
live g c =
    let world = shape c.args.lists.now in
    let below = live_below world c.args.p c.args.w c.requires.going in
    subst (λ (w : World). IsLive w c.args.p) (sym c.unlist.ensures.world) (list_live world c.args.p c.args.p (others world c.args.p c.args.w) below ∙ below)

-- the forms of the lists without it
forms : (g : _) (c : After-unlist g) → form_at c.uncover-from.new.pixels ≡ forms_of (shape c.unlist.new.lists)
forms g c =
    let world = shape c.args.lists.now in
    c.uncover-from.ensures.forms ∙ c.requires.forms
    ∙ sym (relist_forms world c.args.p (others world c.args.p c.args.w) (live_below world c.args.p c.args.w c.requires.going)) ∙ ap forms_of (sym c.unlist.ensures.world)

-- the list without it
left : (g : _) (c : After-deref g) → c.deref.result.now ≡ others (shape c.args.lists.now) c.args.p c.args.w
left g c =
    let world = shape c.args.lists.now in
    c.deref.ensures.value ∙ ap (λ (image : Image). image.windows) (sym c.get.ensures)
    ∙ ap (λ (w : World). (image_at w c.args.p).windows) c.unlist.ensures.world ∙ ap (λ (image : Image). image.windows) (list_at world c.args.p (others world c.args.p c.args.w))

pub get-requires : goal.get-requires
get-requires g c = live g (goal.at.get-requires g c).After-unlist

pub give_shown-requires-clause-live : goal.give_shown-requires-clause-live
give_shown-requires-clause-live g c = live g (goal.at.give_shown-requires-clause-live g c).After-unlist

pub give_shown-requires-clause-forms : goal.give_shown-requires-clause-forms
give_shown-requires-clause-forms g c = forms g (goal.at.give_shown-requires-clause-forms g c).After-unlist

pub give_shown-requires-clause-windows : goal.give_shown-requires-clause-windows
give_shown-requires-clause-windows g c =
    let world = shape c.args.lists.now in
    let at = (goal.at.give_shown-requires-clause-windows g c).After-deref in
    subst (λ (ws : List Window). All (StandsOn (shape c.unlist.new.lists) c.args.p) ws) (sym (left g at))
    (subst (λ (w : World). All (StandsOn w c.args.p) (others world c.args.p c.args.w)) (sym c.unlist.ensures.world) (on_then world c.args.p c.args.w c.requires.going))

pub give_shown-requires-clause-one : goal.give_shown-requires-clause-one
give_shown-requires-clause-one g c =
    subst AreOne (sym (left g (goal.at.give_shown-requires-clause-one g c).After-deref)) (ones_then (shape c.args.lists.now) c.args.p c.args.w c.requires.going)

pub give_shown-requires-clause-still : goal.give_shown-requires-clause-still
give_shown-requires-clause-still g c =
    let world = shape c.args.lists.now in
    let at = (goal.at.give_shown-requires-clause-still g c).After-deref in
    subst (λ (has : Place → Bool). HasGivenOff (shape c.unlist.new.lists) c.args.p c.deref.result.now c.uncover-from.result (c.args.area.now ∷ []) has) (sym c.uncover-from.ensures.has)
    (subst (λ (ws : List Window). HasGivenOff (shape c.unlist.new.lists) c.args.p ws c.uncover-from.result (c.args.area.now ∷ []) (has_place c.args.pixels.now)) (sym (left g at))
    (subst (λ (w : World). HasGivenOff w c.args.p (others world c.args.p c.args.w) c.uncover-from.result (c.args.area.now ∷ []) (has_place c.args.pixels.now)) (sym c.unlist.ensures.world)
    (left_given world c.args.p c.args.w c.requires.going c.args.area.now c.requires.place c.uncover-from.result c.uncover-from.ensures.front (has_place c.args.pixels.now) c.requires.cells)))

-- the lists without the image
without_it : (g : _) (c : After-unlist g) → with_image (shape c.unlist.new.lists) c.args.w None ≡ gone (shape c.args.lists.now) c.args.p c.args.w
without_it g c = ap (λ (w : World). with_image w c.args.w None) c.unlist.ensures.world

pub remove-requires-clause-live : goal.remove-requires-clause-live
remove-requires-clause-live g c =
    let world = shape c.args.lists.now in
    subst (λ (w : World). IsLive w c.args.w) (sym c.unlist.ensures.world) (list_live world c.args.p c.args.w (others world c.args.p c.args.w) (live_below world c.args.p c.args.w c.requires.going) ∙ c.requires.going.can.live)

pub remove-requires-clause-standing : goal.remove-requires-clause-standing
remove-requires-clause-standing g c =
    let world = shape c.args.lists.now in
    subst IsStanding (sym (without_it g (goal.at.remove-requires-clause-standing g c).After-unlist)) (standing-forest (gone world c.args.p c.args.w) (final_forest world c.args.p c.args.w c.requires.going))

pub remove-requires-clause-places : goal.remove-requires-clause-places
remove-requires-clause-places g c =
    let world = shape c.args.lists.now in
    subst HasOnePlaces (sym (without_it g (goal.at.remove-requires-clause-places g c).After-unlist)) (places-forest (gone world c.args.p c.args.w) (final_forest world c.args.p c.args.w c.requires.going))

pub remove-requires-clause-near : goal.remove-requires-clause-near
remove-requires-clause-near g c =
    let world = shape c.args.lists.now in
    subst IsNearby (sym (without_it g (goal.at.remove-requires-clause-near g c).After-unlist)) (nearby (gone world c.args.p c.args.w) (final_forest world c.args.p c.args.w c.requires.going))

pub remove-requires-2 : goal.remove-requires-2
remove-requires-2 g c =
    let world = shape c.args.lists.now in
    gone_room world c.args.p c.args.w c.requires.going c.give_shown.new.self
    (c.give_shown.ensures.forms ∙ forms g (goal.at.remove-requires-2 g c).After-unlist ∙ ap forms_of c.unlist.ensures.world)

-- the lists, their forms and the places of windows then
lists : (g : _) (c : After-remove-2 g) → shape c.remove.new.self ≡ gone (shape c.args.lists.now) c.args.p c.args.w
lists g c = c.remove.ensures.world ∙ ap (λ (w : World). with_image w c.args.w None) c.unlist.ensures.world

forms_then : (g : _) (c : After-remove-2 g) → form_at c.remove-2.new.self ≡ forms_of (gone (shape c.args.lists.now) c.args.p c.args.w)
forms_then g c =
    let world = shape c.args.lists.now in
    c.remove-2.ensures.forms
    ∙ ap (λ (f : ℕ → Option Form). with_form c.args.w None f)
    (c.give_shown.ensures.forms ∙ c.uncover-from.ensures.forms ∙ c.requires.forms ∙ sym (relist_forms world c.args.p (others world c.args.p c.args.w) (live_below world c.args.p c.args.w c.requires.going)))
    ∙ gone_forms (with_list world c.args.p (others world c.args.p c.args.w)) c.args.w

cells : (g : _) (c : After-remove-2 g) → c.deref.result.now ≡ others (shape c.args.lists.now) c.args.p c.args.w → HasCells (gone (shape c.args.lists.now) c.args.p c.args.w) (has_place c.remove-2.new.self)
cells g c listed =
    let world = shape c.args.lists.now in
    gone_cells world c.args.p c.args.w c.requires.going (has_place c.args.pixels.now) (has_place c.give_shown.new.self) (has_place c.remove-2.new.self) c.requires.cells
    (λ place.
    c.give_shown.ensures.has place
    ∙ (λ j. not (in_shown (c.unlist.ensures.world j) c.args.p (listed j) place) && c.uncover-from.ensures.has j place))
    c.remove-2.ensures.has

pub returns-clause-lists : goal.returns-clause-lists
returns-clause-lists g c = lists g (goal.at.returns-clause-lists g c).After-remove-2

pub returns-clause-forms : goal.returns-clause-forms
returns-clause-forms g c =
    let at = (goal.at.returns-clause-forms g c).After-remove-2 in
    forms_then g at ∙ ap forms_of (sym (lists g at))

pub returns-clause-cells : goal.returns-clause-cells
returns-clause-cells g c =
    let at = (goal.at.returns-clause-cells g c).After-remove-2 in
    subst (λ (w : World). HasCells w (has_place c.remove-2.new.self)) (sym (lists g at)) (cells g at (left g (goal.at.returns-clause-cells g c).After-deref))

pub returns-clause-world : goal.returns-clause-world
returns-clause-world g c =
    let at = (goal.at.returns-clause-world g c).After-remove-2 in
    let world = shape c.args.lists.now in
    ap (λ (w : World). with_kept w (kept_at c.remove-2.new.self)) (lists g at)
    ∙ gone_world world c.args.p c.args.w c.requires.going c.remove-2.new.self (kept_at c.args.pixels.now) (kept_at c.uncover-from.new.pixels) (g.S.Source.fill c.args.source.now) c.requires.fills c.uncover-from.ensures.moved
    (forms_then g at) (cells g at (left g (goal.at.returns-clause-world g c).After-deref))
    (gone_kept c.args.w (kept_at c.uncover-from.new.pixels) (kept_at c.give_shown.new.self) (kept_at c.remove-2.new.self) (has_place c.give_shown.new.self) (has_place c.remove-2.new.self)
    c.give_shown.ensures.kept c.remove-2.ensures.kept c.remove-2.ensures.has)

-- a window that goes had no moment
pub returns-clause-moment : goal.returns-clause-moment
returns-clause-moment g c =
    let before = moment c.args.pixels.now in
    c.remove-2.ensures.moment
    ∙ ap (λ (moments : ℕ → Option Moment). with_moment c.args.w None moments) (c.give_shown.ensures.moment ∙ c.uncover-from.ensures.moment)
    ∙ moment_same before c.args.w None (window_moment c.args.pixels.now (shape c.args.lists.now) c.args.w c.args.p c.requires.forms c.requires.going.stands)
