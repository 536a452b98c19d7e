use Rattle.std.proofs.Common.{◌≡◌, ◌∙◌, All, List, sym, subst, ap}
use Rattle.std.specs.Prelude.{◌&&◌, not, if◌then◌else◌}
use Rattle.model_forest.specs.declared.Window.{Window}
use Rattle.model_forest.specs.World.{World, IsForest}
use Rattle.model_kept.specs.Restack.{with_list}
use Rattle.model_kept.proofs.Once.{places-forest}
use Rattle.model_kept.proofs.Worlds.{standing-forest}
use Rattle.r9_locate.specs.locate.Forms.{forms_of}
use Rattle.r9_locate.specs.locate.Table.{shape}
use Rattle.r9_cells.specs.Fitting.{AreOne}
use Rattle.r9_pixels.specs.Kept.{form_at, has_place, kept_at}
use Rattle.r9_pixels.specs.Places.{in_shown, HasCells, HasGivenOff, StandsOn}
use Rattle.r9_relist.proofs.relist.Near.{nearby}
use Rattle.r9_relist.proofs.relist.Relisted.{relist_cells, relist_forms, relist_on, relist_ones}
use Rattle.r9_relist.proofs.relist.Surfaces.{placed_alike}
use Rattle.r9_relist.proofs.relist.relisting.settle.Goals as goal
use Rattle.r9_relist.proofs.relist.relisting.settle.Goals.{After-set_windows}

pub give_shown-requires-clause-windows : goal.give_shown-requires-clause-windows
give_shown-requires-clause-windows c =
    subst (All (StandsOn (shape c.args.lists.now) c.args.p)) (sym c.deref.ensures.value)
    (relist_on (shape c.args.lists.now) c.args.p c.args.list.items c.requires.live c.requires.forest)

pub give_shown-requires-clause-one : goal.give_shown-requires-clause-one
give_shown-requires-clause-one c =
    subst AreOne (sym c.deref.ensures.value) (relist_ones (shape c.args.lists.now) c.args.p c.args.list.items c.requires.live c.requires.forest)

pub give_shown-requires-clause-still : goal.give_shown-requires-clause-still
give_shown-requires-clause-still c =
    subst (λ (ws : List Window). HasGivenOff (shape c.args.lists.now) c.args.p ws c.args.from c.args.areas.now (has_place c.args.pixels.now)) (sym c.deref.ensures.value) c.requires.still

pub set_windows-requires-clause-standing : goal.set_windows-requires-clause-standing
set_windows-requires-clause-standing c = standing-forest (with_list (shape c.args.lists.now) c.args.p c.args.list.items) c.requires.forest

pub set_windows-requires-clause-places : goal.set_windows-requires-clause-places
set_windows-requires-clause-places c = places-forest (with_list (shape c.args.lists.now) c.args.p c.args.list.items) c.requires.forest

pub set_windows-requires-clause-near : goal.set_windows-requires-clause-near
set_windows-requires-clause-near c = nearby (with_list (shape c.args.lists.now) c.args.p c.args.list.items) c.requires.forest

forms : (c : After-set_windows) → form_at c.give_shown.new.self ≡ forms_of (shape c.set_windows.new.self)
forms c =
    c.give_shown.ensures.forms ∙ c.requires.forms ∙ sym (relist_forms (shape c.args.lists.now) c.args.p c.args.list.items c.requires.live) ∙ ap forms_of (sym c.set_windows.ensures.world)

cells : (c : After-set_windows) → HasCells (shape c.set_windows.new.self) (has_place c.give_shown.new.self)
cells c =
    subst (λ (w : World). HasCells w (has_place c.give_shown.new.self)) (sym c.set_windows.ensures.world)
    (relist_cells (shape c.args.lists.now) c.args.p c.args.list.items c.requires.live c.requires.forest (has_place c.args.pixels.now) (has_place c.give_shown.new.self) c.requires.others c.requires.hidden
    (λ place.
    subst (λ (ws : List Window). has_place c.give_shown.new.self place ≡ (not (in_shown (shape c.args.lists.now) c.args.p ws place) && has_place c.args.pixels.now place)) c.deref.ensures.value
    (c.give_shown.ensures.has place)))

pub returns-clause-kept : goal.returns-clause-kept
returns-clause-kept c =
    let at = (goal.at.returns-clause-kept c).After-set_windows in
    placed_alike c.give_shown.new.self (shape c.set_windows.new.self) (kept_at c.args.pixels.now) (subst IsForest (sym c.set_windows.ensures.world) c.requires.forest) (forms at) (cells at)
    (λ place has. c.give_shown.ensures.kept place ∙ ap (λ b. if b then kept_at c.args.pixels.now place else 0) has)

pub returns-clause-cells : goal.returns-clause-cells
returns-clause-cells c = cells (goal.at.returns-clause-cells c).After-set_windows

pub returns-clause-forms : goal.returns-clause-forms
returns-clause-forms c = forms (goal.at.returns-clause-forms c).After-set_windows
