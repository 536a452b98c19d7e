use Rattle.std.proofs.Common.{◌≡◌, ◌∙◌, ◌≤◌, ℕ, All, List, Some, refl, sym, subst, ap, arith}
use Rattle.r9_geom.specs.Geometry.{area_of}
use Rattle.r9_relist.proofs.arrive.Canvases.{bare_canvas}
use Rattle.r9_relist.proofs.arrive.Entering.{on_err}
use Rattle.model_forest.specs.declared.Window.{Window}
use Rattle.model_forest.specs.Stack.{with_windows}
use Rattle.model_forest.specs.World.{image_at, IsForest}
use Rattle.model_kept.specs.Keeping.{with_kept, Place}
use Rattle.model_kept.specs.Restack.{with_list}
use Rattle.r9_locate.specs.locate.Table.{shape}
use Rattle.r9_pixels.specs.Kept.{has_place, kept_at, spare_in, wanted_in}
use Rattle.r9_cells.specs.Fitting.{AreOne}
use Rattle.r9_pixels.specs.Places.{HasCells, HasTakenOff, StandsOn}
use Rattle.r9_forest.specs.Images.{numbers, world}
use Rattle.r9_forest.specs.Numbered.{numbers_of}
use Rattle.r9_relist.proofs.relist.Off.{ordered_taken}
use Rattle.r9_relist.proofs.relist.Relisted.{relist_on, relist_ones}
use Rattle.r9_forest.proofs.Sounding.{list_sound, sound_forest, sound_list, sound_same}
use Rattle.r9_forest.proofs.Roomy.{fills_put, fills_same}
use Rattle.r9_forest.proofs.images.Images.set_order.Given.{Over}
use Rattle.r9_forest.proofs.images.Images.set_order.Goals as goal
use Rattle.r9_forest.proofs.images.Images.set_order.Goals.{After-reorder_windows, Start}

-- the lists with that order are a world of images
listed : (g : Over) (c : Start g) → IsForest (with_list (shape c.args.self.now.lists) c.args.parent c.args.list.items)
unfolding world
listed g c = sound_list c.args.self.now.lists (kept_at c.args.self.now.pixels) c.args.parent c.args.list.items c.requires.forest

pub reserve_hidden-requires-clause-live : goal.reserve_hidden-requires-clause-live
reserve_hidden-requires-clause-live g c = c.requires.order.live

pub reserve_hidden-requires-clause-forms : goal.reserve_hidden-requires-clause-forms
reserve_hidden-requires-clause-forms g c = c.args.self.now.sound.forms

pub reserve_hidden-requires-clause-windows : goal.reserve_hidden-requires-clause-windows
reserve_hidden-requires-clause-windows g c =
    subst (All (StandsOn (shape c.args.self.now.lists) c.args.parent)) (sym c.deref.ensures.value)
    (relist_on (shape c.args.self.now.lists) c.args.parent c.args.list.items c.requires.order.live (listed g (goal.at.reserve_hidden-requires-clause-windows g c).Start))

pub reserve_hidden-requires-clause-one : goal.reserve_hidden-requires-clause-one
reserve_hidden-requires-clause-one g c =
    subst AreOne (sym c.deref.ensures.value)
    (relist_ones (shape c.args.self.now.lists) c.args.parent c.args.list.items c.requires.order.live (listed g (goal.at.reserve_hidden-requires-clause-one g c).Start))

pub reserve_hidden-requires-clause-still : goal.reserve_hidden-requires-clause-still
reserve_hidden-requires-clause-still g c =
    let was = c.args.self.now in
    subst (λ (ws : List Window). HasTakenOff (shape was.lists) c.args.parent ws 0 c.args.areas.now (has_place was.pixels)) (sym c.deref.ensures.value)
    (ordered_taken (shape was.lists) c.args.parent c.args.list.items c.requires.order c.args.areas.now c.requires.outside (sound_forest was.lists (kept_at was.pixels) was.sound.forest) (has_place was.pixels) was.sound.cells)

pub reorder_windows-requires-clause-before : goal.reorder_windows-requires-clause-before
reorder_windows-requires-clause-before g c = sound_forest c.args.self.now.lists (kept_at c.args.self.now.pixels) c.args.self.now.sound.forest

pub reorder_windows-requires-clause-forest : goal.reorder_windows-requires-clause-forest
reorder_windows-requires-clause-forest g c = listed g (goal.at.reorder_windows-requires-clause-forest g c).Start

pub reorder_windows-requires-clause-forms : goal.reorder_windows-requires-clause-forms
reorder_windows-requires-clause-forms g c = c.reserve_hidden.ensures.kept.forms ∙ c.args.self.now.sound.forms

pub reorder_windows-requires-clause-cells : goal.reorder_windows-requires-clause-cells
reorder_windows-requires-clause-cells g c = subst (HasCells (shape c.args.self.now.lists)) (sym c.reserve_hidden.ensures.kept.has) c.args.self.now.sound.cells

pub reorder_windows-requires-clause-spare : goal.reorder_windows-requires-clause-spare
reorder_windows-requires-clause-spare g c =
    subst (λ (ws : List Window). wanted_in c.reserve_hidden.new.self (shape c.args.self.now.lists) c.args.parent ws ≤ spare_in c.reserve_hidden.new.self) c.deref.ensures.value c.in_ok-reserve_hidden.ensures.spare

-- the world then
after : (g : Over) (c : After-reorder_windows g) → with_kept (shape c.reorder_windows.new.lists) (kept_at c.reorder_windows.new.pixels) ≡ with_windows (with_kept (shape c.args.self.now.lists) (kept_at c.args.self.now.pixels)) c.args.parent c.args.list.items
after g c =
    c.reorder_windows.ensures.world
    ∙ ap (λ (kept : Place → ℕ). with_windows (with_kept (shape c.args.self.now.lists) kept) c.args.parent c.args.list.items) c.reserve_hidden.ensures.kept.kept

pub invariant_of-self : goal.invariant_of-self
invariant_of-self g c = record {
  sound = sound_same c.args.self.now.lists c.args.self.now.lists c.args.self.now.pixels c.reserve_hidden.new.self c.args.self.now.spare.items refl refl c.reserve_hidden.ensures.kept c.args.self.now.sound;
  back = c.args.self.now.back;
  fills = c.args.self.now.fills;
}

pub returns-in_err-reserve_hidden-clause-numbers : goal.returns-in_err-reserve_hidden-clause-numbers
unfolding numbers
returns-in_err-reserve_hidden-clause-numbers g c = refl

pub returns-in_err-reserve_hidden-clause-err : goal.returns-in_err-reserve_hidden-clause-err
unfolding world
returns-in_err-reserve_hidden-clause-err g c =
    on_err c.from_residual.result (λ j. with_kept (shape c.args.self.now.lists) (c.reserve_hidden.ensures.kept.kept j))

pub invariant_of-self-2 : goal.invariant_of-self-2
unfolding world
invariant_of-self-2 g c =
    let was = c.args.self.now in
    record {
      sound =
          list_sound was.lists c.reorder_windows.new.lists was.pixels c.reorder_windows.new.pixels was.spare.items c.args.parent c.args.list.items was.sound c.requires.order.live c.reorder_windows.ensures.lists c.reorder_windows.ensures.made
          (subst IsForest (sym (after g (goal.at.invariant_of-self-2 g c).After-reorder_windows)) c.requires.forest)
          c.reorder_windows.ensures.cells c.reorder_windows.ensures.forms;
      back = omega (arith, c.reorder_windows.ensures.made, was.back);
      fills =
          fills_same (with_list (shape was.lists) c.args.parent c.args.list.items) (shape c.reorder_windows.new.lists) was.room.len c.reorder_windows.ensures.lists
          (fills_put (shape was.lists) was.room.len c.args.parent (Some (record (image_at (shape was.lists) c.args.parent) { windows = c.args.list.items })) (was.fills c.args.parent) was.fills);
    }

pub returns-clause-world : goal.returns-clause-world
unfolding world
returns-clause-world g c = after g (goal.at.returns-clause-world g c).After-reorder_windows

pub returns-clause-numbers : goal.returns-clause-numbers
unfolding numbers
returns-clause-numbers g c = λ j. numbers_of (c.reorder_windows.ensures.made j) c.args.self.now.spare.items

pub returns-clause-steps : goal.returns-clause-steps
unfolding world
returns-clause-steps g c =
    let same = ap area_of ((bare_canvas (shape c.args.self.now.lists) (kept_at c.args.self.now.pixels)).r c.args.parent) in
    omega (arith, same, c.reorder_windows.ensures.steps)

pub returns-in_err-reserve_hidden-clause-moment : goal.returns-in_err-reserve_hidden-clause-moment
returns-in_err-reserve_hidden-clause-moment g c = c.reserve_hidden.ensures.kept.moment

pub returns-in_err-reserve_hidden-clause-writes : goal.returns-in_err-reserve_hidden-clause-writes
returns-in_err-reserve_hidden-clause-writes g c = let same = c.reserve_hidden.ensures.kept.writes in omega (arith, same)

pub returns-clause-moment : goal.returns-clause-moment
returns-clause-moment g c = c.reorder_windows.ensures.moment ∙ c.reserve_hidden.ensures.kept.moment

pub returns-clause-writes : goal.returns-clause-writes
returns-clause-writes g c = let same = c.reserve_hidden.ensures.kept.writes in omega (arith, c.reorder_windows.ensures.writes, same)
