use Rattle.std.proofs.Common.{◌∙◌, None, ℕ, Option, sym, subst, ap}
use Rattle.model_forest.specs.World.{World, with_image}
use Rattle.model_kept.specs.Keeping.{with_kept}
use Rattle.model_kept.proofs.Once.{places-forest}
use Rattle.model_kept.proofs.Worlds.{standing-forest}
use Rattle.r9_locate.specs.locate.Forms.{forms_of, Form}
use Rattle.r9_locate.specs.locate.Table.{shape}
use Rattle.r9_pixels.specs.Kept.{has_place, kept_at}
use Rattle.r9_pixels.specs.Places.{with_form, HasCells}
use Rattle.r9_relist.proofs.relist.Uncovering.{gone_forms, left_cells, left_forest, left_room, left_world}
use Rattle.r9_relist.proofs.relist.Near.{nearby}
use Rattle.r9_relist.proofs.relist.leaving.take_whole.Goals as goal

pub remove-requires-clause-live : goal.remove-requires-clause-live
remove-requires-clause-live c = c.requires.can.live

pub remove-requires-clause-standing : goal.remove-requires-clause-standing
remove-requires-clause-standing c = standing-forest (with_image (shape c.args.lists.now) c.args.i None) (left_forest (shape c.args.lists.now) c.args.i c.requires.before c.requires.can c.requires.nowhere)

pub remove-requires-clause-places : goal.remove-requires-clause-places
remove-requires-clause-places c = places-forest (with_image (shape c.args.lists.now) c.args.i None) (left_forest (shape c.args.lists.now) c.args.i c.requires.before c.requires.can c.requires.nowhere)

pub remove-requires-clause-near : goal.remove-requires-clause-near
remove-requires-clause-near c = nearby (with_image (shape c.args.lists.now) c.args.i None) (left_forest (shape c.args.lists.now) c.args.i c.requires.before c.requires.can c.requires.nowhere)

pub remove-requires-2 : goal.remove-requires-2
remove-requires-2 c = left_room (shape c.args.lists.now) c.args.i c.requires.before c.requires.can c.requires.nowhere c.args.pixels.now c.requires.forms

pub returns-clause-world : goal.returns-clause-world
returns-clause-world c =
    ap (λ (w : World). with_kept w (kept_at c.remove-2.new.self)) c.remove.ensures.world
    ∙ left_world (shape c.args.lists.now) c.args.i c.requires.before c.requires.can c.requires.nowhere (kept_at c.args.pixels.now) (kept_at c.remove-2.new.self) c.remove-2.ensures.kept

pub returns-clause-cells : goal.returns-clause-cells
returns-clause-cells c =
    subst (λ (w : World). HasCells w (has_place c.remove-2.new.self)) (sym c.remove.ensures.world)
    (left_cells (shape c.args.lists.now) c.args.i c.requires.before c.requires.can c.requires.nowhere (has_place c.args.pixels.now) (has_place c.remove-2.new.self) c.requires.cells c.remove-2.ensures.has)

pub returns-clause-forms : goal.returns-clause-forms
returns-clause-forms c =
    c.remove-2.ensures.forms ∙ ap (λ (f : ℕ → Option Form). with_form c.args.i None f) c.requires.forms ∙ gone_forms (shape c.args.lists.now) c.args.i ∙ ap forms_of (sym c.remove.ensures.world)
