use Rattle.std.proofs.Common.{◌∙◌, refl, sym, ap, subst, arith}
use Rattle.std.specs.Prelude.{◌==◌, ◌&&◌, not, nat_lt, is_some}
use Rattle.r9_geom.specs.declared.Rect.{Rect}
use Rattle.model_forest.specs.World.{image_at}
use Rattle.model_kept.specs.Cells.{cell_count}
use Rattle.r9_locate.specs.locate.Table.{shape}
use Rattle.r9_cells.specs.Cells.{all_rows, tiles_in}
use Rattle.r9_cells.specs.Fitting.{hides_cell, IsGivenOff}
use Rattle.r9_cells.specs.Rows.{cell_at}
use Rattle.r9_cells.proofs.Listed.{celled_still}
use Rattle.r9_cells.proofs.Still.{blank_cell, pixel_as, still_given}
use Rattle.r9_cells.proofs.table.Cells.give_at.Goals as goal

pub give_window-requires-clause-celled : goal.give_window-requires-clause-celled
give_window-requires-clause-celled c = celled_still (all_rows c.args.self.now) _ _ _ _ c.requires.windowed.cells refl (λ j. refl) c.rect_of-r.ensures

pub give_window-requires-clause-still : goal.give_window-requires-clause-still
give_window-requires-clause-still c = subst (IsGivenOff (all_rows c.args.self.now) c.args.below.now c.args.windows.now c.args.areas.now c.args.w.now.image) (sym c.rect_of-r.ensures) c.requires.still

pub returns-then-not-holds_any-clause-pixels : goal.returns-then-not-holds_any-clause-pixels
returns-then-not-holds_any-clause-pixels c = pixel_as (all_rows c.args.self.now) (tiles_in c.args.self.now)

pub returns-then-not-holds_any-clause-given : goal.returns-then-not-holds_any-clause-given
returns-then-not-holds_any-clause-given c =
    still_given (all_rows c.args.self.now) c.args.below.now c.args.windows.now c.args.w.now.image (image_at (shape c.args.lists.now) c.args.w.now.image).r (λ k lower e. blank_cell (all_rows c.args.self.now) c.args.w.now.image k (omega (arith, lower, c.requires.windowed.cells.cells)) (sym c.holds_any.ensures ∙ c.if-not-holds_any.true))

pub returns-clause-given : goal.returns-clause-given
returns-clause-given c j l =
    let w = c.args.w.now in
    c.give_window.ensures.given j l
    ∙ ap (λ (r : Rect). not ((j == w.image) && (nat_lt l (cell_count r) && not (hides_cell c.args.below.now c.args.windows.now w.image r l))) && is_some (cell_at (all_rows c.args.self.now) j l)) c.rect_of-r.ensures
