use Rattle.std.proofs.Common.{◌∙◌, refl, sym, ap, subst, arith}
use Rattle.std.specs.Prelude.{◌==◌, ◌&&◌, ◌||◌, nat_lt, is_some}
use Rattle.r9_geom.specs.declared.Rect.{Rect}
use Rattle.model_kept.specs.Cells.{cell_count}
use Rattle.r9_cells.specs.Cells.{all_rows}
use Rattle.r9_cells.specs.Fitting.{hides_cell, wanted, IsTakenOff}
use Rattle.r9_cells.specs.Rows.{cell_at}
use Rattle.r9_cells.proofs.Listed.{celled_still}
use Rattle.r9_cells.proofs.table.Cells.take_at.Goals as goal

pub take_window-requires-clause-celled : goal.take_window-requires-clause-celled
take_window-requires-clause-celled c = celled_still (all_rows c.args.self.now) _ _ _ _ c.requires.windowed.cells refl (λ j. refl) c.rect_of-r.ensures

pub take_window-requires-clause-still : goal.take_window-requires-clause-still
take_window-requires-clause-still c = subst (IsTakenOff (all_rows c.args.self.now) c.args.below.now c.args.windows.now c.args.areas.now c.args.w.now.image) (sym c.rect_of-r.ensures) c.requires.still

pub take_window-requires-clause-room : goal.take_window-requires-clause-room
take_window-requires-clause-room c =
    omega (arith, c.requires.room, ap (λ (r : Rect). wanted (all_rows c.args.self.now) c.args.below.now c.args.windows.now c.args.w.now.image r) c.rect_of-r.ensures)

pub returns-clause-spare : goal.returns-clause-spare
returns-clause-spare c =
    omega (arith, c.take_window.ensures.spare, ap (λ (r : Rect). wanted (all_rows c.args.self.now) c.args.below.now c.args.windows.now c.args.w.now.image r) c.rect_of-r.ensures)

pub returns-clause-taken : goal.returns-clause-taken
returns-clause-taken c j l =
    let w = c.args.w.now in
    c.take_window.ensures.taken j l
    ∙ ap (λ (r : Rect). ((j == w.image) && (nat_lt l (cell_count r) && hides_cell c.args.below.now c.args.windows.now w.image r l)) || is_some (cell_at (all_rows c.args.self.now) j l)) c.rect_of-r.ensures
