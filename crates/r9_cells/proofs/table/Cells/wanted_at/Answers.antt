use Rattle.std.proofs.Common.{◌∙◌, refl, ap}
use Rattle.r9_geom.specs.declared.Rect.{Rect}
use Rattle.r9_cells.specs.Cells.{all_rows}
use Rattle.r9_cells.specs.Fitting.{wanted_near}
use Rattle.r9_cells.proofs.Listed.{celled_still}
use Rattle.r9_cells.proofs.table.Cells.wanted_at.Goals as goal

pub wanted-requires-clause-celled : goal.wanted-requires-clause-celled
wanted-requires-clause-celled c = celled_still (all_rows c.args.self.now) _ _ _ _ c.requires.windowed.cells refl (λ j. refl) c.rect_of-r.ensures

pub returns : goal.returns
returns c = c.wanted.ensures ∙ ap (λ (r : Rect). wanted_near (all_rows c.args.self.now) c.args.below.now c.args.windows.now c.args.areas.now c.args.w.now.image r) c.rect_of-r.ensures
