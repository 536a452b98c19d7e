use Rattle.std.proofs.Common.{◌<◌, sym, subst}
use Rattle.r9_geom.specs.declared.Rect.{Rect}
use Rattle.r9_geom.specs.Geometry.{height, width}
use Rattle.r9_marks.specs.marks.Cells.{cells_over}
use Rattle.r9_forest.specs.Images.{world}
use Rattle.r9_forest.proofs.Looking.{rect_live}
use Rattle.r9_forest.proofs.images.Images.marked.Goals as goal

pub marked-requires-clause-column : goal.marked-requires-clause-column
unfolding world
marked-requires-clause-column c =
    let was = c.args.self.now in
    subst (λ (r : Rect). c.args.column < cells_over (width r)) (sym (rect_live was.lists was.pixels was.spare.items c.args.i was.sound c.requires.live)) c.requires.column

pub marked-requires-clause-row : goal.marked-requires-clause-row
unfolding world
marked-requires-clause-row c =
    let was = c.args.self.now in
    subst (λ (r : Rect). c.args.row < cells_over (height r)) (sym (rect_live was.lists was.pixels was.spare.items c.args.i was.sound c.requires.live)) c.requires.row
