use Rattle.std.proofs.Common.{◌∙◌, ap}
use Rattle.r9_geom.specs.declared.Rect.{Rect}
use Rattle.r9_geom.specs.Geometry.{height, width}
use Rattle.r9_marks.specs.marks.Cells.{cells_over, count_cells}
use Rattle.r9_pixels.specs.Kept.{marked}
use Rattle.r9_forest.specs.Images.{world}
use Rattle.r9_forest.proofs.Looking.{moment_kept, rect_live, shown_fits, since_shown}
use Rattle.r9_forest.proofs.images.Images.since.Goals as goal

pub returns-clause-since : goal.returns-clause-since
unfolding world
returns-clause-since c was is =
    let now = c.args.self.now in
    since_shown now.lists now.pixels now.spare.items c.args.i now.sound c.requires.live was is (c.since.ensures.since was is)

pub returns-clause-few : goal.returns-clause-few
returns-clause-few c = c.since.ensures.few

pub returns-clause-most : goal.returns-clause-most
returns-clause-most c = c.since.ensures.most

pub returns-clause-nowhere : goal.returns-clause-nowhere
unfolding world
returns-clause-nowhere c nowhere =
    let now = c.args.self.now in
    moment_kept now.lists now.pixels now.spare.items c.args.i now.sound c.requires.live nowhere

pub returns-clause-counted : goal.returns-clause-counted
unfolding world
returns-clause-counted c was is =
    let now = c.args.self.now in
    c.since.ensures.counted was is
    ∙ ap (λ (r : Rect). count_cells (cells_over (width r)) (cells_over (height r)) (marked now.pixels c.args.i)) (rect_live now.lists now.pixels now.spare.items c.args.i now.sound c.requires.live)

pub returns-clause-fits : goal.returns-clause-fits
unfolding world
returns-clause-fits c was is =
    let now = c.args.self.now in
    shown_fits now.lists now.pixels now.spare.items c.args.i now.sound c.requires.live was is (c.since.ensures.fits was is)
