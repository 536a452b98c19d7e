use Rattle.std.proofs.Common.{◌∙◌, sym, ap, subst, arith}
use Rattle.model_forest.specs.Cost as cost
use Rattle.model_forest.specs.Draw.{after_draw}
use Rattle.model_forest.specs.World.{World}
use Rattle.r9_layers.specs.Area.{drawing_of, IsTaskOf}
use Rattle.r9_layers.proofs.drawing.draw_in_place.Goals as goal

pub draw_over-requires-clause-live : goal.draw_over-requires-clause-live
draw_over-requires-clause-live g c =
    subst (λ (W : World). IsTaskOf W c.args.task.now) (sym (c.draw_moved.ensures.unmoved c.if-draw_moved.false)) c.requires.live

pub draw_over-requires-clause-area : goal.draw_over-requires-clause-area
draw_over-requires-clause-area g c =
    c.requires.area ∙ ap (λ (W : World). cost.area W (drawing_of c.args.task.now)) (sym (c.draw_moved.ensures.unmoved c.if-draw_moved.false))

pub returns-clause-world : goal.returns-clause-world
returns-clause-world g c done =
    c.draw_over.ensures.world done ∙ ap (λ (W : World). after_draw W (drawing_of c.args.task.now)) (c.draw_moved.ensures.unmoved c.if-draw_moved.false)

pub returns-clause-numbers : goal.returns-clause-numbers
returns-clause-numbers g c = c.draw_over.ensures.numbers ∙ c.draw_moved.ensures.numbers

pub returns-clause-steps : goal.returns-clause-steps
returns-clause-steps g c done = omega (arith, c.draw_over.ensures.steps done, c.draw_moved.ensures.uncounted c.if-draw_moved.false)

pub returns-clause-unmoved : goal.returns-clause-unmoved
returns-clause-unmoved g c none = c.draw_over.ensures.unmoved none ∙ c.draw_moved.ensures.unmoved c.if-draw_moved.false

pub returns-clause-uncounted : goal.returns-clause-uncounted
returns-clause-uncounted g c none = c.draw_over.ensures.uncounted none ∙ c.draw_moved.ensures.uncounted c.if-draw_moved.false

pub returns-clause-moment : goal.returns-clause-moment
returns-clause-moment g c = c.draw_over.ensures.moment ∙ c.draw_moved.ensures.moment

pub returns-clause-writes : goal.returns-clause-writes
returns-clause-writes g c = omega (arith, c.draw_over.ensures.writes, c.draw_moved.ensures.writes)
