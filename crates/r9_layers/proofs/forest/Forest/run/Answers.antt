use Rattle.std.proofs.Common.{◌≡◌, ◌∙◌, ℕ, sym, ap, subst, arith}
use Rattle.std.specs.Prelude.{OnErr, OnOk}
use Rattle.r9_geom.specs.Geometry.{area_of}
use Rattle.model_forest.specs.Cost as cost
use Rattle.model_forest.specs.Draw.{after_draw}
use Rattle.model_forest.specs.World.{World}
use Rattle.r9_layers.specs.Area.{drawing_of, IsTaskOf}
use Rattle.r9_layers.specs.Forest.{moment, numbers, room, world, writes}
use Rattle.r9_layers.proofs.Areas.{area_count, area_none, drawn_nowhere}
use Rattle.r9_layers.proofs.forest.Forest.run.Goals as goal

pub returns-then-is_empty-clause-ok : goal.returns-then-is_empty-clause-ok
unfolding world
returns-then-is_empty-clause-ok g c =
    let d = drawing_of c.args.task.now in
    let W = world c.args.self.now in
    drawn_nowhere W d c.requires.dst (area_none W d c.area-area.result c.area-area.ensures (sym c.is_empty.ensures.exact ∙ c.if-is_empty.true))

pub compose-requires-clause-live : goal.compose-requires-clause-live
unfolding world
compose-requires-clause-live g c =
    subst (λ (W : World). IsTaskOf W c.args.task.now) (sym (c.draw_in_place.ensures.unmoved c.if-draw_in_place.false)) c.requires

pub compose-requires-clause-area : goal.compose-requires-clause-area
unfolding world
compose-requires-clause-area g c =
    c.area-area.ensures ∙ ap (λ (W : World). cost.area W (drawing_of c.args.task.now)) (sym (c.draw_in_place.ensures.unmoved c.if-draw_in_place.false))

pub compose-requires-clause-some : goal.compose-requires-clause-some
compose-requires-clause-some g c = sym c.is_empty.ensures.exact ∙ c.if-is_empty.false

pub returns-clause-ok : goal.returns-clause-ok
unfolding world
returns-clause-ok g c =
    subst (λ (W : World). OnOk c.compose.result (world c.compose.new.self ≡ after_draw W (drawing_of c.args.task.now))) (c.draw_in_place.ensures.unmoved c.if-draw_in_place.false) c.compose.ensures.ok

pub returns-clause-numbers : goal.returns-clause-numbers
unfolding numbers
returns-clause-numbers g c = c.compose.ensures.numbers ∙ c.draw_in_place.ensures.numbers

pub returns-clause-room : goal.returns-clause-room
unfolding room
returns-clause-room g c = c.compose.ensures.room

pub returns-clause-err : goal.returns-clause-err
unfolding world
returns-clause-err g c =
    subst (λ (W : World). OnErr c.compose.result (world c.compose.new.self ≡ W)) (c.draw_in_place.ensures.unmoved c.if-draw_in_place.false) c.compose.ensures.err

pub returns-clause-memory : goal.returns-clause-memory
unfolding world room
returns-clause-memory g c fits =
    let count = area_count (world c.args.self.now) (drawing_of c.args.task.now) c.area-area.result c.area-area.ensures (sym c.is_empty.ensures.exact ∙ c.if-is_empty.false) in
    c.compose.ensures.memory (omega (arith, count, fits))

pub returns-clause-steps : goal.returns-clause-steps
unfolding world
returns-clause-steps g c =
    omega (arith, c.compose.ensures.steps, c.draw_in_place.ensures.uncounted c.if-draw_in_place.false, ap area_of c.area-area.ensures)

pub returns-clause-uncounted : goal.returns-clause-uncounted
returns-clause-uncounted g c =
    subst (λ (n : ℕ). OnErr c.compose.result (c.compose.new.steps ≡ n)) (c.draw_in_place.ensures.uncounted c.if-draw_in_place.false) c.compose.ensures.uncounted

pub returns-clause-moment : goal.returns-clause-moment
unfolding moment
returns-clause-moment g c = c.compose.ensures.moment ∙ c.draw_in_place.ensures.moment

pub returns-clause-writes : goal.returns-clause-writes
unfolding writes
returns-clause-writes g c = omega (arith, c.compose.ensures.writes, c.draw_in_place.ensures.writes)
