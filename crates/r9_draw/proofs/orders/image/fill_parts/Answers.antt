use Rattle.std.proofs.Common.{ℕ, List, ◌<◌, ◌^◌, ◌∙◌, refl, ap, sym, subst, arith}
use Rattle.std.specs.Prelude.{IsTrue}
use Rattle.std.specs.List.{list_any, sum_by}
use Rattle.std.proofs.lemmas.List.{take_all}
use Rattle.r9_geom.specs.declared.Rect.{Rect}
use Rattle.r9_geom.specs.Geometry.{area_of, holds}
use Rattle.model_pixel.specs.Channels.{depth}
use Rattle.model_forest.specs.Draw.{with_canvas}
use Rattle.r9_layers.specs.Forest.{world}
use Rattle.r9_draw.proofs.orders.Bordering.{filling-begins, filling-more, filling-stays}
use Rattle.r9_draw.proofs.orders.Costs.{part-within}
use Rattle.r9_draw.proofs.orders.image.fill_parts.Goals as goal

pub loop-part-init : goal.loop-part-init
loop-part-init g c = record { filling = filling-begins c.args.forest.now c.args.image.0 c.args.raw c.args.parts.now c.requires.live; within = omega arith; same = refl; counted = refl }

pub loop-part-preserved : goal.loop-part-preserved
loop-part-preserved g c =
    let parts = c.args.parts.now in
    let n = c.loop-part.part-index in
    record {
      filling = filling-more c.args.forest.now c.loop-part.forest c.fill.new.self c.args.image.0 c.args.raw parts n _ c.loop-part-test.true c.loop-part.invariant.filling c.fill.ensures.world c.fill.ensures.numbers c.fill.ensures.room;
      within = part-within parts n _ c.args.steps.now c.loop-part.steps c.fill.new.steps c.loop-part-test.true c.loop-part.invariant.within c.fill.ensures.steps;
      same = c.fill.ensures.moment ∙ c.loop-part.invariant.same;
      counted = let counted = c.loop-part.invariant.counted in omega (arith, counted, c.fill.ensures.writes);
    }

pub fill-requires-clause-live : goal.fill-requires-clause-live
fill-requires-clause-live g c =
    let stays = filling-stays c.args.forest.now c.loop-part.forest c.args.image.0 c.args.raw c.args.parts.now c.loop-part.part-index c.requires.live c.loop-part.invariant.filling in
    stays.live ∙ c.requires.live

pub fill-requires-clause-near : goal.fill-requires-clause-near
fill-requires-clause-near g c = (c.requires.parts c.loop-part.part-index _ c.loop-part-test.true).near

pub fill-requires-clause-ordered : goal.fill-requires-clause-ordered
fill-requires-clause-ordered g c = (c.requires.parts c.loop-part.part-index _ c.loop-part-test.true).ordered

pub fill-requires-clause-inside : goal.fill-requires-clause-inside
fill-requires-clause-inside g c = λ p h.
    let stays = filling-stays c.args.forest.now c.loop-part.forest c.args.image.0 c.args.raw c.args.parts.now c.loop-part.part-index c.requires.live c.loop-part.invariant.filling in
    subst (λ (r : Rect). IsTrue (holds r p)) (sym stays.frame.r) ((c.requires.parts c.loop-part.part-index _ c.loop-part-test.true).inside p h)

pub fill-requires-clause-raw : goal.fill-requires-clause-raw
fill-requires-clause-raw g c =
    let stays = filling-stays c.args.forest.now c.loop-part.forest c.args.image.0 c.args.raw c.args.parts.now c.loop-part.part-index c.requires.live c.loop-part.invariant.filling in
    subst (λ (chan : ℕ). c.args.raw < 2 ^ depth chan) (sym stays.frame.chan) c.requires.raw

pub returns-clause-world : goal.returns-clause-world
returns-clause-world g c =
    c.loop-part.invariant.filling.images
    ∙ ap (λ (ps : List Rect). with_canvas (world c.args.forest.now) c.args.image.0 (λ p. list_any (λ r. holds r p) ps) (λ _. c.args.raw)) (take_all c.loop-part.part-index c.args.parts.now c.loop-part-test.false)

pub returns-clause-steps : goal.returns-clause-steps
returns-clause-steps g c =
    let within = c.loop-part.invariant.within in
    omega (arith, within, ap (λ (ps : List Rect). sum_by area_of ps) (take_all c.loop-part.part-index c.args.parts.now c.loop-part-test.false))

pub returns-clause-moment : goal.returns-clause-moment
returns-clause-moment g c = c.loop-part.invariant.same

pub returns-clause-writes : goal.returns-clause-writes
returns-clause-writes g c = c.loop-part.invariant.counted
