use Rattle.std.proofs.Common.{◌∙◌, sym, ap}
use Rattle.std.specs.Prelude.{◌&&◌, ◌||◌}
use Rattle.r9_geom.specs.Geometry.{holds}
use Rattle.r9_put.proofs.fills.Runs.{reach_once, reach_repeated}
use Rattle.r9_put.proofs.fills.reaching.reached.Goals as goal

pub returns-then-frame : goal.returns-then-frame
returns-then-frame c p =
    let frame = c.args.frame.now in
    let r = c.args.r.now in
    c.meet-clipped.ensures.points p
    ∙ reach_repeated (holds r p) (holds frame.clipr p) (holds frame.r p)
    ∙ ap (λ b. holds r p && (holds frame.clipr p && (b || holds frame.r p))) (sym c.if-frame.true)

pub returns-else-frame : goal.returns-else-frame
returns-else-frame c p =
    let frame = c.args.frame.now in
    let r = c.args.r.now in
    c.meet.ensures.points p
    ∙ ap (λ b. b && holds frame.r p) (c.meet-clipped.ensures.points p)
    ∙ reach_once (holds r p) (holds frame.clipr p) (holds frame.r p)
    ∙ ap (λ b. holds r p && (holds frame.clipr p && (b || holds frame.r p))) (sym c.if-frame.false)
