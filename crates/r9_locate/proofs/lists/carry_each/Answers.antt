use Rattle.std.proofs.Common.{◌∙◌, List, get_or, set, sym, ap, subst, arith, add-one}
use Rattle.r9_geom.specs.declared.Rect.{Rect}
use Rattle.r9_geom.specs.Geometry.{IsRectNear}
use Rattle.model_forest.specs.declared.Window.{Window}
use Rattle.model_forest.specs.World.{no_rect}
use Rattle.r9_locate.proofs.lists.Along.{carried_window, changed_at}
use Rattle.r9_locate.proofs.lists.Ordered.{changed_more, changed_to}
use Rattle.r9_locate.proofs.lists.carry_each.Goals as goal

abbrev no_window : Window
no_window = record { image = 0; place = no_rect }

pub carried_rect-requires-clause-rect : goal.carried_rect-requires-clause-rect
carried_rect-requires-clause-rect c =
    let old = c.args.windows.now in
    let k = c.loop-k.k in
    let is = ap (λ (ws : List Window). get_or ws k no_window) c.loop-k.invariant ∙ changed_at (carried_window c.args.from c.args.to) old k no_window (omega (arith, c.loop-k-test.true)) in
    subst (λ (w : Window). IsRectNear w.place) (sym is) (c.requires.places k no_window (omega (arith, c.loop-k-test.true)))

pub loop-k-preserved : goal.loop-k-preserved
loop-k-preserved c =
    let f = carried_window c.args.from c.args.to in
    let old = c.args.windows.now in
    let k = c.loop-k.k in
    ap (λ (r : Rect). set c.loop-k.windows k (record { image = (get_or c.loop-k.windows k no_window).image; place = r })) c.carried_rect.ensures
    ∙ ap (λ (ws : List Window). set ws k (f (get_or ws k no_window))) c.loop-k.invariant
    ∙ changed_more f old k no_window (omega (arith, c.loop-k-test.true))
    ∙ ap (λ n. changed_to f n old) (sym (add-one k))
