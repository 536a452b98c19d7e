use Rattle.std.proofs.Common.{◌≡◌, ◌∙◌, true, sym, ap}
use Rattle.std.specs.Prelude.{not}
use Rattle.std.specs.List.{list_any}
use Rattle.r9_geom.specs.Geometry.{is_empty, is_inside, meet}
use Rattle.model_forest.specs.declared.Window.{Window}
use Rattle.std.proofs.lemmas.Bool.{or_left, or_right}
use Rattle.r9_cells.proofs.Touching.{cell_off}
use Rattle.r9_cells.proofs.hiding.hides_all.Goals as goal

pub returns-then-is_buried : goal.returns-then-is_buried
returns-then-is_buried c e part cell =
    or_right (not (is_inside part c.args.below.now)) (list_any (λ (w : Window). not (is_empty (meet w.place part))) c.args.upper.now) (c.is_buried.ensures c.if-is_buried.true part cell)

pub returns-else-is_buried : goal.returns-else-is_buried
returns-else-is_buried c e part cell =
    let below = c.args.below.now in
    let none : is_empty (meet c.args.out.now below) ≡ true = ap is_empty (sym c.meet.ensures.exact) ∙ sym c.is_empty.ensures.exact ∙ e in
    or_left (not (is_inside part below)) (list_any (λ (w : Window). not (is_empty (meet w.place part))) c.args.upper.now)
    (ap not (cell_off below c.args.out.now part cell none))
