use Rattle.std.proofs.Common.{◌∙◌, ◌-◌, ◌<◌, get_or, length, sym, ap, arith}
use Rattle.std.specs.Prelude.{not}
use Rattle.std.proofs.lemmas.List.Folds.{list_any_at}
use Rattle.r9_geom.specs.Geometry.{is_empty, meet}
use Rattle.model_forest.specs.declared.Window.{Window}
use Rattle.r9_cells.proofs.Listed.{no_window}
use Rattle.r9_cells.proofs.Spans.{buried}
use Rattle.r9_cells.proofs.Touching.{some_length}
use Rattle.r9_cells.proofs.hiding.is_buried.Goals as goal

pub returns-then-ends_in : goal.returns-then-ends_in
returns-then-ends_in c e part cell =
    let ws = c.args.upper.now in
    let k = length ws - 1 in
    let w = get_or ws k no_window in
    let some : 0 < length ws = some_length (length ws) (sym c.is_empty.ensures ∙ c.if-is_empty.false) in
    let ends = c.ends_in.ensures in
    let is = c.if-ends_in.true in
    let starts = c.starts_in.ensures in
    list_any_at (λ (v : Window). not (is_empty (meet v.place part))) ws k no_window (omega (arith, some))
    (ap not (buried w.place c.args.out.now part cell (ends.right is) (ends.bottom is) (ends.left is) (ends.top is) (starts.left e) (starts.top e)))
