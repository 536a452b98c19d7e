use Rattle.std.proofs.Common.{◌∙◌, length, rules, tests, sym}
use Rattle.std.specs.Prelude.{◌==◌}
use Rattle.std.specs.List.{list_any}
use Rattle.std.proofs.lemmas.Bool.{or_right}
use Rattle.std.proofs.lemmas.Iterator.{YieldsList-from_slice}
use Rattle.std.proofs.lemmas.Iterator.Search.{any_from_yields_List}
use Rattle.r9_geom.specs.declared.Rect.{Rect}
use Rattle.r9_geom.specs.Geometry.{is_inside}
use Rattle.r9_cells.proofs.Spans.{lies_meets}
use Rattle.r9_cells.proofs.hiding.lies_in.Goals as goal

pub returns-else-is_empty : goal.returns-else-is_empty
returns-else-is_empty c e part inside some =
    let areas = c.args.areas.now in
    let test = λ (a : Rect). is_inside c.args.r.now a in
    let any = any_from_yields_List test _ _ c.any.result c.any.ensures.ran (YieldsList-from_slice areas cc) (λ x b q k. search (rules, tests)) in
    lies_meets areas c.args.r.now part (or_right (length areas == 0) (list_any test areas) (sym any ∙ e)) inside some
