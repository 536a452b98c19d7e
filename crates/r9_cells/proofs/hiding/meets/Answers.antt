use Rattle.std.proofs.Common.{◌≡◌, ◌∙◌, false, length, rules, tests, sym, ap}
use Rattle.std.specs.Prelude.{◌==◌, ◌||◌, not}
use Rattle.std.specs.List.{list_any}
use Rattle.std.proofs.lemmas.Iterator.{YieldsList-from_slice}
use Rattle.std.proofs.lemmas.Iterator.Search.{any_from_yields_List}
use Rattle.r9_geom.specs.declared.Rect.{Rect}
use Rattle.r9_geom.specs.Geometry.{is_empty, meet}
use Rattle.r9_cells.proofs.hiding.meets.Goals as goal

pub returns-else-is_empty : goal.returns-else-is_empty
returns-else-is_empty c =
    let areas = c.args.areas.now in
    let test = λ (a : Rect). not (is_empty (meet c.args.r.now a)) in
    let any = any_from_yields_List test _ _ c.any.result c.any.ensures.ran (YieldsList-from_slice areas cc) (λ x b q k. search (rules, tests)) in
    let some : (length areas == 0) ≡ false = sym c.is_empty.ensures ∙ c.if-is_empty.false in
    any ∙ sym (ap (λ b. b || list_any test areas) some)
