use Rattle.std.proofs.Common.{◌≡◌, ◌∙◌, true, sym, ap}
use Rattle.std.specs.Prelude.{not, ◌||◌}
use Rattle.std.specs.List.{list_any}
use Rattle.r9_geom.specs.Geometry.{is_empty, is_inside, meet}
use Rattle.model_forest.specs.declared.Window.{Window}
use Rattle.r9_cells.proofs.hiding.hides.Goals as goal

pub returns-else-not-inside : goal.returns-else-not-inside
returns-else-not-inside c =
    let out = c.args.out.now in
    let covered = list_any (λ (w : Window). not (is_empty (meet w.place out))) c.args.upper.now in
    let inside : is_inside out c.args.below.now ≡ true = sym c.inside.ensures.exact ∙ c.if-not-inside.false in
    c.is_covered.ensures ∙ sym (ap (λ b. not b || covered) inside)
