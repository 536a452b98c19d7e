use Rattle.std.proofs.Common.{◌≡◌, ◌∙◌, ◌-◌, ◌<◌, suc, false, get_or, length, take, sym, ap, arith}
use Rattle.std.specs.Prelude.{◌||◌, not}
use Rattle.std.specs.List.{list_any}
use Rattle.r9_geom.specs.Geometry.{is_empty, meet}
use Rattle.model_forest.specs.declared.Window.{Window}
use Rattle.r9_cells.proofs.Covering.{any_take}
use Rattle.r9_cells.proofs.Listed.{no_window}
use Rattle.r9_cells.proofs.Steps.{or_none}
use Rattle.r9_cells.proofs.hiding.is_covered.Goals as goal

pub loop-left-preserved : goal.loop-left-preserved
loop-left-preserved c =
    let ws = c.args.upper.now in
    let covers = λ (w : Window). not (is_empty (meet w.place c.args.out.now)) in
    let k = c.loop-left.left - 1 in
    let is : c.loop-left.left ≡ suc k = omega (arith, c.loop-left-test.true) in
    let below : k < length ws = omega (arith, c.loop-left-test.true, c.loop-left.invariant.within) in
    let clear : covers (get_or ws k no_window) ≡ false = sym c.touches.ensures ∙ c.if-touches.false in
    record {
      within = omega (arith, c.loop-left.invariant.within);
      rest =
          c.loop-left.invariant.rest
          ∙ ap (λ n. list_any covers (take n ws)) is
          ∙ any_take covers ws k no_window below
          ∙ ap (λ b. list_any covers (take k ws) || b) clear
          ∙ or_none (list_any covers (take k ws));
    }
