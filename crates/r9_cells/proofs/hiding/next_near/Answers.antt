use Rattle.std.proofs.Common.{◌≡◌, ◌∙◌, ◌<◌, ◌≤◌, get_or, ap, arith, ⊎_elim}
use Rattle.std.proofs.lemmas.Bool.{cases_lt}
use Rattle.std.proofs.lemmas.List.{get_or_default}
use Rattle.r9_geom.specs.Geometry.{is_empty, meet}
use Rattle.model_forest.specs.declared.Window.{Window}
use Rattle.r9_cells.proofs.Listed.{no_window}
use Rattle.r9_cells.proofs.Spans.{off_span}
use Rattle.r9_cells.proofs.hiding.next_near.Goals as goal

pub returns-then-reaches-clause-off : goal.returns-then-reaches-clause-off
returns-then-reaches-clause-off c areas span k d past before below =
    off_span c.args.near.now areas (get_or c.args.windows.now k d).place c.in-Some.near span c.in-Some.is (c.loop-at.invariant.off k d past before below)

pub loop-at-preserved : goal.loop-at-preserved
loop-at-preserved c = record {
  off = λ k d past before below.
      let ws = c.args.windows.now in
      ⊎_elim
      (λ (early : k < c.loop-at.at). c.loop-at.invariant.off k d past early below)
      (λ (late : c.loop-at.at ≤ k).
      let here : k ≡ c.loop-at.at = omega (arith, late, before) in
      ap (λ (w : Window). is_empty (meet w.place c.in-Some.near)) (get_or_default ws k d no_window below ∙ ap (λ n. get_or ws n no_window) here)
      ∙ c.reaches.ensures.off c.if-reaches.false)
      (cases_lt k c.loop-at.at);
}

pub returns-clause-off : goal.returns-clause-off
returns-clause-off c areas span k d past before below =
    off_span c.args.near.now areas (get_or c.args.windows.now k d).place c.in-Some.near span c.in-Some.is
    (c.loop-at.invariant.off k d past (omega (arith, below, c.loop-at-test.false)) below)
