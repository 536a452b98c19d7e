use Rattle.std.proofs.Common.{◌≡◌, ◌∙◌, ◌<◌, ◌≤◌, get_or, length, ap, arith, ⊎_elim}
use Rattle.std.proofs.lemmas.Bool.{cases_lt}
use Rattle.std.proofs.lemmas.List.{get_or_default}
use Rattle.r9_geom.specs.declared.Rect.{Rect}
use Rattle.r9_geom.specs.Geometry.{is_inside}
use Rattle.model_forest.specs.World.{no_rect}
use Rattle.r9_cells.proofs.hiding.span.Goals as goal

pub loop-area-preserved : goal.loop-area-preserved
loop-area-preserved c = record {
  covered = λ k d before.
      let areas = c.args.areas.now in
      let index = c.loop-area.area-index in
      ⊎_elim
      (λ (early : k < index). c.joined-r.ensures.more (get_or areas k d) (c.loop-area.invariant.covered k d early))
      (λ (late : index ≤ k).
      let here : k ≡ index = omega (arith, late, before) in
      let below : k < length areas = omega (arith, here, c.loop-area-test.true, c.loop-area.auto.area-index-end) in
      ap (λ (a : Rect). is_inside a c.joined-r.result) (get_or_default areas k d no_rect below ∙ ap (λ n. get_or areas n no_rect) here)
      ∙ c.joined-r.ensures.second)
      (cases_lt k index);
}
