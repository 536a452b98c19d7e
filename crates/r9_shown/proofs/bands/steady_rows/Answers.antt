use Rattle.std.proofs.Common.{◌≡◌, ◌∙◌, ◌<◌, length, ⊎_elim, sym, ap, arith}
use Rattle.std.proofs.lemmas.Bool.{cases_lt}
use Rattle.r9_geom.specs.Geometry.{holds}
use Rattle.model_forest.specs.declared.Window.{Window}
use Rattle.r9_locate.proofs.locate.Rowed.{here_is, top_window-same}
use Rattle.r9_shown.specs.Shown.{down}
use Rattle.r9_shown.proofs.bands.steady_rows.Goals as goal

pub loop-w-preserved : goal.loop-w-preserved
loop-w-preserved c = record {
  some = c.steady_down-rows.ensures.some;
  most = omega (arith, c.steady_down-rows.ensures.most, c.loop-w.invariant.most);
  same = λ p j k d row here below.
      let shorter : k < c.loop-w.rows = omega (arith, below, c.steady_down-rows.ensures.most) in
      ⊎_elim
      (λ (early : j < c.loop-w.w-index). c.loop-w.invariant.same p j k d row early shorter)
      (λ late.
      let now : j ≡ c.loop-w.w-index = omega (arith, here, late) in
      let there : j < length c.args.windows.now = omega (arith, now, c.loop-w-test.true) in
      ap (λ (w : Window). holds w.place (down p k)) (here_is c.args.windows.now j c.loop-w.w-index d _ now there)
      ∙ c.steady_down-rows.ensures.same p k row below
      ∙ sym (ap (λ (w : Window). holds w.place p) (here_is c.args.windows.now j c.loop-w.w-index d _ now there)))
      (cases_lt j c.loop-w.w-index);
}

pub returns-clause-same : goal.returns-clause-same
returns-clause-same c p k row below =
    top_window-same c.args.windows.now (down p k) p
    (λ j d lt. c.loop-w.invariant.same p j k d row (omega (arith, lt, c.loop-w-test.false, c.loop-w.auto.w-index-end)) below)
