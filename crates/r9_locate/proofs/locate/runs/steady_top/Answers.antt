use Rattle.std.proofs.Common.{◌≡◌, ◌∙◌, ◌<◌, get_or, length, ⊎_elim, sym, subst, ap, arith}
use Rattle.std.proofs.lemmas.Bool.{cases_lt}
use Rattle.r9_geom.specs.Geometry.{holds}
use Rattle.r9_plane.specs.Pixels.{along}
use Rattle.model_forest.specs.declared.Window.{Window}
use Rattle.model_forest.specs.World.{no_rect}
use Rattle.r9_locate.proofs.locate.Rowed.{here_is, top_window-same, top_window-to}
use Rattle.r9_locate.proofs.locate.runs.steady_top.Goals as goal

pub loop-w-preserved : goal.loop-w-preserved
loop-w-preserved c = record {
  some = c.steady-len.ensures.some;
  most = omega (arith, c.steady-len.ensures.most, c.loop-w.invariant.most);
  same = λ j k d here below.
      let shorter : k < c.loop-w.len = omega (arith, below, c.steady-len.ensures.most) in
      ⊎_elim
      (λ (early : j < c.loop-w.w-index). c.loop-w.invariant.same j k d early shorter)
      (λ late.
      let now : j ≡ c.loop-w.w-index = omega (arith, here, late) in
      let there : j < length c.args.windows.now = omega (arith, now, c.loop-w-test.true) in
      ap (λ (w : Window). holds w.place (along c.args.q k)) (here_is c.args.windows.now j c.loop-w.w-index d _ now there)
      ∙ c.steady-len.ensures.same k below
      ∙ sym (ap (λ (w : Window). holds w.place c.args.q) (here_is c.args.windows.now j c.loop-w.w-index d _ now there)))
      (cases_lt j c.loop-w.w-index);
}

pub returns-clause-same : goal.returns-clause-same
returns-clause-same c k below =
    top_window-same c.args.windows.now (along c.args.q k) c.args.q
    (λ j d lt. c.loop-w.invariant.same j k d (omega (arith, lt, c.loop-w-test.false, c.loop-w.auto.w-index-end)) below)

pub returns-then-holds-clause-same : goal.returns-then-holds-clause-same
returns-then-holds-clause-same c k below =
    let ws = c.args.windows.now in
    let i = c.loop-w.w-index in
    let d : Window = record { image = 0; place = no_rect } in
    top_window-to ws (along c.args.q k) c.args.q i d c.loop-w-test.true
    (λ j upto.
    ⊎_elim
    (λ (early : j < i). c.loop-w.invariant.same j k d early (omega (arith, below, c.steady-len.ensures.most)))
    (λ late.
    let now : i ≡ j = omega (arith, upto, late) in
    subst (λ n. holds (get_or ws n d).place (along c.args.q k) ≡ holds (get_or ws n d).place c.args.q) now (c.steady-len.ensures.same k below))
    (cases_lt j i))
    (sym c.if-holds.ensures)
