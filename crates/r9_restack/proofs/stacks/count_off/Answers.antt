use Rattle.std.proofs.Common.{◌≡◌, ◌∙◌, ◌<◌, length, ⊎_elim, ap, arith}
use Rattle.std.proofs.lemmas.Bool.{cases_lt}
use Rattle.r9_geom.specs.Geometry.{holds}
use Rattle.model_forest.specs.declared.Window.{Window}
use Rattle.r9_locate.proofs.locate.Rowed.{here_is}
use Rattle.r9_restack.proofs.Stacked.{bare_until}
use Rattle.r9_restack.proofs.stacks.count_off.Goals as goal

pub loop-count-preserved : goal.loop-count-preserved
loop-count-preserved c z j d inside here =
    ⊎_elim
    (λ (early : j < c.loop-count.count). c.loop-count.invariant z j d inside early)
    (λ late.
    let now : j ≡ c.loop-count.count = omega (arith, here, late) in
    let there : j < length c.args.windows.now = omega (arith, now, c.loop-count-test.true) in
    ap (λ (w : Window). holds w.place z) (here_is c.args.windows.now j c.loop-count.count d _ now there) ∙ c.is_near.ensures c.if-is_near.false z inside)
    (cases_lt j c.loop-count.count)

pub returns-then-is_near-clause-off : goal.returns-then-is_near-clause-off
returns-then-is_near-clause-off c z inside = bare_until c.args.windows.now c.loop-count.count z (λ j d early. c.loop-count.invariant z j d inside early)

pub returns-clause-off : goal.returns-clause-off
returns-clause-off c z inside =
    bare_until c.args.windows.now (length c.args.windows.now) z (λ j d early. c.loop-count.invariant z j d inside (omega (arith, early, c.loop-count-test.false, c.loop-count.auto.count-end)))
