use Rattle.std.proofs.Common.{◌≡◌, ◌∙◌, ◌-◌, ◌<◌, ⊎_elim, ap, arith}
use Rattle.std.proofs.lemmas.Bool.{cases_lt}
use Rattle.r9_geom.specs.Geometry.{holds}
use Rattle.model_forest.specs.declared.Window.{Window}
use Rattle.r9_locate.proofs.locate.Rowed.{here_is}
use Rattle.r9_restack.proofs.Stacked.{bare_from}
use Rattle.r9_restack.proofs.stacks.count_near.Goals as goal

pub loop-count-init : goal.loop-count-init
loop-count-init c = record { within = omega arith; none = λ z j d inside from there. absurd (omega (arith, from, there)) }

pub loop-count-preserved : goal.loop-count-preserved
loop-count-preserved c =
    let now = c.loop-count.count - 1 in
    record {
      within = omega (arith, c.loop-count.invariant.within);
      none = λ z j d inside from there.
          ⊎_elim
          (λ (late : now < j). c.loop-count.invariant.none z j d inside (omega (arith, late)) there)
          (λ early.
          let here : j ≡ now = omega (arith, early, from) in
          ap (λ (w : Window). holds w.place z) (here_is c.args.windows.now j now d _ here there) ∙ c.is_near.ensures c.if-is_near.false z inside)
          (cases_lt now j);
    }

pub returns-then-is_near-clause-off : goal.returns-then-is_near-clause-off
returns-then-is_near-clause-off c z inside = bare_from c.args.windows.now c.loop-count.count z (λ j d from there. c.loop-count.invariant.none z j d inside from there)

pub returns-clause-off : goal.returns-clause-off
returns-clause-off c z inside = bare_from c.args.windows.now 0 z (λ j d from there. c.loop-count.invariant.none z j d inside (omega (arith, c.loop-count-test.false)) there)
