use Rattle.std.proofs.Common.{◌≡◌, ◌∙◌, ◌-◌, ◌<◌, length, ⊎_elim, refl, sym, ap, arith}
use Rattle.std.proofs.lemmas.Bool.{cases_lt}
use Rattle.r9_geom.specs.Geometry.{holds}
use Rattle.model_forest.specs.declared.Window.{Window}
use Rattle.model_forest.specs.World.{no_rect}
use Rattle.r9_locate.proofs.locate.Rowed.{here_is}
use Rattle.r9_shown.proofs.Above.{bare_of, covered_by}
use Rattle.r9_shown.proofs.Keepers.{block_within}
use Rattle.r9_shown.proofs.blocks.cover_over.Goals as goal

pub loop-left-preserved-then-may_reach : goal.loop-left-preserved-then-may_reach
loop-left-preserved-then-may_reach c =
    let now = c.loop-left.left - 1 in
    record {
      within = omega (arith, c.loop-left.invariant.within);
      some = c.cut_near-extent.ensures.some;
      some_rows = c.cut_near-extent.ensures.some_rows;
      few = omega (arith, c.cut_near-extent.ensures.most, c.loop-left.invariant.few);
      few_rows = omega (arith, c.cut_near-extent.ensures.most_rows, c.loop-left.invariant.few_rows);
      end = c.end_of-end-then-may_reach.ensures.columns;
      end_rows = c.end_of-end-then-may_reach.ensures.rows;
      clear = λ j d z from there inside.
          ⊎_elim
          (λ (late : now < j).
          c.loop-left.invariant.clear j d z (omega (arith, late)) there
          (block_within c.args.q z c.cut_near-extent.result.columns c.cut_near-extent.result.rows c.loop-left.extent.columns c.loop-left.extent.rows c.cut_near-extent.ensures.most c.cut_near-extent.ensures.most_rows inside))
          (λ early.
          let here : j ≡ now = omega (arith, early, from) in
          ap (λ (w : Window). holds w.place z) (here_is c.args.windows.now j now d _ here there)
          ∙ c.cut_near-extent.ensures.same z inside
          ∙ sym c.if-holds.ensures)
          (cases_lt now j);
    }

pub loop-left-preserved : goal.loop-left-preserved
loop-left-preserved c =
    let now = c.loop-left.left - 1 in
    record {
      within = omega (arith, c.loop-left.invariant.within);
      some = c.loop-left.invariant.some;
      some_rows = c.loop-left.invariant.some_rows;
      few = c.loop-left.invariant.few;
      few_rows = c.loop-left.invariant.few_rows;
      end = c.loop-left.invariant.end;
      end_rows = c.loop-left.invariant.end_rows;
      clear = λ j d z from there inside.
          ⊎_elim
          (λ (late : now < j). c.loop-left.invariant.clear j d z (omega (arith, late)) there inside)
          (λ early.
          let here : j ≡ now = omega (arith, early, from) in
          ap (λ (w : Window). holds w.place z) (here_is c.args.windows.now j now d _ here there) ∙ c.may_reach.ensures.off c.if-may_reach.false c.loop-left.extent.columns c.loop-left.extent.rows c.loop-left.invariant.end c.loop-left.invariant.end_rows z inside)
          (cases_lt now j);
    }

pub returns-clause-same : goal.returns-clause-same
returns-clause-same c z inside =
    bare_of c.args.windows.now z (λ j d lt. c.loop-left.invariant.clear j d z (omega (arith, c.loop-left-test.false)) lt inside)

pub returns-then-holds-clause-same : goal.returns-then-holds-clause-same
returns-then-holds-clause-same c z inside =
    let ws = c.args.windows.now in
    let now = c.loop-left.left - 1 in
    let d : Window = record { image = 0; place = no_rect } in
    let there : now < length ws = omega (arith, c.loop-left-test.true, c.loop-left.invariant.within) in
    covered_by ws now d z there
    (ap (λ (w : Window). holds w.place z) (here_is ws now now d _ refl there) ∙ c.cut_near.ensures.same z inside ∙ sym c.if-holds.ensures)
