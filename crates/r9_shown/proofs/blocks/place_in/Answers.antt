use Rattle.std.proofs.Common.{◌≡◌, ◌∙◌, ◌<◌, ◌≤◌, length, sym, ap, arith, refl, eq-eqb, ⊎_elim}
use Rattle.std.specs.Prelude.{◌==◌}
use Rattle.std.proofs.lemmas.Bool.{cases_lt, ne_eqb}
use Rattle.model_forest.specs.declared.Window.{Window}
use Rattle.model_forest.specs.World.{no_rect}
use Rattle.r9_locate.proofs.locate.Rowed.{here_is}
use Rattle.r9_shown.proofs.Above.{first_at, first_nowhere}
use Rattle.r9_shown.proofs.blocks.place_in.Goals as goal

pub loop-at-preserved : goal.loop-at-preserved
loop-at-preserved c =
    record {
      within = omega (arith, c.loop-at-test.true, c.loop-at.invariant.within);
      off = λ k d before.
          ⊎_elim
          (λ (early : k < c.loop-at.at). c.loop-at.invariant.off k d early)
          (λ (late : c.loop-at.at ≤ k). c.is_among.ensures c.if-is_among.false k d late before)
          (cases_lt k c.loop-at.at);
    }

pub returns-then-windows-at-clause-first : goal.returns-then-windows-at-clause-first
returns-then-windows-at-clause-first c =
    let ws = c.args.windows.now in
    let at = c.loop-at-2.at in
    let d : Window = record { image = 0; place = no_rect } in
    let there : at < length ws = omega (arith, c.loop-at-2-test.true) in
    sym (first_at c.args.i ws at d there (ap (λ (w : Window). w.image == c.args.i) (here_is ws at at d _ refl there) ∙ eq-eqb _ _ c.if-windows-at.true) (λ k before. c.loop-at-2.invariant.off k d before))

pub loop-at-2-preserved : goal.loop-at-2-preserved
loop-at-2-preserved c =
    record {
      within = omega (arith, c.loop-at-2-test.true);
      off = λ k d before.
          ⊎_elim
          (λ (early : k < c.loop-at-2.at). c.loop-at-2.invariant.off k d early)
          (λ (late : c.loop-at-2.at ≤ k).
          let here : k ≡ c.loop-at-2.at = omega (arith, late, before) in
          ap (λ (w : Window). w.image == c.args.i) (here_is c.args.windows.now k c.loop-at-2.at d _ here (omega (arith, here, c.loop-at-2-test.true))) ∙ ne_eqb _ _ c.if-windows-at.false)
          (cases_lt k c.loop-at-2.at);
    }

pub returns-clause-first : goal.returns-clause-first
returns-clause-first c =
    let d : Window = record { image = 0; place = no_rect } in
    sym (first_nowhere c.args.i c.args.windows.now d (λ k before. c.loop-at-2.invariant.off k d (omega (arith, before, c.loop-at-2-test.false))))
