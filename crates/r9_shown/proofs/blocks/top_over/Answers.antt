use Rattle.std.proofs.Common.{◌≡◌, ◌∙◌, ◌<◌, Some, length, ⊎_elim, refl, sym, ap, arith}
use Rattle.std.proofs.lemmas.Bool.{cases_lt}
use Rattle.r9_geom.specs.Geometry.{holds}
use Rattle.model_forest.specs.declared.Window.{Window}
use Rattle.model_forest.specs.World.{no_rect}
use Rattle.r9_locate.proofs.locate.Rowed.{here_is}
use Rattle.r9_shown.proofs.Above.{top_first, top_none}
use Rattle.r9_shown.proofs.Keepers.{block_within}
use Rattle.r9_shown.proofs.blocks.top_over.Goals as goal

pub loop-at-preserved-then-may_reach : goal.loop-at-preserved-then-may_reach
loop-at-preserved-then-may_reach c = record {
  some = c.cut_near-extent.ensures.some;
  some_rows = c.cut_near-extent.ensures.some_rows;
  most = omega (arith, c.cut_near-extent.ensures.most, c.loop-at.invariant.most);
  most_rows = omega (arith, c.cut_near-extent.ensures.most_rows, c.loop-at.invariant.most_rows);
  end = c.end_of-end-then-may_reach.ensures.columns;
  end_rows = c.end_of-end-then-may_reach.ensures.rows;
  none = λ z j d inside here.
      ⊎_elim
      (λ (early : j < c.loop-at.at).
      c.loop-at.invariant.none z j d
      (block_within c.args.q z c.cut_near-extent.result.columns c.cut_near-extent.result.rows c.loop-at.extent.columns c.loop-at.extent.rows c.cut_near-extent.ensures.most c.cut_near-extent.ensures.most_rows inside)
      early)
      (λ late.
      let now : j ≡ c.loop-at.at = omega (arith, here, late) in
      let there : j < length c.args.windows.now = omega (arith, now, c.loop-at-test.true) in
      ap (λ (w : Window). holds w.place z) (here_is c.args.windows.now j c.loop-at.at d _ now there)
      ∙ c.cut_near-extent.ensures.same z inside
      ∙ sym c.if-holds.ensures)
      (cases_lt j c.loop-at.at);
}

pub loop-at-preserved : goal.loop-at-preserved
loop-at-preserved c = record {
  some = c.loop-at.invariant.some;
  some_rows = c.loop-at.invariant.some_rows;
  most = c.loop-at.invariant.most;
  most_rows = c.loop-at.invariant.most_rows;
  end = c.loop-at.invariant.end;
  end_rows = c.loop-at.invariant.end_rows;
  none = λ z j d inside here.
      ⊎_elim
      (λ (early : j < c.loop-at.at). c.loop-at.invariant.none z j d inside early)
      (λ late.
      let now : j ≡ c.loop-at.at = omega (arith, here, late) in
      let there : j < length c.args.windows.now = omega (arith, now, c.loop-at-test.true) in
      ap (λ (w : Window). holds w.place z) (here_is c.args.windows.now j c.loop-at.at d _ now there)
      ∙ c.may_reach.ensures.off c.if-may_reach.false c.loop-at.extent.columns c.loop-at.extent.rows c.loop-at.invariant.end c.loop-at.invariant.end_rows z inside)
      (cases_lt j c.loop-at.at);
}

pub returns-clause-same : goal.returns-clause-same
returns-clause-same c z inside =
    top_none c.args.windows.now z
    (λ j d lt. c.loop-at.invariant.none z j d inside (omega (arith, lt, c.loop-at-test.false)))

pub returns-then-holds-clause-same : goal.returns-then-holds-clause-same
returns-then-holds-clause-same c z inside =
    let ws = c.args.windows.now in
    let i = c.loop-at.at in
    let d : Window = record { image = 0; place = no_rect } in
    top_first ws z i d c.loop-at-test.true
    (λ j early.
    c.loop-at.invariant.none z j d
    (block_within c.args.q z c.cut_near-extent.result.columns c.cut_near-extent.result.rows c.loop-at.extent.columns c.loop-at.extent.rows c.cut_near-extent.ensures.most c.cut_near-extent.ensures.most_rows inside)
    early)
    (ap (λ (w : Window). holds w.place z) (here_is ws i i d _ refl c.loop-at-test.true) ∙ c.cut_near-extent.ensures.same z inside ∙ sym c.if-holds.ensures)
    ∙ ap Some (here_is ws i i d _ refl c.loop-at-test.true)
