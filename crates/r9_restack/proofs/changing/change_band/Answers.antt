use Rattle.std.proofs.Common.{◌≡◌, ◌∙◌, ℕ, ◌+◌, ◌-◌, ◌*◌, ◌<◌, ◌≤◌, ◌^◌, ◌||◌, Option, true, refl, sym, subst, ap, arith}
use Rattle.r9_geom.specs.declared.Point.{Point}
use Rattle.r9_geom.specs.Geometry.{holds, strip}
use Rattle.r9_geom.proofs.GeometryLemmas.{near_point}
use Rattle.r9_plane.specs.Pixels.{along}
use Rattle.r9_plane.proofs.PlaneLemmas.{along_holds}
use Rattle.model_forest.specs.World.{image_at}
use Rattle.r9_locate.specs.locate.Forms.{bits_in, Form, HasBits}
use Rattle.r9_locate.specs.locate.Table.{shape}
use Rattle.r9_restack.specs.Stacks.{after_of, tops_at}
use Rattle.r9_shown.specs.Shown.{block}
use Rattle.r9_shown.proofs.Pieces.{block_none, block_part, corner_in, first_row}
use Rattle.r9_restack.specs.Moving.{more_in, IsFreshIn}
use Rattle.r9_restack.specs.Changing.{IsChanged}
use Rattle.r9_restack.proofs.Changes.{changed-same}
use Rattle.r9_restack.proofs.Parting.{nearby}
use Rattle.r9_restack.proofs.Blocked.{done_right, fresh_right}
use Rattle.r9_restack.proofs.Steady.{steady_block}
use Rattle.r9_restack.proofs.changing.change_band.Goals as goal

pub loop-done-init : goal.loop-done-init
loop-done-init g c = record {
  within = omega arith;
  moved = λ before done fresh m. changed-same (shape c.args.lists.now) c.args.p (after_of c.args.stacks.now) c.args.w (g.S.Source.given c.args.source.now) (g.S.Source.fill c.args.source.now) before (g.P.Pixels.kept c.args.pixels.now) done (more_in (block c.args.at 0 c.args.rows) done) (λ z. ap (λ b. b || done z) (block_none c.args.at c.args.rows z)) m;
  has = refl;
  forms = refl;
  moment = refl;
  spare = refl;
  steps = omega arith;
  writes = refl;
}

pub change_block-requires-clause-near : goal.change_block-requires-clause-near
change_block-requires-clause-near g c =
    let r = (image_at (shape c.args.lists.now) c.args.p).r in
    let len = c.run_from-run.result.extent.columns in
    let q = c.along-q.result in
    let here = block_part c.args.at c.loop-done.done len c.args.columns c.args.rows q (omega (arith, c.run_from-run.ensures.most, c.loop-done-test.true))
    (ap (λ (p : Point). holds (block p len c.args.rows) q) (sym c.along-q.ensures) ∙ corner_in q len c.args.rows c.run_from-run.ensures.some c.requires.some) in
    near_point (2 ^ 40) r q (nearby c.args.lists.now c.args.p c.requires.change.live).0 (c.requires.inside q here)

pub change_block-requires-clause-columns : goal.change_block-requires-clause-columns
change_block-requires-clause-columns g c = omega (arith, c.run_from-run.ensures.short)

pub change_block-requires-clause-inside : goal.change_block-requires-clause-inside
change_block-requires-clause-inside g c z h =
    let len = c.run_from-run.result.extent.columns in
    c.requires.inside z (block_part c.args.at c.loop-done.done len c.args.columns c.args.rows z (omega (arith, c.run_from-run.ensures.most, c.loop-done-test.true)) (ap (λ p. holds (block p len c.args.rows) z) (sym c.along-q.ensures) ∙ h))

-- the last run begins where so many columns are left as it has
pub run_from-run-requires-clause-last : goal.run_from-run-requires-clause-last
run_from-run-requires-clause-last g c same z h =
    let n = c.args.last.now.extent.columns in
    let start : c.args.columns - n ≡ c.loop-done.done = omega (arith, same, c.loop-done-test.true) in
    c.requires.last (omega (arith, same)) z
    (ap (λ m. holds (strip (along c.args.at m) n) z) start ∙ ap (λ p. holds (strip p n) z) (sym c.along-q.ensures) ∙ h)

-- what is told of its row is told of all of the block
pub change_block-requires-clause-tops : goal.change_block-requires-clause-tops
change_block-requires-clause-tops g c =
    let run = c.run_from-run.result in
    let len = run.extent.columns in
    let q = c.along-q.result in
    let fits : c.loop-done.done + len ≤ c.args.columns = omega (arith, c.run_from-run.ensures.most, c.loop-done-test.true) in
    steady_block (tops_at c.args.stacks.now) c.args.at q c.loop-done.done len c.args.columns c.args.rows run.tops c.along-q.ensures fits c.requires.tops
    (λ k below.
    let z = along q k in
    let here : holds (strip q len) z ≡ true = along_holds q len k below in
    sym (c.requires.same z
    (block_part c.args.at c.loop-done.done len c.args.columns c.args.rows z fits
    (ap (λ p. holds (block p len c.args.rows) z) (sym c.along-q.ensures) ∙ first_row q len c.args.rows z c.requires.some here)))
    ∙ c.run_from-run.ensures.tops z here)

pub change_block-requires-clause-bits : goal.change_block-requires-clause-bits
change_block-requires-clause-bits g c = subst (HasBits (shape c.args.lists.now)) (sym c.loop-done.invariant.forms) c.requires.bits

pub change_block-requires-clause-given : goal.change_block-requires-clause-given
change_block-requires-clause-given g c stands x = subst (λ (forms : ℕ → Option Form). g.S.Source.given c.args.source.now x < 2 ^ bits_in forms c.args.p) (sym c.loop-done.invariant.forms) (c.requires.given stands x)

pub change_block-requires-clause-fill : goal.change_block-requires-clause-fill
change_block-requires-clause-fill g c z = subst (λ (forms : ℕ → Option Form). g.S.Source.fill c.args.source.now z < 2 ^ bits_in forms c.args.p) (sym c.loop-done.invariant.forms) (c.requires.fill z)

pub loop-done-preserved : goal.loop-done-preserved
loop-done-preserved g c =
    let at = c.args.at in
    let rows = c.args.rows in
    let done_so = c.loop-done.done in
    let len = c.run_from-run.result.extent.columns in
    let q = c.along-q.result in
    let fits : done_so + len ≤ c.args.columns = omega (arith, c.run_from-run.ensures.most, c.loop-done-test.true) in
    let more_steps : (done_so + len) * rows ≡ done_so * rows + len * rows = grind arith in
    record {
      within = fits;
      moved = λ before done fresh m.
          let so_far = c.loop-done.invariant.moved before done fresh m in
          let until = more_in (block at done_so rows) done in
          let ready : IsFreshIn (block q len rows) until = subst (λ (p : Point). IsFreshIn (block p len rows) until) (sym c.along-q.ensures) (fresh_right at done_so len c.args.columns rows done fits fresh) in
          changed-same (shape c.args.lists.now) c.args.p (after_of c.args.stacks.now) c.args.w (g.S.Source.given c.args.source.now) (g.S.Source.fill c.args.source.now) before (g.P.Pixels.kept c.change_block.new.pixels) (more_in (block q len rows) until) (more_in (block at (done_so + len) rows) done)
          (λ z. done_right at done_so len rows done z ∙ ap (λ p. more_in (block p len rows) until z) (sym c.along-q.ensures))
          (c.change_block.ensures.moved before until ready so_far);
      has = c.change_block.ensures.has ∙ c.loop-done.invariant.has;
      forms = c.change_block.ensures.forms ∙ c.loop-done.invariant.forms;
      moment = c.change_block.ensures.moment ∙ c.loop-done.invariant.moment;
      spare = c.change_block.ensures.spare ∙ c.loop-done.invariant.spare;
      steps = omega (arith, c.change_block.ensures.steps, c.loop-done.invariant.steps, more_steps);
      writes = omega (arith, c.change_block.ensures.writes, c.loop-done.invariant.writes);
    }

pub returns-clause-moved : goal.returns-clause-moved
returns-clause-moved g c before done fresh m =
    let end : c.loop-done.done ≡ c.args.columns = omega (arith, c.loop-done-test.false, c.loop-done.invariant.within) in
    subst (λ (n : ℕ). IsChanged (shape c.args.lists.now) c.args.p (after_of c.args.stacks.now) c.args.w (g.S.Source.given c.args.source.now) (g.S.Source.fill c.args.source.now) before (g.P.Pixels.kept c.loop-done.pixels) (more_in (block c.args.at n c.args.rows) done)) end (c.loop-done.invariant.moved before done fresh m)

pub returns-clause-steps : goal.returns-clause-steps
returns-clause-steps g c =
    let end : c.loop-done.done ≡ c.args.columns = omega (arith, c.loop-done-test.false, c.loop-done.invariant.within) in
    let all : c.loop-done.done * c.args.rows ≡ c.args.columns * c.args.rows = ap (λ n. n * c.args.rows) end in
    omega (arith, c.loop-done.invariant.steps, all)
