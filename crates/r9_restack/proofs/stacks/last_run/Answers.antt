use Rattle.std.proofs.Common.{◌≡◌, ◌∙◌, ◌+◌, ◌-◌, ℕ, refl, sym, subst, ap, arith}
use Rattle.std.proofs.lemmas.Int.{ints}
use Rattle.r9_geom.specs.declared.Point.{Point}
use Rattle.r9_geom.specs.Geometry.{holds, strip}
use Rattle.r9_geom.proofs.GeometryLemmas.{same_point}
use Rattle.r9_plane.specs.Pixels.{along}
use Rattle.r9_shown.proofs.Pieces.{first_row}
use Rattle.r9_restack.specs.Stacks.{tops_at, IsRunAlong}
use Rattle.r9_restack.proofs.Steady.{block_fewer, steady_first, steady_more}
use Rattle.r9_restack.proofs.stacks.last_run.Goals as goal

pub loop-done-init : goal.loop-done-init
loop-done-init c =
    let at = c.args.at in
    let first = c.args.first.now in
    let n = first.extent.columns in
    let none : n - n ≡ 0 = omega arith in
    let here : along at (n - n) ≡ at = same_point (along at (n - n)) at (omega (arith, ints, none)) refl in
    record {
      some = c.requires.some;
      some_rows = c.requires.rows;
      most = omega arith;
      fits = omega arith;
      within = c.requires.fits;
      tops = subst (λ (q : Point). IsRunAlong c.args.stacks.now q first) (sym here) (λ z h. c.requires.same z (first_row at n first.extent.rows z c.requires.rows h));
      same = steady_first (tops_at c.args.stacks.now) at n first.extent.rows first.tops c.requires.same;
    }

pub loop-done-preserved : goal.loop-done-preserved
loop-done-preserved c =
    let s = c.args.stacks.now in
    let at = c.args.at in
    let done = c.loop-done.done in
    let found = c.run_of-last.result in
    let n = found.extent.columns in
    let rows = found.extent.rows in
    let tops : IsRunAlong s (along at done) found =
    λ z h. c.run_of-last.ensures.same z (first_row c.along.result n rows z c.run_of-last.ensures.some_rows (ap (λ p. holds (strip p n) z) c.along.ensures ∙ h)) in
    let is : done + n - n ≡ done = omega arith in
    record {
      some = c.run_of-last.ensures.some;
      some_rows = c.run_of-last.ensures.some_rows;
      most = omega (arith, c.run_of-last.ensures.most_rows, c.loop-done.invariant.most);
      fits = omega arith;
      within = omega (arith, c.run_of-last.ensures.most, c.loop-done-test.true);
      tops = subst (λ (m : ℕ). IsRunAlong s (along at m) found) (sym is) tops;
      same = steady_more (tops_at s) at c.along.result done n c.loop-done.last.extent.rows rows found.tops c.along.ensures c.run_of-last.ensures.most_rows c.loop-done.invariant.same c.run_of-last.ensures.same;
    }

pub returns-clause-tops : goal.returns-clause-tops
returns-clause-tops c =
    let end : c.loop-done.done ≡ c.args.columns = omega (arith, c.loop-done-test.false, c.loop-done.invariant.within) in
    subst (λ (m : ℕ). IsRunAlong c.args.stacks.now (along c.args.at (m - c.loop-done.last.extent.columns)) c.loop-done.last) end c.loop-done.invariant.tops

-- the row is a part of those that are done
pub returns-clause-same : goal.returns-clause-same
returns-clause-same c z k h below =
    c.loop-done.invariant.same z k (block_fewer c.args.at z c.args.columns 1 c.loop-done.done 1 (omega (arith, c.loop-done-test.false)) (omega arith) h) below
