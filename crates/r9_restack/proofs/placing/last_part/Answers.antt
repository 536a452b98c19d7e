use Rattle.std.proofs.Common.{◌≡◌, ◌∙◌, ◌+◌, ◌-◌, ℕ, refl, sym, subst, ap, arith}
use Rattle.std.proofs.lemmas.Int.{ints}
use Rattle.r9_geom.specs.declared.Point.{Point}
use Rattle.r9_geom.specs.Geometry.{holds, strip}
use Rattle.r9_geom.proofs.GeometryLemmas.{same_point}
use Rattle.r9_plane.specs.Pixels.{along}
use Rattle.r9_shown.proofs.Pieces.{first_row}
use Rattle.r9_restack.specs.Showing.{shown_at, IsPartAlong}
use Rattle.r9_restack.proofs.Steady.{block_fewer, steady_first, steady_more}
use Rattle.r9_restack.proofs.placing.last_part.Goals as goal

pub loop-done-init : goal.loop-done-init
loop-done-init c =
    let at = c.args.at in
    let first = c.args.first.now in
    let n = first.extent.columns in
    let none : n - n ≡ 0 = omega arith in
    let here : along at (n - n) ≡ at = same_point (along at (n - n)) at (omega (arith, ints, none)) refl in
    record {
      some = c.requires.some;
      some_rows = c.requires.rows;
      most = omega arith;
      fits = omega arith;
      within = c.requires.fits;
      shown = subst (λ (q : Point). IsPartAlong c.args.below.now c.args.area.now c.args.stacks.now c.args.w q first) (sym here) (λ z h. c.requires.same z (first_row at n first.extent.rows z c.requires.rows h));
      same = steady_first (shown_at c.args.below.now c.args.area.now c.args.stacks.now c.args.w) at n first.extent.rows first.shown c.requires.same;
    }

pub loop-done-preserved : goal.loop-done-preserved
loop-done-preserved c =
    let below = c.args.below.now in
    let area = c.args.area.now in
    let s = c.args.stacks.now in
    let w = c.args.w in
    let at = c.args.at in
    let done = c.loop-done.done in
    let found = c.part_of-last.result in
    let n = found.extent.columns in
    let rows = found.extent.rows in
    let shown : IsPartAlong below area s w (along at done) found =
    λ z h. c.part_of-last.ensures.same z (first_row c.along.result n rows z c.part_of-last.ensures.some_rows (ap (λ p. holds (strip p n) z) c.along.ensures ∙ h)) in
    let is : done + n - n ≡ done = omega arith in
    record {
      some = c.part_of-last.ensures.some;
      some_rows = c.part_of-last.ensures.some_rows;
      most = omega (arith, c.part_of-last.ensures.most_rows, c.loop-done.invariant.most);
      fits = omega arith;
      within = omega (arith, c.part_of-last.ensures.most, c.loop-done-test.true);
      shown = subst (λ (m : ℕ). IsPartAlong below area s w (along at m) found) (sym is) shown;
      same = steady_more (shown_at below area s w) at c.along.result done n c.loop-done.last.extent.rows rows found.shown c.along.ensures c.part_of-last.ensures.most_rows c.loop-done.invariant.same c.part_of-last.ensures.same;
    }

pub returns-clause-shown : goal.returns-clause-shown
returns-clause-shown c =
    let end : c.loop-done.done ≡ c.args.columns = omega (arith, c.loop-done-test.false, c.loop-done.invariant.within) in
    subst (λ (m : ℕ). IsPartAlong c.args.below.now c.args.area.now c.args.stacks.now c.args.w (along c.args.at (m - c.loop-done.last.extent.columns)) c.loop-done.last) end c.loop-done.invariant.shown

-- the row is a part of those that are done
pub returns-clause-same : goal.returns-clause-same
returns-clause-same c z k h below =
    c.loop-done.invariant.same z k (block_fewer c.args.at z c.args.columns 1 c.loop-done.done 1 (omega (arith, c.loop-done-test.false)) (omega arith) h) below
