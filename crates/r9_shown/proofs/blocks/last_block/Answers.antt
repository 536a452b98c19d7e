use Rattle.std.proofs.Common.{◌≡◌, ◌∙◌, ◌+◌, ◌-◌, ℕ, lit≤, true, refl, sym, subst, ap, arith, ⊎_elim, ◌^◌}
use Rattle.std.proofs.lemmas.Bool.{or_cases}
use Rattle.std.proofs.lemmas.Int.{ints}
use Rattle.r9_geom.specs.declared.Point.{Point}
use Rattle.r9_geom.specs.Geometry.{carried, holds, strip}
use Rattle.r9_geom.proofs.GeometryLemmas.{near_wider, same_point}
use Rattle.model_kept.specs.Keeping.{own}
use Rattle.r9_plane.specs.Pixels.{along}
use Rattle.r9_locate.specs.locate.Table.{shape}
use Rattle.r9_shown.specs.Blocks.{IsKeptFrom}
use Rattle.r9_shown.specs.Shown.{block}
use Rattle.r9_shown.proofs.Keepers.{block_within, kept_below, strip_within}
use Rattle.r9_shown.proofs.Pieces.{block_part, strip_split}
use Rattle.r9_shown.proofs.blocks.last_block.Goals as goal

pub loop-done-init : goal.loop-done-init
loop-done-init c =
    let w = shape c.args.lists.now in
    let at = c.args.at in
    let first = c.args.first.now in
    let n = first.extent.columns in
    let none : n - n ≡ 0 = omega arith in
    let here : along at (n - n) ≡ at = same_point (along at (n - n)) at (omega (arith, ints, none)) refl in
    record {
      some = c.requires.some;
      some_rows = c.requires.rows;
      most = omega arith;
      fits = omega arith;
      within = c.requires.fits;
      kept = subst (λ (q : Point). IsKeptFrom w c.args.i q first) (sym here) c.requires.kept;
      same = λ z k h below. kept_below w c.args.i first.image at first.at z n first.extent.rows k c.requires.kept h below;
    }

pub along-requires-clause-near : goal.along-requires-clause-near
along-requires-clause-near c = near_wider (2 ^ 40) (2 ^ 42) c.args.at (lit≤ tt) c.requires.near

pub block_of-last-requires-clause-inside : goal.block_of-last-requires-clause-inside
block_of-last-requires-clause-inside c p h =
    let few = c.args.columns - c.loop-done.done in
    let rows = c.loop-done.last.extent.rows in
    c.requires.inside p
    (block_within c.args.at p c.args.columns rows c.args.columns c.args.first.now.extent.rows (omega arith) c.loop-done.invariant.most
    (block_part c.args.at c.loop-done.done few c.args.columns rows p (omega (arith, c.loop-done-test.true)) (ap (λ s. holds (block s few rows) p) (sym c.along.ensures) ∙ h)))

pub loop-done-preserved : goal.loop-done-preserved
loop-done-preserved c =
    let w = shape c.args.lists.now in
    let i = c.args.i in
    let at = c.args.at in
    let done = c.loop-done.done in
    let found = c.block_of-last.result in
    let n = found.extent.columns in
    let rows = found.extent.rows in
    let kept : IsKeptFrom w i (along at done) found =
    λ p inside.
    c.block_of-last.ensures.kept p (ap (λ s. holds (block s n rows) p) c.along.ensures ∙ inside) ∙ ap (λ s. own found.image (carried p s found.at)) c.along.ensures in
    let is : done + n - n ≡ done = omega arith in
    record {
      some = c.block_of-last.ensures.some;
      some_rows = c.block_of-last.ensures.some_rows;
      most = omega (arith, c.block_of-last.ensures.most_rows, c.loop-done.invariant.most);
      fits = omega arith;
      within = omega (arith, c.block_of-last.ensures.most, c.loop-done-test.true);
      kept = subst (λ (m : ℕ). IsKeptFrom w i (along at m) found) (sym is) kept;
      same = λ z k h below.
          ⊎_elim
          (λ (late : holds (strip (along at done) n) z ≡ true). kept_below w i found.image (along at done) found.at z n rows k kept late below)
          (λ (early : holds (strip at done) z ≡ true). c.loop-done.invariant.same z k early (omega (arith, below, c.block_of-last.ensures.most_rows)))
          (or_cases (holds (strip (along at done) n) z) (holds (strip at done) z) (sym (strip_split at done n z) ∙ h));
    }

pub returns-clause-kept : goal.returns-clause-kept
returns-clause-kept c =
    let end : c.loop-done.done ≡ c.args.columns = omega (arith, c.loop-done-test.false, c.loop-done.invariant.within) in
    subst (λ (m : ℕ). IsKeptFrom (shape c.args.lists.now) c.args.i (along c.args.at (m - c.loop-done.last.extent.columns)) c.loop-done.last) end c.loop-done.invariant.kept

pub returns-clause-same : goal.returns-clause-same
returns-clause-same c z k h below =
    c.loop-done.invariant.same z k (strip_within c.args.at z c.args.columns c.loop-done.done (omega (arith, c.loop-done-test.false)) h) below
