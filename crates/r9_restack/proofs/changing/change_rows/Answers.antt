use Rattle.std.proofs.Common.{◌≡◌, ◌∙◌, ℕ, ◌+◌, ◌-◌, ◌*◌, ◌<◌, ◌≤◌, ◌^◌, Option, true, sym, subst, ap, arith}
use Rattle.std.proofs.lemmas.Int.{ints}
use Rattle.r9_geom.specs.declared.Point.{Point}
use Rattle.r9_geom.specs.Geometry.{holds, strip}
use Rattle.r9_geom.proofs.GeometryLemmas.{bounds_of}
use Rattle.model_forest.specs.World.{image_at}
use Rattle.r9_plane.specs.Pixels.{along}
use Rattle.r9_plane.proofs.PlaneLemmas.{along_holds}
use Rattle.r9_locate.specs.locate.Forms.{bits_in, Form, HasBits}
use Rattle.r9_locate.specs.locate.Table.{shape}
use Rattle.r9_locate.proofs.locate.Locating.{along-along}
use Rattle.r9_shown.specs.Shown.{block, down}
use Rattle.r9_shown.proofs.Pieces.{block_part, first_row}
use Rattle.r9_restack.specs.Stacks.{after_of, IsRunAlong}
use Rattle.r9_restack.specs.Changing.{HasPlacesBut, IsChanged}
use Rattle.r9_restack.specs.Moving.{more_in, IsFreshIn}
use Rattle.r9_restack.proofs.Changes.{changed-same}
use Rattle.r9_restack.proofs.Parting.{nearby}
use Rattle.r9_restack.proofs.Blocked.{done_right, fresh_right}
use Rattle.r9_restack.proofs.Steady.{block_fewer, down_in}
use Rattle.r9_restack.proofs.changing.change_rows.Given.{Over}
use Rattle.r9_restack.proofs.changing.change_rows.Goals as goal
use Rattle.r9_restack.proofs.changing.change_rows.Goals.{After-last_run-last, After-run_of-first}

pub last_run-last-requires-clause-same : goal.last_run-last-requires-clause-same
last_run-last-requires-clause-same g c = c.run_of-first.ensures.same

-- the first block lies in the rows
first_in : (g : Over) (c : After-run_of-first g) (rows : ℕ) (z : Point) → rows ≤ c.run_of-first.result.extent.rows → holds (block c.args.at c.run_of-first.result.extent.columns rows) z ≡ true → holds (block c.args.at c.args.columns c.args.n) z ≡ true
first_in g c rows z few h =
    block_fewer c.args.at z c.run_of-first.result.extent.columns rows c.args.columns c.args.n (omega (arith, c.run_of-first.ensures.most, c.min.ensures)) (omega (arith, few, c.run_of-first.ensures.most_rows)) h

-- one block is all
pub change_block-requires-clause-columns : goal.change_block-requires-clause-columns
change_block-requires-clause-columns g c = omega (arith, c.run_of-first.ensures.most, c.min.ensures)

pub change_block-requires-clause-rows : goal.change_block-requires-clause-rows
change_block-requires-clause-rows g c = omega (arith, c.run_of-first.ensures.most_rows, c.requires.rows)

pub change_block-requires-clause-inside : goal.change_block-requires-clause-inside
change_block-requires-clause-inside g c z h =
    c.requires.inside z (first_in g (goal.at.change_block-requires-clause-inside g c).After-run_of-first c.run_of-first.result.extent.rows z (omega arith) h)

pub change_block-requires-clause-tops : goal.change_block-requires-clause-tops
change_block-requires-clause-tops g c z h =
    sym (c.requires.same z (first_in g (goal.at.change_block-requires-clause-tops g c).After-run_of-first c.run_of-first.result.extent.rows z (omega arith) h))
    ∙ c.run_of-first.ensures.same z h

pub returns-then-done-columns-clause-moved : goal.returns-then-done-columns-clause-moved
returns-then-done-columns-clause-moved g c before done fresh m =
    let rows = c.run_of-first.result.extent.rows in
    let now = (goal.at.returns-then-done-columns-clause-moved g c).After-run_of-first in
    subst (λ (n : ℕ). IsChanged (shape c.args.lists.now) c.args.p (after_of c.args.stacks.now) c.args.w (g.S.Source.given c.args.source.now) (g.S.Source.fill c.args.source.now) before (g.P.Pixels.kept c.change_block.new.pixels) (more_in (block c.args.at n rows) done)) c.if-done-columns.true
    (c.change_block.ensures.moved before done (λ z h. fresh z (first_in g now rows z (omega arith) h)) m)

pub returns-then-done-columns-clause-steps : goal.returns-then-done-columns-clause-steps
returns-then-done-columns-clause-steps g c =
    let all = ap (λ n. n * c.run_of-first.result.extent.rows) c.if-done-columns.true in
    omega (arith, c.change_block.ensures.steps, all)

-- and so do the blocks beside it
fits : (g : Over) (c : After-last_run-last g) → c.run_of-first.result.extent.columns + (c.args.columns - c.run_of-first.result.extent.columns) ≡ c.args.columns
fits g c = omega (arith, c.run_of-first.ensures.most, c.min.ensures)

rest_in : (g : Over) (c : After-last_run-last g) (z : Point) → holds (block (along c.args.at c.run_of-first.result.extent.columns) (c.args.columns - c.run_of-first.result.extent.columns) c.last_run-last.result.extent.rows) z ≡ true → holds (block c.args.at c.args.columns c.args.n) z ≡ true
rest_in g c z h =
    let done = c.run_of-first.result.extent.columns in
    let rows = c.last_run-last.result.extent.rows in
    block_fewer c.args.at z c.args.columns rows c.args.columns c.args.n (omega arith) (omega (arith, c.run_of-first.ensures.most_rows, c.last_run-last.ensures.most))
    (block_part c.args.at done (c.args.columns - done) c.args.columns rows z (omega (arith, fits g c)) h)

pub change_block-requires-2-clause-columns : goal.change_block-requires-2-clause-columns
change_block-requires-2-clause-columns g c = omega (arith, c.run_of-first.ensures.most, c.min.ensures)

pub change_block-requires-2-clause-rows : goal.change_block-requires-2-clause-rows
change_block-requires-2-clause-rows g c = omega (arith, c.run_of-first.ensures.most_rows, c.last_run-last.ensures.most, c.requires.rows)

pub change_block-requires-2-clause-inside : goal.change_block-requires-2-clause-inside
change_block-requires-2-clause-inside g c z h = c.requires.inside z (first_in g (goal.at.change_block-requires-2-clause-inside g c).After-run_of-first c.last_run-last.result.extent.rows z c.last_run-last.ensures.most h)

pub change_block-requires-2-clause-tops : goal.change_block-requires-2-clause-tops
change_block-requires-2-clause-tops g c z h =
    let extent = c.run_of-first.result.extent in
    sym (c.requires.same z (first_in g (goal.at.change_block-requires-2-clause-tops g c).After-run_of-first c.last_run-last.result.extent.rows z c.last_run-last.ensures.most h))
    ∙ c.run_of-first.ensures.same z (block_fewer c.args.at z extent.columns c.last_run-last.result.extent.rows extent.columns extent.rows (omega arith) c.last_run-last.ensures.most h)

-- the rows end at an edge that is near
pub change_band-requires-clause-start : goal.change_band-requires-clause-start
change_band-requires-clause-start g c =
    let at = c.args.at in
    let done = c.run_of-first.result.extent.columns in
    let r = (image_at (shape c.args.lists.now) c.args.p).r in
    let near = (nearby c.args.lists.now c.args.p c.requires.change.live).0 in
    let last = along at (done - 1) in
    let some = c.run_of-first.ensures.some in
    let short : done - 1 < c.args.columns = omega (arith, some, c.run_of-first.ensures.most, c.min.ensures, c.requires.some_columns) in
    let b = bounds_of r last (c.requires.inside last (first_row at c.args.columns c.args.n last c.requires.some (along_holds at c.args.columns (done - 1) short))) in
    let x = ap (λ (q : Point). q.x) c.along-rest.ensures in
    let y = ap (λ (q : Point). q.y) c.along-rest.ensures in
    record {
      left = omega (arith, ints, x, c.requires.start.left);
      right = omega (arith, ints, x, b.right, near.max.right, some);
      top = omega (arith, ints, y, c.requires.start.top);
      bottom = omega (arith, ints, y, c.requires.start.bottom);
    }

pub change_band-requires-clause-inside : goal.change_band-requires-clause-inside
change_band-requires-clause-inside g c z h =
    c.requires.inside z (rest_in g (goal.at.change_band-requires-clause-inside g c).After-last_run-last z (ap (λ p. holds (block p (c.args.columns - c.run_of-first.result.extent.columns) c.last_run-last.result.extent.rows) z) (sym c.along-rest.ensures) ∙ h))

pub change_band-requires-clause-same : goal.change_band-requires-clause-same
change_band-requires-clause-same g c z h =
    c.requires.same z (rest_in g (goal.at.change_band-requires-clause-same g c).After-last_run-last z (ap (λ p. holds (block p (c.args.columns - c.run_of-first.result.extent.columns) c.last_run-last.result.extent.rows) z) (sym c.along-rest.ensures) ∙ h))

pub change_band-requires-clause-tops : goal.change_band-requires-clause-tops
change_band-requires-clause-tops g c z k h below =
    let now = (goal.at.change_band-requires-clause-tops g c).After-last_run-last in
    let done = c.run_of-first.result.extent.columns in
    let left = c.args.columns - done in
    let rows = c.last_run-last.result.extent.rows in
    let there : holds (strip (along c.args.at done) left) z ≡ true = ap (λ p. holds (strip p left) z) (sym c.along-rest.ensures) ∙ h in
    let whole : holds (strip c.args.at c.args.columns) z ≡ true = block_part c.args.at done left c.args.columns 1 z (omega (arith, fits g now)) there in
    sym (c.requires.same (down z k) (rest_in g now (down z k) (down_in (along c.args.at done) z left rows k below there)))
    ∙ c.last_run-last.ensures.same z k whole below
    ∙ c.requires.same z (rest_in g now z (block_fewer (along c.args.at done) z left 1 left rows (omega arith) c.last_run-last.ensures.some_rows there))

-- the last run of the row is the last one of the rest
pub change_band-requires-clause-last : goal.change_band-requires-clause-last
change_band-requires-clause-last g c few =
    let now = (goal.at.change_band-requires-clause-last g c).After-last_run-last in
    let at = c.args.at in
    let done = c.run_of-first.result.extent.columns in
    let last = c.last_run-last.result in
    let left = c.args.columns - done - last.extent.columns in
    let start : done + left ≡ c.args.columns - last.extent.columns = omega (arith, few, fits g now) in
    let there : along c.along-rest.result left ≡ along at (c.args.columns - last.extent.columns) =
    ap (λ p. along p left) c.along-rest.ensures ∙ along-along at done left ∙ ap (along at) start in
    subst (λ (p : Point). IsRunAlong c.args.near.now p last) (sym there) c.last_run-last.ensures.tops

pub returns-clause-moved : goal.returns-clause-moved
returns-clause-moved g c before done fresh m =
    let now = (goal.at.returns-clause-moved g c).After-last_run-last in
    let at = c.args.at in
    let first = c.run_of-first.result.extent.columns in
    let left = c.args.columns - first in
    let rows = c.last_run-last.result.extent.rows in
    let ready : IsFreshIn (block at first rows) done = λ z h. fresh z (first_in g (goal.at.returns-clause-moved g c).After-run_of-first rows z c.last_run-last.ensures.most h) in
    let mid = c.change_block-2.ensures.moved before done ready m in
    let until = more_in (block at first rows) done in
    let fewer : IsFreshIn (block at c.args.columns rows) done = λ z h. fresh z (block_fewer at z c.args.columns rows c.args.columns c.args.n (omega arith) (omega (arith, c.run_of-first.ensures.most_rows, c.last_run-last.ensures.most)) h) in
    let next : IsFreshIn (block c.along-rest.result left rows) until = subst (λ (p : Point). IsFreshIn (block p left rows) until) (sym c.along-rest.ensures) (fresh_right at first left c.args.columns rows done (omega (arith, fits g now)) fewer) in
    changed-same (shape c.args.lists.now) c.args.p (after_of c.args.stacks.now) c.args.w (g.S.Source.given c.args.source.now) (g.S.Source.fill c.args.source.now) before (g.P.Pixels.kept c.change_band.new.pixels) (more_in (block c.along-rest.result left rows) until) (more_in (block at c.args.columns rows) done)
    (λ z. ap (λ n. more_in (block at n rows) done z) (sym (fits g now)) ∙ done_right at first left rows done z ∙ ap (λ p. more_in (block p left rows) until z) (sym c.along-rest.ensures))
    (c.change_band.ensures.moved before until next mid)

pub returns-clause-has : goal.returns-clause-has
returns-clause-has g c = c.change_band.ensures.has ∙ c.change_block-2.ensures.has

pub returns-clause-forms : goal.returns-clause-forms
returns-clause-forms g c = c.change_band.ensures.forms ∙ c.change_block-2.ensures.forms

pub returns-clause-spare : goal.returns-clause-spare
returns-clause-spare g c = c.change_band.ensures.spare ∙ c.change_block-2.ensures.spare

pub returns-clause-moment : goal.returns-clause-moment
returns-clause-moment g c = c.change_band.ensures.moment ∙ c.change_block-2.ensures.moment

pub returns-clause-writes : goal.returns-clause-writes
returns-clause-writes g c = omega (arith, c.change_band.ensures.writes, c.change_block-2.ensures.writes)

pub returns-clause-steps : goal.returns-clause-steps
returns-clause-steps g c =
    let now = (goal.at.returns-clause-steps g c).After-last_run-last in
    let first = c.run_of-first.result.extent.columns in
    let rows = c.last_run-last.result.extent.rows in
    let sum : c.args.columns * rows ≡ first * rows + (c.args.columns - first) * rows = ap (λ n. n * rows) (sym (fits g now)) ∙ grind arith in
    omega (arith, c.change_block-2.ensures.steps, c.change_band.ensures.steps, sum)

pub change_band-requires-clause-places : goal.change_band-requires-clause-places
change_band-requires-clause-places g c = subst (HasPlacesBut (shape c.args.lists.now) c.args.p (after_of c.args.stacks.now) c.args.w) (sym c.change_block-2.ensures.has) c.requires.places

pub change_band-requires-clause-bits : goal.change_band-requires-clause-bits
change_band-requires-clause-bits g c = subst (HasBits (shape c.args.lists.now)) (sym c.change_block-2.ensures.forms) c.requires.bits

pub change_band-requires-clause-given : goal.change_band-requires-clause-given
change_band-requires-clause-given g c stands x = subst (λ (forms : ℕ → Option Form). g.S.Source.given c.args.source.now x < 2 ^ bits_in forms c.args.p) (sym c.change_block-2.ensures.forms) (c.requires.given stands x)

pub change_band-requires-clause-fill : goal.change_band-requires-clause-fill
change_band-requires-clause-fill g c z = subst (λ (forms : ℕ → Option Form). g.S.Source.fill c.args.source.now z < 2 ^ bits_in forms c.args.p) (sym c.change_block-2.ensures.forms) (c.requires.fill z)
