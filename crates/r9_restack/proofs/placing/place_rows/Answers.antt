use Rattle.std.proofs.Common.{◌≡◌, ◌∙◌, ℕ, ◌+◌, ◌-◌, ◌*◌, ◌<◌, ◌≤◌, ◌^◌, lit≤, Bool, Option, None, true, false, refl, sym, subst, ap, arith}
use Rattle.std.specs.Prelude.{◌||◌}
use Rattle.std.proofs.lemmas.Bool.{false_from_ne_true, true≢false}
use Rattle.std.proofs.lemmas.Int.{ints}
use Rattle.r9_geom.specs.declared.Point.{Point}
use Rattle.r9_geom.specs.Geometry.{carried, holds, strip, IsNear, IsRectNear}
use Rattle.r9_geom.proofs.GeometryLemmas.{bounds_of, near_wider, same_point}
use Rattle.r9_plane.specs.Pixels.{along}
use Rattle.model_forest.specs.World.{Image, image_at}
use Rattle.model_kept.specs.Keeping.{own}
use Rattle.model_kept.specs.Restack.{with_own}
use Rattle.r9_locate.specs.locate.Forms.{bits_in, Form, HasBits}
use Rattle.r9_locate.specs.locate.Table.{shape}
use Rattle.r9_locate.proofs.locate.Locating.{along-along}
use Rattle.r9_shown.specs.Shown.{block, down}
use Rattle.r9_shown.proofs.Pieces.{block_part, block_split, corner_in}
use Rattle.r9_restack.specs.Changing.{HasPlacesBut}
use Rattle.r9_restack.specs.Placing.{comes, shows, with_coming, IsComing, IsPlaced}
use Rattle.r9_restack.specs.Showing.{shown_at}
use Rattle.r9_restack.specs.Stacks.{after_of}
use Rattle.r9_restack.proofs.Blocked.{block_carried}
use Rattle.r9_restack.proofs.Carrying.{near_block}
use Rattle.r9_restack.proofs.Changes.{changed-same}
use Rattle.r9_restack.proofs.Orders.{or_cases}
use Rattle.r9_restack.proofs.Placed.{coming_part, coming_two}
use Rattle.r9_restack.proofs.Showing.{shown_none, shown_same, unshown}
use Rattle.r9_restack.proofs.Steady.{block_fewer, down_in}
use Rattle.r9_restack.proofs.placing.place_rows.Given.{Over}
use Rattle.r9_restack.proofs.placing.place_rows.Goals as goal
use Rattle.r9_restack.proofs.placing.place_rows.Goals.{After-last_part-last, After-part_of-first}

-- the rectangle of the image below
below_is : (g : Over) (c : After-part_of-first g) → (image_at (shape c.args.lists.now) c.args.p).r ≡ c.get.result.now.r
below_is g c = ap (λ (im : Image). im.r) c.get.ensures

-- the first block lies in the rows, and so do those beside it
first_in : (g : Over) (c : After-part_of-first g) (rows : ℕ) (at z : Point) → rows ≤ c.part_of-first.result.extent.rows → holds (block at c.part_of-first.result.extent.columns rows) z ≡ true → holds (block at c.args.columns c.args.n) z ≡ true
first_in g c rows at z few h =
    block_fewer at z c.part_of-first.result.extent.columns rows c.args.columns c.args.n (omega (arith, c.part_of-first.ensures.most, c.min.ensures)) (omega (arith, few, c.part_of-first.ensures.most_rows)) h

fits : (g : Over) (c : After-last_part-last g) → c.part_of-first.result.extent.columns + (c.args.columns - c.part_of-first.result.extent.columns) ≡ c.args.columns
fits g c = omega (arith, c.part_of-first.ensures.most, c.min.ensures)

rows_fit : (g : Over) (c : After-last_part-last g) → c.last_part-last.result.extent.rows ≤ c.args.n
rows_fit g c = omega (arith, c.part_of-first.ensures.most_rows, c.last_part-last.ensures.most)

along-none : (x : Point) → along x 0 ≡ x
along-none x = same_point (along x 0) x (omega (arith, ints)) refl

rest_in : (g : Over) (c : After-last_part-last g) (at z : Point) → holds (block (along at c.part_of-first.result.extent.columns) (c.args.columns - c.part_of-first.result.extent.columns) c.last_part-last.result.extent.rows) z ≡ true → holds (block at c.args.columns c.args.n) z ≡ true
rest_in g c at z h =
    let done = c.part_of-first.result.extent.columns in
    let rows = c.last_part-last.result.extent.rows in
    block_fewer at z c.args.columns rows c.args.columns c.args.n (omega arith) (omega (arith, c.part_of-first.ensures.most_rows, c.last_part-last.ensures.most))
    (block_part at done (c.args.columns - done) c.args.columns rows z (omega (arith, fits g c)) h)

-- the same shows there of both lists
alike : (g : Over) (c : After-part_of-first g) (z : Point) → holds (block c.args.q c.args.columns c.args.n) z ≡ true → shown_at (image_at (shape c.args.lists.now) c.args.p).r c.args.area.now c.args.stacks.now c.args.w z ≡ shown_at c.get.result.now.r c.args.area.now c.args.near.now c.args.w z
alike g c z h =
    ap (λ r. shown_at r c.args.area.now c.args.stacks.now c.args.w z) (below_is g c)
    ∙ shown_same c.get.result.now.r c.args.area.now c.args.stacks.now c.args.near.now c.args.w z c.requires.stacks.apart c.requires.apart (sym (c.requires.same z h))

first_shown : (g : Over) (c : After-part_of-first g) (rows : ℕ) (z : Point) → rows ≤ c.part_of-first.result.extent.rows → holds (block c.args.q c.part_of-first.result.extent.columns rows) z ≡ true → shown_at (image_at (shape c.args.lists.now) c.args.p).r c.args.area.now c.args.stacks.now c.args.w z ≡ c.part_of-first.result.shown
first_shown g c rows z few h =
    let extent = c.part_of-first.result.extent in
    alike g c z (first_in g c rows c.args.q z few h)
    ∙ c.part_of-first.ensures.same z (block_fewer c.args.q z extent.columns rows extent.columns extent.rows (omega arith) few h)

-- the block of the window stands at that of the image below
there : (g : Over) (c : After-part_of-first g) (z : Point) (columns rows : ℕ) → holds (block c.args.q columns rows) (carried z c.args.x c.args.q) ≡ holds (block c.args.x columns rows) z
there g c z columns rows = block_carried c.args.x c.args.q c.args.x c.args.q z columns rows (same_point c.args.q (carried c.args.x c.args.x c.args.q) (omega (arith, ints)) (omega (arith, ints)))

-- one block is all
pub place_block-requires-clause-near : goal.place_block-requires-clause-near
place_block-requires-clause-near g c =
    let done = c.part_of-first.result.extent.columns in
    let rows = c.part_of-first.result.extent.rows in
    subst (λ p. IsRectNear (block p done rows)) (along-none c.args.x)
    (near_block c.args.x 0 done c.args.columns rows c.args.n (omega (arith, c.part_of-first.ensures.most, c.min.ensures)) (omega (arith, c.part_of-first.ensures.most_rows)) c.requires.near)

pub place_block-requires-clause-columns : goal.place_block-requires-clause-columns
place_block-requires-clause-columns g c = omega (arith, c.part_of-first.ensures.most, c.min.ensures)

pub place_block-requires-clause-rows : goal.place_block-requires-clause-rows
place_block-requires-clause-rows g c = omega (arith, c.part_of-first.ensures.most_rows, c.requires.rows)

pub place_block-requires-clause-shown : goal.place_block-requires-clause-shown
place_block-requires-clause-shown g c z h = first_shown g (goal.at.place_block-requires-clause-shown g c).After-part_of-first c.part_of-first.result.extent.rows z (omega arith) h

pub place_block-requires-clause-own : goal.place_block-requires-clause-own
place_block-requires-clause-own g c hid z h =
    let now = (goal.at.place_block-requires-clause-own g c).After-part_of-first in
    let extent = c.part_of-first.result.extent in
    let y = carried z c.args.x c.args.q in
    c.requires.own z (first_in g now extent.rows c.args.x z (omega arith) h)
    (unshown (image_at (shape c.args.lists.now) c.args.p).r c.args.area.now c.args.stacks.now c.args.w y
    (first_shown g now extent.rows y (omega arith) (there g now z extent.columns extent.rows ∙ h) ∙ hid))

pub returns-then-done-columns-clause-moved : goal.returns-then-done-columns-clause-moved
returns-then-done-columns-clause-moved g c before done coming m =
    let now = (goal.at.returns-then-done-columns-clause-moved g c).After-part_of-first in
    let world = shape c.args.lists.now in
    let new = after_of c.args.stacks.now in
    let rows = c.part_of-first.result.extent.rows in
    let comings = comes (image_at world c.args.p).r c.args.area.now new c.args.w in
    subst (λ (n : ℕ). IsPlaced world c.args.p new c.args.w (g.S.Source.given c.args.source.now) (g.S.Source.fill c.args.source.now) before (g.P.Pixels.kept c.place_block.new.pixels) (with_coming (block c.args.q n rows) comings done)) c.if-done-columns.true
    (c.place_block.ensures.moved before done (λ z h seen. coming z (first_in g now rows c.args.q z (omega arith) h) seen) m)

pub returns-then-done-columns-clause-kept : goal.returns-then-done-columns-clause-kept
returns-then-done-columns-clause-kept g c z h hid =
    let now = (goal.at.returns-then-done-columns-clause-kept g c).After-part_of-first in
    let below = (image_at (shape c.args.lists.now) c.args.p).r in
    let extent = c.part_of-first.result.extent in
    let y = carried z c.args.x c.args.q in
    let here : holds (block c.args.x extent.columns extent.rows) z ≡ true = ap (λ n. holds (block c.args.x n extent.rows) z) c.if-done-columns.true ∙ h in
    let none : c.part_of-first.result.shown ≡ None = sym (first_shown g now extent.rows y (omega arith) (there g now z extent.columns extent.rows ∙ here)) ∙ shown_none below c.args.area.now c.args.stacks.now c.args.w y hid in
    c.place_block.ensures.kept none z here

pub returns-then-done-columns-clause-others : goal.returns-then-done-columns-clause-others
returns-then-done-columns-clause-others g c z away =
    c.place_block.ensures.others z (ap (λ n. holds (block c.args.x n c.part_of-first.result.extent.rows) z) c.if-done-columns.true ∙ away)

pub returns-then-done-columns-clause-steps : goal.returns-then-done-columns-clause-steps
returns-then-done-columns-clause-steps g c =
    let all = ap (λ n. n * c.part_of-first.result.extent.rows) c.if-done-columns.true in
    omega (arith, c.place_block.ensures.steps, all)

pub part_of-first-requires-clause-apart : goal.part_of-first-requires-clause-apart
part_of-first-requires-clause-apart g c = c.requires.apart

pub last_part-last-requires-clause-near : goal.last_part-last-requires-clause-near
last_part-last-requires-clause-near g c = c.requires.stands c.args.q (corner_in c.args.q c.args.columns c.args.n c.requires.some_columns c.requires.some)

pub along-requires-2-clause-near : goal.along-requires-2-clause-near
along-requires-2-clause-near g c =
    near_wider (2 ^ 40) (2 ^ 42) c.args.q (lit≤ tt) (c.requires.stands c.args.q (corner_in c.args.q c.args.columns c.args.n c.requires.some_columns c.requires.some))

pub last_part-last-requires-clause-apart : goal.last_part-last-requires-clause-apart
last_part-last-requires-clause-apart g c = c.requires.apart

pub last_part-last-requires-clause-same : goal.last_part-last-requires-clause-same
last_part-last-requires-clause-same g c = c.part_of-first.ensures.same

pub place_block-requires-2-clause-near : goal.place_block-requires-2-clause-near
place_block-requires-2-clause-near g c =
    let now = (goal.at.place_block-requires-2-clause-near g c).After-last_part-last in
    let done = c.part_of-first.result.extent.columns in
    let rows = c.last_part-last.result.extent.rows in
    subst (λ p. IsRectNear (block p done rows)) (along-none c.args.x)
    (near_block c.args.x 0 done c.args.columns rows c.args.n (omega (arith, fits g now)) (rows_fit g now) c.requires.near)

pub place_block-requires-2-clause-columns : goal.place_block-requires-2-clause-columns
place_block-requires-2-clause-columns g c = omega (arith, c.part_of-first.ensures.most, c.min.ensures)

pub place_block-requires-2-clause-rows : goal.place_block-requires-2-clause-rows
place_block-requires-2-clause-rows g c = omega (arith, c.part_of-first.ensures.most_rows, c.last_part-last.ensures.most, c.requires.rows)

pub place_block-requires-2-clause-shown : goal.place_block-requires-2-clause-shown
place_block-requires-2-clause-shown g c z h = first_shown g (goal.at.place_block-requires-2-clause-shown g c).After-part_of-first c.last_part-last.result.extent.rows z c.last_part-last.ensures.most h

pub place_block-requires-2-clause-own : goal.place_block-requires-2-clause-own
place_block-requires-2-clause-own g c hid z h =
    let now = (goal.at.place_block-requires-2-clause-own g c).After-part_of-first in
    let y = carried z c.args.x c.args.q in
    let rows = c.last_part-last.result.extent.rows in
    c.requires.own z (first_in g now rows c.args.x z c.last_part-last.ensures.most h)
    (unshown (image_at (shape c.args.lists.now) c.args.p).r c.args.area.now c.args.stacks.now c.args.w y
    (first_shown g now rows y c.last_part-last.ensures.most (there g now z c.part_of-first.result.extent.columns rows ∙ h) ∙ hid))

pub place_band-requires-clause-near : goal.place_band-requires-clause-near
place_band-requires-clause-near g c =
    let now = (goal.at.place_band-requires-clause-near g c).After-last_part-last in
    let done = c.part_of-first.result.extent.columns in
    let left = c.args.columns - done in
    let rows = c.last_part-last.result.extent.rows in
    subst (λ p. IsRectNear (block p left rows)) (sym c.along.ensures)
    (near_block c.args.x done left c.args.columns rows c.args.n (omega (arith, fits g now)) (rows_fit g now) c.requires.near)

pub place_band-requires-clause-q_near : goal.place_band-requires-clause-q_near
place_band-requires-clause-q_near g c more =
    let now = (goal.at.place_band-requires-clause-q_near g c).After-last_part-last in
    let done = c.part_of-first.result.extent.columns in
    let at = along c.args.q done in
    subst IsNear (sym c.along-2.ensures) (c.requires.stands at (rest_in g now c.args.q at (corner_in at (c.args.columns - done) c.last_part-last.result.extent.rows more c.last_part-last.ensures.some_rows)))

pub place_band-requires-clause-same : goal.place_band-requires-clause-same
place_band-requires-clause-same g c z h =
    let now = (goal.at.place_band-requires-clause-same g c).After-last_part-last in
    c.requires.same z (rest_in g now c.args.q z (ap (λ p. holds (block p (c.args.columns - c.part_of-first.result.extent.columns) c.last_part-last.result.extent.rows) z) (sym c.along-2.ensures) ∙ h))

pub place_band-requires-clause-shown : goal.place_band-requires-clause-shown
place_band-requires-clause-shown g c z k h below =
    let now = (goal.at.place_band-requires-clause-shown g c).After-last_part-last in
    let early = (goal.at.place_band-requires-clause-shown g c).After-part_of-first in
    let done = c.part_of-first.result.extent.columns in
    let left = c.args.columns - done in
    let rows = c.last_part-last.result.extent.rows in
    let next : holds (strip (along c.args.q done) left) z ≡ true = ap (λ p. holds (strip p left) z) (sym c.along-2.ensures) ∙ h in
    let whole : holds (strip c.args.q c.args.columns) z ≡ true = block_part c.args.q done left c.args.columns 1 z (omega (arith, fits g now)) next in
    alike g early (down z k) (rest_in g now c.args.q (down z k) (down_in (along c.args.q done) z left rows k below next))
    ∙ c.last_part-last.ensures.same z k whole below
    ∙ sym (alike g early z (rest_in g now c.args.q z (block_fewer (along c.args.q done) z left 1 left rows (omega arith) c.last_part-last.ensures.some_rows next)))

-- the last part of the row is the last one of the rest
pub place_band-requires-clause-last : goal.place_band-requires-clause-last
place_band-requires-clause-last g c few z h =
    let now = (goal.at.place_band-requires-clause-last g c).After-last_part-last in
    let q = c.args.q in
    let done = c.part_of-first.result.extent.columns in
    let n = c.last_part-last.result.extent.columns in
    let left = c.args.columns - done - n in
    let start : done + left ≡ c.args.columns - n = omega (arith, few, fits g now) in
    let there : along c.along-2.result left ≡ along q (c.args.columns - n) =
    ap (λ p. along p left) c.along-2.ensures ∙ along-along q done left ∙ ap (along q) start in
    ap (λ r. shown_at r c.args.area.now c.args.near.now c.args.w z) (below_is g (goal.at.place_band-requires-clause-last g c).After-part_of-first)
    ∙ c.last_part-last.ensures.shown z (ap (λ p. holds (strip p n) z) (sym there) ∙ h)

-- a point of the rest stands where that of the rows does
stands_rest : (x q z : Point) (d : ℕ) (x_d q_d : Point) → x_d ≡ along x d → q_d ≡ along q d → carried z x_d q_d ≡ carried z x q
stands_rest x q z d x_d q_d x_is q_is =
    (λ j. carried z (x_is j) (q_is j)) ∙ same_point (carried z (along x d) (along q d)) (carried z x q) (omega (arith, ints)) (omega (arith, ints))

pub place_band-requires-clause-own : goal.place_band-requires-clause-own
place_band-requires-clause-own g c z h hid =
    let now = (goal.at.place_band-requires-clause-own g c).After-last_part-last in
    let done = c.part_of-first.result.extent.columns in
    let x = c.args.x in
    let q = c.args.q in
    ap (λ h. h (own c.args.w z)) c.place_block-2.ensures.has
    ∙ c.requires.own z (rest_in g now x z (ap (λ p. holds (block p (c.args.columns - done) c.last_part-last.result.extent.rows) z) (sym c.along.ensures) ∙ h))
    (ap (shows (image_at (shape c.args.lists.now) c.args.p).r (after_of c.args.stacks.now) c.args.w) (sym (stands_rest x q z done c.along.result c.along-2.result c.along.ensures c.along-2.ensures)) ∙ hid)

pub returns-clause-moved : goal.returns-clause-moved
returns-clause-moved g c before done coming m =
    let now = (goal.at.returns-clause-moved g c).After-last_part-last in
    let world = shape c.args.lists.now in
    let new = after_of c.args.stacks.now in
    let w = c.args.w in
    let q = c.args.q in
    let first = c.part_of-first.result.extent.columns in
    let left = c.args.columns - first in
    let rows = c.last_part-last.result.extent.rows in
    let comings = comes (image_at world c.args.p).r c.args.area.now new w in
    let kept = g.P.Pixels.kept c.place_band.new.pixels in
    let ready : IsComing (block q first rows) comings done = λ z h seen. coming z (first_in g (goal.at.returns-clause-moved g c).After-part_of-first rows q z c.last_part-last.ensures.most h) seen in
    let mid = c.place_block-2.ensures.moved before done ready m in
    let until = with_coming (block q first rows) comings done in
    let fewer : IsComing (block q c.args.columns rows) comings done = λ z h seen. coming z (block_fewer q z c.args.columns rows c.args.columns c.args.n (omega arith) (rows_fit g now) h) seen in
    let next : IsComing (block c.along-2.result left rows) comings until =
    subst (λ (p : Point). IsComing (block p left rows) comings until) (sym c.along-2.ensures) (coming_part q first left c.args.columns rows comings done (omega (arith, fits g now)) fewer) in
    changed-same world c.args.p new w (g.S.Source.given c.args.source.now) (g.S.Source.fill c.args.source.now) (with_own w (λ y. kept (own w y)) before) kept (with_coming (block c.along-2.result left rows) comings until) (with_coming (block q c.args.columns rows) comings done)
    (λ z. ap (λ n. with_coming (block q n rows) comings done z) (sym (fits g now)) ∙ coming_two q first left rows comings done z ∙ ap (λ p. with_coming (block p left rows) comings until z) (sym c.along-2.ensures))
    (c.place_band.ensures.moved before until next mid)

-- the rows are those of the first block, and the rest
rows_split : (g : Over) (c : After-last_part-last g) (z : Point) → holds (block c.args.x c.args.columns c.last_part-last.result.extent.rows) z ≡ (holds (block (along c.args.x c.part_of-first.result.extent.columns) (c.args.columns - c.part_of-first.result.extent.columns) c.last_part-last.result.extent.rows) z || holds (block c.args.x c.part_of-first.result.extent.columns c.last_part-last.result.extent.rows) z)
rows_split g c z =
    let first = c.part_of-first.result.extent.columns in
    let rows = c.last_part-last.result.extent.rows in
    ap (λ n. holds (block c.args.x n rows) z) (sym (fits g c)) ∙ block_split c.args.x first (c.args.columns - first) rows z

not_after : (at z : Point) (d n m : ℕ) → holds (block at d m) z ≡ true → holds (block (along at d) n m) z ≡ false
not_after at z d n m early =
    false_from_ne_true (holds (block (along at d) n m) z)
    (λ late.
    let a = bounds_of (block at d m) z early in
    let b = bounds_of (block (along at d) n m) z late in
    absurd (omega (arith, ints, a.right, b.left)))

or_none : (a b : Bool) → (a || b) ≡ false → (a ≡ false) × (b ≡ false)
or_none true b e = absurd (true≢false e)
or_none false b e = (refl, e)

pub returns-clause-kept : goal.returns-clause-kept
returns-clause-kept g c z h hid =
    let now = (goal.at.returns-clause-kept g c).After-last_part-last in
    let mid = (goal.at.returns-clause-kept g c).After-part_of-first in
    let below = (image_at (shape c.args.lists.now) c.args.p).r in
    let new = after_of c.args.stacks.now in
    let w = c.args.w in
    let x = c.args.x in
    let q = c.args.q in
    let first = c.part_of-first.result.extent.columns in
    let left = c.args.columns - first in
    let rows = c.last_part-last.result.extent.rows in
    or_cases (holds (block (along x first) left rows) z) (holds (block x first rows) z) (sym (rows_split g now z) ∙ h)
    (λ late.
    c.place_band.ensures.kept z (ap (λ p. holds (block p left rows) z) c.along.ensures ∙ late)
    (ap (shows below new w) (stands_rest x q z first c.along.result c.along-2.result c.along.ensures c.along-2.ensures) ∙ hid))
    (λ early.
    let y = carried z x q in
    let none : c.part_of-first.result.shown ≡ None = sym (first_shown g mid rows y c.last_part-last.ensures.most (there g mid z first rows ∙ early)) ∙ shown_none below c.args.area.now c.args.stacks.now w y hid in
    c.place_band.ensures.others z (ap (λ p. holds (block p left rows) z) c.along.ensures ∙ not_after x z first left rows early)
    ∙ c.place_block-2.ensures.kept none z early)

pub returns-clause-others : goal.returns-clause-others
returns-clause-others g c z away =
    let now = (goal.at.returns-clause-others g c).After-last_part-last in
    let first = c.part_of-first.result.extent.columns in
    let left = c.args.columns - first in
    let rows = c.last_part-last.result.extent.rows in
    let none = or_none (holds (block (along c.args.x first) left rows) z) (holds (block c.args.x first rows) z) (sym (rows_split g now z) ∙ away) in
    c.place_band.ensures.others z (ap (λ p. holds (block p left rows) z) c.along.ensures ∙ none.0)
    ∙ c.place_block-2.ensures.others z none.1

pub returns-clause-has : goal.returns-clause-has
returns-clause-has g c = c.place_band.ensures.has ∙ c.place_block-2.ensures.has

pub returns-clause-forms : goal.returns-clause-forms
returns-clause-forms g c = c.place_band.ensures.forms ∙ c.place_block-2.ensures.forms

pub returns-clause-spare : goal.returns-clause-spare
returns-clause-spare g c = c.place_band.ensures.spare ∙ c.place_block-2.ensures.spare

pub returns-clause-moment : goal.returns-clause-moment
returns-clause-moment g c = c.place_band.ensures.moment ∙ c.place_block-2.ensures.moment

pub returns-clause-writes : goal.returns-clause-writes
returns-clause-writes g c = omega (arith, c.place_band.ensures.writes, c.place_block-2.ensures.writes)

pub returns-clause-steps : goal.returns-clause-steps
returns-clause-steps g c =
    let now = (goal.at.returns-clause-steps g c).After-last_part-last in
    let first = c.part_of-first.result.extent.columns in
    let rows = c.last_part-last.result.extent.rows in
    let sum : c.args.columns * rows ≡ first * rows + (c.args.columns - first) * rows = ap (λ n. n * rows) (sym (fits g now)) ∙ grind arith in
    omega (arith, c.place_block-2.ensures.steps, c.place_band.ensures.steps, sum)

pub place_band-requires-clause-places : goal.place_band-requires-clause-places
place_band-requires-clause-places g c = subst (HasPlacesBut (shape c.args.lists.now) c.args.p (after_of c.args.stacks.now) c.args.w) (sym c.place_block-2.ensures.has) c.requires.places

pub place_band-requires-clause-bits : goal.place_band-requires-clause-bits
place_band-requires-clause-bits g c = subst (HasBits (shape c.args.lists.now)) (sym c.place_block-2.ensures.forms) c.requires.bits

pub place_band-requires-clause-given : goal.place_band-requires-clause-given
place_band-requires-clause-given g c z = subst (λ (forms : ℕ → Option Form). g.S.Source.given c.args.source.now z < 2 ^ bits_in forms c.args.p) (sym c.place_block-2.ensures.forms) (c.requires.given z)

pub place_band-requires-clause-fill : goal.place_band-requires-clause-fill
place_band-requires-clause-fill g c z = subst (λ (forms : ℕ → Option Form). g.S.Source.fill c.args.source.now z < 2 ^ bits_in forms c.args.p) (sym c.place_block-2.ensures.forms) (c.requires.fill z)
