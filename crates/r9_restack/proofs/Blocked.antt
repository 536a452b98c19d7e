-- The points of blocks that are done, row by row, beside each other and below each other.
use Rattle.std.proofs.Common.{◌≡◌, ◌∙◌, ℕ, zero, suc, ◌+◌, ◌<◌, ◌≤◌, ◌+ℤ◌, Bool, pos, true, false, List, refl, sym, ap, arith}
use Rattle.std.specs.Prelude.{◌||◌}
use Rattle.std.proofs.lemmas.Bool.{false_from_ne_true, false≢true, or_left, or_right}
use Rattle.std.proofs.lemmas.Int.{by_lt_z, ints}
use Rattle.r9_geom.specs.declared.Point.{Point}
use Rattle.r9_geom.specs.declared.Rect.{Rect}
use Rattle.r9_geom.specs.Geometry.{carried, height, holds, strip, width, IsOrdered}
use Rattle.r9_geom.proofs.GeometryLemmas.{band, bounds_of, holds_from, same_tests}
use Rattle.r9_plane.specs.Pixels.{along}
use Rattle.r9_plane.proofs.PlaneLemmas.{along_holds}
use Rattle.model_forest.specs.declared.Window.{Window}
use Rattle.model_forest.specs.World.{World, image_at}
use Rattle.model_kept.specs.Keeping.{Place}
use Rattle.r9_shown.specs.Shown.{block, down}
use Rattle.r9_shown.proofs.Pieces.{bands_more, band_part, block_part, block_split}
use Rattle.r9_restack.specs.Moving.{more, more_in, IsFresh, IsFreshIn}
use Rattle.r9_restack.specs.Changing.{IsChanged, StaysTop}
use Rattle.r9_restack.proofs.Changes.{changed-same, changed-skip, IsChanging}
use Rattle.r9_restack.proofs.Orders.{or_cases}

or_assoc : (a b c : Bool) → ((a || b) || c) ≡ (a || (b || c))
or_assoc true b c = refl
or_assoc false b c = refl

-- no row of a block
pub no_rows : (q : Point) (n : ℕ) (z : Point) → holds (block q n 0) z ≡ false
no_rows q n z = false_from_ne_true _ (λ h. let b = bounds_of (block q n 0) z h in absurd (omega (arith, ints, b.top, b.bottom)))

-- and one more
pub one_row : (q : Point) (n row : ℕ) (z : Point) → holds (block q n (row + 1)) z ≡ (holds (strip (down q row) n) z || holds (block q n row) z)
one_row q n row z =
    same_tests _ _
    (λ h.
    let b = bounds_of (block q n (row + 1)) z h in
    by_lt_z z.y (down q row).y
    (λ early. or_right (holds (strip (down q row) n) z) (holds (block q n row) z) (holds_from (block q n row) z (record { left = b.left; right = b.right; top = b.top; bottom = omega (arith, ints, early) })))
    (λ late. or_left (holds (strip (down q row) n) z) (holds (block q n row) z) (holds_from (strip (down q row) n) z (record { left = b.left; right = b.right; top = omega (arith, ints, late); bottom = omega (arith, ints, b.bottom) }))))
    (λ h.
    or_cases (holds (strip (down q row) n) z) (holds (block q n row) z) h
    (λ here. let b = bounds_of (strip (down q row) n) z here in holds_from (block q n (row + 1)) z (record { left = b.left; right = b.right; top = omega (arith, ints, b.top); bottom = omega (arith, ints, b.bottom) }))
    (λ above. let b = bounds_of (block q n row) z above in holds_from (block q n (row + 1)) z (record { left = b.left; right = b.right; top = b.top; bottom = omega (arith, ints, b.bottom) })))

-- a row of a block is of the block
pub row_in : (q : Point) (n row rows : ℕ) (z : Point) → row < rows → holds (strip (down q row) n) z ≡ true → holds (block q n rows) z ≡ true
row_in q n row rows z below h =
    let b = bounds_of (strip (down q row) n) z h in
    holds_from (block q n rows) z (record { left = b.left; right = b.right; top = omega (arith, ints, b.top); bottom = omega (arith, ints, b.bottom, below) })

pub done_row : (q : Point) (n row : ℕ) (done : Point → Bool) (z : Point) → more_in (block q n (row + 1)) done z ≡ more (down q row) n (more_in (block q n row) done) z
done_row q n row done z =
    ap (λ b. b || done z) (one_row q n row z) ∙ or_assoc (holds (strip (down q row) n) z) (holds (block q n row) z) (done z)

pub fresh_down : (q : Point) (n row rows : ℕ) (done : Point → Bool) → row < rows → IsFreshIn (block q n rows) done → IsFresh (down q row) n (more_in (block q n row) done)
fresh_down q n row rows done below fresh k inside =
    let z = along (down q row) k in
    false_from_ne_true (more_in (block q n row) done z)
    (λ is.
    or_cases (holds (block q n row) z) (done z) is
    (λ above. let b = bounds_of (block q n row) z above in absurd (omega (arith, ints, b.bottom)))
    (λ other. false≢true (sym (fresh z (row_in q n row rows z below (along_holds (down q row) n k inside))) ∙ other)))

-- where the topmost window stays, a block is done at once
pub changed_skip_block : (world : World) (p : ℕ) (ws : List Window) (w : ℕ) (given fill : Point → ℕ) (before now : Place → ℕ) (done : Point → Bool) (q : Point) (n rows : ℕ) → IsChanging world p ws w → ((z : Point) → holds (block q n rows) z ≡ true → holds (image_at world p).r z ≡ true) → ((z : Point) → holds (block q n rows) z ≡ true → StaysTop world p ws w z) → IsFreshIn (block q n rows) done → IsChanged world p ws w given fill before now done → IsChanged world p ws w given fill before now (more_in (block q n rows) done)
changed_skip_block world p ws w given fill before now done q n rows s inside same fresh m = upto rows (omega arith)
  where
    upto : (k : ℕ) → k ≤ rows → IsChanged world p ws w given fill before now (more_in (block q n k) done)
    upto zero few = changed-same world p ws w given fill before now done (more_in (block q n 0) done) (λ z. ap (λ b. b || done z) (no_rows q n z)) m
    upto (suc k) few =
        let below : k < rows = omega (arith, few) in
        let so_far = upto k (omega (arith, few)) in
        changed-same world p ws w given fill before now (more (down q k) n (more_in (block q n k) done)) (more_in (block q n (suc k)) done)
        (λ z. ap (λ j. more_in (block q n j) done z) (omega arith) ∙ done_row q n k done z)
        (changed-skip world p ws w given fill before now (more_in (block q n k) done) (down q k) n s
        (λ j short. inside (along (down q k) j) (row_in q n k rows (along (down q k) j) below (along_holds (down q k) n j short)))
        (λ j short. same (along (down q k) j) (row_in q n k rows (along (down q k) j) below (along_holds (down q k) n j short)))
        (fresh_down q n k rows done below fresh) so_far)

-- more columns
pub done_right : (at : Point) (d n rows : ℕ) (done : Point → Bool) (z : Point) → more_in (block at (d + n) rows) done z ≡ more_in (block (along at d) n rows) (more_in (block at d rows) done) z
done_right at d n rows done z =
    ap (λ b. b || done z) (block_split at d n rows z) ∙ or_assoc (holds (block (along at d) n rows) z) (holds (block at d rows) z) (done z)

pub fresh_right : (at : Point) (d n columns rows : ℕ) (done : Point → Bool) → d + n ≤ columns → IsFreshIn (block at columns rows) done → IsFreshIn (block (along at d) n rows) (more_in (block at d rows) done)
fresh_right at d n columns rows done fits fresh z here =
    false_from_ne_true (more_in (block at d rows) done z)
    (λ is.
    or_cases (holds (block at d rows) z) (done z) is
    (λ before.
    let a = bounds_of (block at d rows) z before in
    let b = bounds_of (block (along at d) n rows) z here in
    absurd (omega (arith, ints, a.right, b.left)))
    (λ other. false≢true (sym (fresh z (block_part at d n columns rows z fits here)) ∙ other)))

-- more rows of an area
pub done_below : (r : Rect) (at : Point) (row rows : ℕ) (done : Point → Bool) (z : Point) → IsOrdered r → at.x ≡ r.min.x → at.y ≡ r.min.y +ℤ pos row → more_in (band r (row + rows)) done z ≡ more_in (block at (width r) rows) (more_in (band r row) done) z
done_below r at row rows done z ordered left top =
    ap (λ b. b || done z) (bands_more r at z row rows ordered left top) ∙ or_assoc (holds (block at (width r) rows) z) (holds (band r row) z) (done z)

pub fresh_below : (r : Rect) (at : Point) (row rows : ℕ) (done : Point → Bool) → IsOrdered r → at.x ≡ r.min.x → at.y ≡ r.min.y +ℤ pos row → row + rows ≤ height r → IsFreshIn r done → IsFreshIn (block at (width r) rows) (more_in (band r row) done)
fresh_below r at row rows done ordered left top fits fresh z here =
    false_from_ne_true (more_in (band r row) done z)
    (λ is.
    or_cases (holds (band r row) z) (done z) is
    (λ above.
    let a = bounds_of (band r row) z above in
    let b = bounds_of (block at (width r) rows) z here in
    absurd (omega (arith, ints, a.bottom, b.top, top)))
    (λ other. false≢true (sym (fresh z (band_part r at z row rows ordered left top fits here)) ∙ other)))

-- a block that stands elsewhere
pub block_carried : (a b from to z : Point) (n rows : ℕ) → b ≡ carried a from to → holds (block b n rows) (carried z from to) ≡ holds (block a n rows) z
block_carried a b from to z n rows is =
    let x = ap (λ (p : Point). p.x) is in
    let y = ap (λ (p : Point). p.y) is in
    same_tests _ _
    (λ h.
    let i = bounds_of (block b n rows) (carried z from to) h in
    holds_from (block a n rows) z (record {
      left = omega (arith, ints, i.left, x);
      right = omega (arith, ints, i.right, x);
      top = omega (arith, ints, i.top, y);
      bottom = omega (arith, ints, i.bottom, y);
    }))
    (λ h.
    let i = bounds_of (block a n rows) z h in
    holds_from (block b n rows) (carried z from to) (record {
      left = omega (arith, ints, i.left, x);
      right = omega (arith, ints, i.right, x);
      top = omega (arith, ints, i.top, y);
      bottom = omega (arith, ints, i.bottom, y);
    }))
