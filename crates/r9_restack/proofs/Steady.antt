-- What stays the same over blocks: side by side it makes rows of columns that stay the same downwards.
use Rattle.std.proofs.Common.{◌≡◌, ◌∙◌, ℕ, ◌+◌, ◌<◌, ◌≤◌, true, sym, ap, arith}
use Rattle.std.proofs.lemmas.Int.{ints}
use Rattle.r9_geom.specs.declared.Point.{Point}
use Rattle.r9_geom.specs.Geometry.{holds, strip}
use Rattle.r9_geom.proofs.GeometryLemmas.{bounds_of, holds_from}
use Rattle.r9_plane.specs.Pixels.{along}
use Rattle.r9_plane.proofs.PlaneLemmas.{along_holds}
use Rattle.r9_locate.proofs.locate.Locating.{along-along}
use Rattle.r9_shown.specs.Shown.{block, down}
use Rattle.r9_shown.proofs.Pieces.{first_row, stands_in}
use Rattle.r9_restack.proofs.Orders.{or_cases}
use Rattle.r9_restack.proofs.Parting.{strip_two}

-- fewer columns and rows of a block
pub block_fewer : (q z : Point) (n rows more more_rows : ℕ) → n ≤ more → rows ≤ more_rows → holds (block q n rows) z ≡ true → holds (block q more more_rows) z ≡ true
block_fewer q z n rows more more_rows few few_rows h =
    let b = bounds_of (block q n rows) z h in
    holds_from (block q more more_rows) z (record { left = b.left; right = omega (arith, ints, b.right, few); top = b.top; bottom = omega (arith, ints, b.bottom, few_rows) })

-- down from its first row
pub down_in : (q z : Point) (n rows k : ℕ) → k < rows → holds (strip q n) z ≡ true → holds (block q n rows) (down z k) ≡ true
down_in q z n rows k below h =
    let b = bounds_of (strip q n) z h in
    holds_from (block q n rows) (down z k) (record { left = b.left; right = b.right; top = omega (arith, ints, b.top); bottom = omega (arith, ints, b.top, b.bottom, below) })

-- points of a part of a row are of the row
row_part : (at : Point) (d n columns j : ℕ) → d + n ≤ columns → j < n → holds (strip at columns) (along (along at d) j) ≡ true
row_part at d n columns j fits below = ap (holds (strip at columns)) (along-along at d j) ∙ along_holds at columns (d + j) (omega (arith, fits, below))

-- rows of columns that stay the same downwards, and those of a block besides
pub steady_more : {A : Type 0} (f : Point → A) (at q : Point) (d n rows less : ℕ) (v : A) → q ≡ along at d → less ≤ rows → ((z : Point) (k : ℕ) → holds (strip at d) z ≡ true → k < rows → f (down z k) ≡ f z) → ((z : Point) → holds (block q n less) z ≡ true → f z ≡ v) → (z : Point) (k : ℕ) → holds (strip at (d + n)) z ≡ true → k < less → f (down z k) ≡ f z
steady_more f at q d n rows less v is fewer before here z k h below =
    or_cases (holds (strip (along at d) n) z) (holds (strip at d) z) (sym (strip_two at z d n) ∙ h)
    (λ late.
    let inside : holds (strip q n) z ≡ true = ap (λ p. holds (strip p n) z) is ∙ late in
    here (down z k) (down_in q z n less k below inside) ∙ sym (here z (first_row q n less z (omega (arith, below)) inside)))
    (λ early. before z k early (omega (arith, below, fewer)))

-- a block of such rows in whose first row it is the same all along
pub steady_block : {A : Type 0} (f : Point → A) (at q : Point) (d n columns rows : ℕ) (v : A) → q ≡ along at d → d + n ≤ columns → ((z : Point) (k : ℕ) → holds (strip at columns) z ≡ true → k < rows → f (down z k) ≡ f z) → ((k : ℕ) → k < n → f (along q k) ≡ v) → (z : Point) → holds (block q n rows) z ≡ true → f z ≡ v
steady_block f at q d n columns rows v is fits downwards across z h =
    let found = stands_in q n rows z h in
    ap f found.is
    ∙ downwards (along q found.column) found.row (ap (λ (p : Point). holds (strip at columns) (along p found.column)) is ∙ row_part at d n columns found.column fits found.across) found.within
    ∙ across found.column found.across

-- a block over which it is the same is one of such rows
pub steady_first : {A : Type 0} (f : Point → A) (at : Point) (n rows : ℕ) (v : A) → ((z : Point) → holds (block at n rows) z ≡ true → f z ≡ v) → (z : Point) (k : ℕ) → holds (strip at n) z ≡ true → k < rows → f (down z k) ≡ f z
steady_first f at n rows v here z k h below =
    here (down z k) (down_in at z n rows k below h) ∙ sym (here z (first_row at n rows z (omega (arith, below)) h))
