-- The points of a row that a rectangle holds: a run of them.
use Rattle.std.proofs.Common.{◌≡◌, ◌∙◌, ℕ, pos, ◌+◌, ◌-◌, ◌<◌, ◌≤◌, ◌-ℤ◌, ◌<ℤ◌, ◌≤ℤ◌, Bool, true, false, List, length, get_or, refl, ⊎_elim, subst, ap, sym, arith}
use Rattle.std.specs.Prelude.{int_le, ◌&&◌, ◌||◌, if◌then◌else◌}
use Rattle.std.proofs.lemmas.Bool.{and_parts, cases_lt, or_parts}
use Rattle.std.proofs.lemmas.Int.{ints}
use Rattle.r9_geom.specs.declared.Point.{Point}
use Rattle.r9_geom.specs.declared.Rect.{Rect}
use Rattle.r9_geom.specs.Geometry.{distance, holds, is_empty, strip, IsRectNearBy}
use Rattle.r9_geom.proofs.GeometryLemmas.{bounds_of, corner, distance_is, holds_from, int_le_false, same_point, same_tests, Bounds}
use Rattle.r9_plane.specs.Pixels.{along}
use Rattle.r9_plane.proofs.PlaneLemmas.{along_holds}
use Rattle.model_pixel.specs.Channels.{expand, pack}
use Rattle.model_forest.specs.Draw.{reaches}
use Rattle.model_forest.specs.View.{at}
use Rattle.model_forest.specs.World.{World, image_at}
use Rattle.r9_put.specs.fills.Fills.{fill_at, IsRun}
use Rattle.r9_locate.proofs.locate.Parts.{put_mid_before, put_mid_behind, put_mid_inside}
use borrow.Rule.Slice.PartMut.{put_mid}

-- a rectangle with points, which another holds, and its first and last point
pub record IsWithin (r own : Rect) : Type 0 where
  pub across : r.min.x <ℤ r.max.x
  pub down : r.min.y <ℤ r.max.y
  pub first : holds own r.min ≡ true
  pub low : Bounds own r.min
  pub high : Bounds own (record { x = r.max.x -ℤ pos 1; y = r.max.y -ℤ pos 1 })

pub is_within : (r own : Rect) → is_empty r ≡ false → ((p : Point) → holds r p ≡ true → holds own p ≡ true) → IsWithin r own
is_within r own solid all =
    let parts = or_parts (int_le r.max.x r.min.x) (int_le r.max.y r.min.y) solid in
    let across = int_le_false r.max.x r.min.x parts.0 in
    let down = int_le_false r.max.y r.min.y parts.1 in
    let first = all r.min (corner r across down) in
    let last : Point = record { x = r.max.x -ℤ pos 1; y = r.max.y -ℤ pos 1 } in
    let last_holds = holds_from r last (record { left = omega (arith, ints); right = omega (arith, ints); top = omega (arith, ints); bottom = omega (arith, ints) }) in
    record {
      across = across;
      down = down;
      first = first;
      low = bounds_of own r.min first;
      high = bounds_of own last (all last last_holds);
    }

-- a rectangle with points within a near one is near
pub near_part : (n : ℕ) (r own : Rect) → IsRectNearBy n own → is_empty r ≡ false → ((p : Point) → holds r p ≡ true → holds own p ≡ true) → IsRectNearBy n r
near_part n r own near solid all =
    let is = is_within r own solid all in
    record {
      min = record {
        left = omega (arith, ints, near.min.left, is.low.left);
        right = omega (arith, ints, near.max.right, is.low.right);
        top = omega (arith, ints, near.min.top, is.low.top);
        bottom = omega (arith, ints, near.max.bottom, is.low.bottom);
      };
      max = record {
        left = omega (arith, ints, near.min.left, is.low.left, is.across);
        right = omega (arith, ints, near.max.right, is.high.right);
        top = omega (arith, ints, near.min.top, is.low.top, is.down);
        bottom = omega (arith, ints, near.max.bottom, is.high.bottom);
      };
    }

pub run_of : (at : Point) (n : ℕ) (given : Rect) → is_empty given ≡ false → ((p : Point) → holds given p ≡ true → holds (strip at n) p ≡ true) → IsRun at n given (distance at.x given.min.x) (distance at.x given.max.x)
run_of at n given solid all =
    let is = is_within given (strip at n) solid all in
    let low = is.low in
    let high = is.high in
    let first = distance_is at.x given.min.x low.left in
    let end = distance_is at.x given.max.x (omega (arith, ints, low.left, is.across)) in
    record {
      some = omega (arith, ints, first, end, is.across);
      within = omega (arith, ints, end, high.right);
      begins = same_point given.min (along at (distance at.x given.min.x)) (sym first) (omega (arith, ints, low.top, low.bottom));
      ends = sym end;
      below = omega (arith, ints, low.top, high.bottom, high.top, is.down, low.bottom);
    }

-- they are the points of the rectangle
pub run_strip : (at : Point) (n : ℕ) (given : Rect) (first end : ℕ) → IsRun at n given first end → (p : Point) → holds (strip given.min (end - first)) p ≡ holds given p
run_strip at n given first end run p =
    let x = ap (λ (q : Point). q.x) run.begins in
    let y = ap (λ (q : Point). q.y) run.begins in
    same_tests _ _
    (λ h. let b = bounds_of (strip given.min (end - first)) p h in
    holds_from given p (record {
      left = b.left;
      right = omega (arith, ints, x, run.ends, run.some, b.right);
      top = b.top;
      bottom = omega (arith, ints, y, run.below, b.bottom);
    }))
    (λ h. let b = bounds_of given p h in
    holds_from (strip given.min (end - first)) p (record {
      left = b.left;
      right = omega (arith, ints, x, run.ends, run.some, b.right);
      top = b.top;
      bottom = omega (arith, ints, y, run.below, b.bottom);
    }))

pub run_in : (at : Point) (n : ℕ) (given : Rect) (first end : ℕ) → IsRun at n given first end → (k : ℕ) → first ≤ k → k < end → holds given (along at k) ≡ true
run_in at n given first end run k low high =
    let x = ap (λ (q : Point). q.x) run.begins in
    let y = ap (λ (q : Point). q.y) run.begins in
    holds_from given (along at k) (record {
      left = omega (arith, ints, x, low);
      right = omega (arith, ints, run.ends, high);
      top = omega (arith, ints, y);
      bottom = omega (arith, ints, run.below);
    })

pub run_before : (at : Point) (n : ℕ) (given : Rect) (first end : ℕ) → IsRun at n given first end → (k : ℕ) → k < first → holds given (along at k) ≡ false
run_before at n given first end run k low = by_cases (holds given (along at k)) refl
  where
    by_cases : (b : Bool) → holds given (along at k) ≡ b → b ≡ false
    by_cases true h =
        let x = ap (λ (q : Point). q.x) run.begins in
        let b = bounds_of given (along at k) h in
        absurd (omega (arith, ints, x, b.left, low))
    by_cases false h = refl

pub run_behind : (at : Point) (n : ℕ) (given : Rect) (first end : ℕ) → IsRun at n given first end → (k : ℕ) → end ≤ k → holds given (along at k) ≡ false
run_behind at n given first end run k high = by_cases (holds given (along at k)) refl
  where
    by_cases : (b : Bool) → holds given (along at k) ≡ b → b ≡ false
    by_cases true h =
        let b = bounds_of given (along at k) h in
        absurd (omega (arith, ints, run.ends, b.right, high))
    by_cases false h = refl

-- a rectangle that is reached, where an image repeats or not
pub reach_repeated : (r clip own : Bool) → (r && clip) ≡ (r && (clip && (true || own)))
reach_repeated true true own = refl
reach_repeated true false own = refl
reach_repeated false clip own = refl

pub reach_once : (r clip own : Bool) → ((r && clip) && own) ≡ (r && (clip && (false || own)))
reach_once true true own = refl
reach_once true false own = refl
reach_once false clip own = refl

-- ---- what a row gives to a test

pub passes : (row given : Rect) (test : Point → Bool) → ((p : Point) → holds given p ≡ (holds row p && test p)) → (p : Point) → holds given p ≡ true → test p ≡ true
passes row given test gives p h = (and_parts (holds row p) (test p) (sym (gives p) ∙ h)).1

-- a point of the row that is not one of them does not pass
pub fails : (at : Point) (n : ℕ) (row given : Rect) (test : Point → Bool) → row ≡ strip at n → ((p : Point) → holds given p ≡ (holds row p && test p)) → (k : ℕ) → k < n → holds given (along at k) ≡ false → test (along at k) ≡ false
fails at n row given test is gives k below out =
    let inside : holds row (along at k) ≡ true = ap (λ (r : Rect). holds r (along at k)) is ∙ along_holds at n k below in
    sym (ap (λ b. b && test (along at k)) inside) ∙ sym (gives (along at k)) ∙ out

-- what holds of the pixels of a run that are written, and of 0 at the others, holds of all in a row that was 0
pub run_written : (P : ℕ → ℕ → Type 0) (at : Point) (n : ℕ) (given : Rect) (first end : ℕ) (old part : List ℕ) → IsRun at n given first end → length old ≡ n → length part ≡ end - first → ((k : ℕ) → k < n → get_or old k 0 ≡ 0) → ((j : ℕ) → j < end - first → holds given (along at (first + j)) ≡ true → P (first + j) (get_or part j 0)) → ((k : ℕ) → k < n → holds given (along at k) ≡ false → P k 0) → (k : ℕ) → k < n → P k (get_or (put_mid first (end - first) old part) k 0)
run_written P at n given first end old part run long part_long zero written left k below =
    let size = end - first in
    let within : first ≤ length old = omega (arith, run.some, run.within, long) in
    ⊎_elim
    (λ (early : k < first).
    subst (λ v. P k v) (sym (put_mid_before first size old part k within early ∙ zero k below)) (left k below (run_before at n given first end run k early)))
    (λ (late : first ≤ k).
    ⊎_elim
    (λ (inside : k < end).
    let j = k - first in
    let place : k ≡ first + j = omega arith in
    let short : j < size = omega (arith, inside, late) in
    let there : P (first + j) (get_or part j 0) = written j short (run_in at n given first end run (first + j) (omega arith) (omega (arith, inside, place))) in
    let value : get_or (put_mid first size old part) (first + j) 0 ≡ get_or part j 0 = put_mid_inside first size old part j within part_long short in
    subst (λ m. P m (get_or (put_mid first size old part) m 0)) (sym place) (subst (λ v. P (first + j) v) (sym value) there))
    (λ (behind : end ≤ k).
    subst (λ v. P k v) (sym (put_mid_behind first size old part k within part_long (omega (arith, behind, run.some)) ∙ zero k below)) (left k below (run_behind at n given first end run k behind)))
    (cases_lt k end))
    (cases_lt k first)

-- a rectangle with points within a row begins at the row or to the right of it
pub run_low : (at : Point) (n : ℕ) (given : Rect) → is_empty given ≡ false → ((p : Point) → holds given p ≡ true → holds (strip at n) p ≡ true) → (at.x ≤ℤ given.min.x) × (given.min.x <ℤ given.max.x)
run_low at n given solid all =
    let is = is_within given (strip at n) solid all in
    (is.low.left, is.across)

pub fill_passes : (world : World) (chan fill : ℕ) (p : Point) → reaches (image_at world fill) p ≡ true → pack chan (expand (image_at world fill).chan (at world fill p)) ≡ fill_at world chan fill p
fill_passes world chan fill p reached = ap (λ b. if b then pack chan (expand (image_at world fill).chan (at world fill p)) else 0) (sym reached)

pub fill_fails : (world : World) (chan fill : ℕ) (p : Point) → reaches (image_at world fill) p ≡ false → fill_at world chan fill p ≡ 0
fill_fails world chan fill p missed = ap (λ b. if b then pack chan (expand (image_at world fill).chan (at world fill p)) else 0) missed
