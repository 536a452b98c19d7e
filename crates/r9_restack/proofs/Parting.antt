-- What a part of a row asks for when it is moved.
use Rattle.std.proofs.Common.{◌≡◌, ◌∙◌, ℕ, ℤ, pos, ◌+◌, ◌-◌, ◌<◌, ◌≤◌, ◌^◌, ◌+ℤ◌, Bool, true, false, List, Option, refl, sym, ap, subst, arith, ⊎_elim}
use Rattle.std.specs.Prelude.{◌||◌, All}
use Rattle.std.proofs.lemmas.Int.{ints}
use Rattle.std.proofs.lemmas.Bool.{cases_lt, false_from_ne_true, false≢true, or_left, or_right}
use Rattle.r9_geom.specs.declared.Point.{Point}
use Rattle.r9_geom.specs.declared.Rect.{Rect}
use Rattle.r9_geom.specs.Geometry.{holds, point_at, strip, IsNear}
use Rattle.r9_geom.proofs.GeometryLemmas.{band, bounds_of, same_tests, strip_none}
use Rattle.r9_plane.specs.Pixels.{along}
use Rattle.model_forest.specs.declared.Window.{Window}
use Rattle.model_forest.specs.World.{Image, World, image_at}
use Rattle.model_forest.specs.View.{top_window}
use Rattle.r9_locate.specs.declared.locate.lists.Frame.{Frame}
use Rattle.r9_locate.specs.declared.locate.lists.Lists.{Lists}
use Rattle.r9_locate.specs.locate.Table.{shape}
use Rattle.r9_locate.specs.locate.Lists.{frame_image, IsNearby}
use Rattle.r9_restack.specs.Moving.{more, IsFresh, IsReordering}
use Rattle.r9_plane.proofs.PlaneLemmas.{along_holds}
use Rattle.r9_locate.proofs.locate.Locating.{along-along, no_rect_near, place_near, strip_at}
use Rattle.r9_restack.proofs.Orders.{or_cases, IsSetting}

-- places are near
pub near_all : (world : World) (p : ℕ) (ws : List Window) → IsReordering world p ws → IsNearby world → All (λ v. IsNear v.place.min) ws
near_all world p ws order near = λ k d below.
    subst (λ (r : Rect). IsNear r.min) (sym (order.places _) ∙ order.one k d below)
    (place_near (2 ^ 40) (image_at world p).windows _ (near p order.live).1 (no_rect_near (2 ^ 40)))

-- a row of two parts
pub strip_two : (at z : Point) (done len : ℕ) → holds (strip at (done + len)) z ≡ (holds (strip (along at done) len) z || holds (strip at done) z)
strip_two at z done len =
    same_tests (holds (strip at (done + len)) z) (holds (strip (along at done) len) z || holds (strip at done) z)
    (λ h.
    let found = strip_at at z (done + len) h in
    ⊎_elim
    (λ (early : found.0 < done). or_right (holds (strip (along at done) len) z) (holds (strip at done) z) (ap (holds (strip at done)) found.2 ∙ along_holds at done found.0 early))
    (λ (late : done ≤ found.0).
    let j = found.0 - done in
    let place : found.0 ≡ done + j = omega arith in
    let short : j < len = omega (arith, found.1, late) in
    or_left (holds (strip (along at done) len) z) (holds (strip at done) z)
    (ap (holds (strip (along at done) len)) (found.2 ∙ ap (along at) place ∙ sym (along-along at done j)) ∙ along_holds (along at done) len j short))
    (cases_lt found.0 done))
    (λ either.
    or_cases (holds (strip (along at done) len) z) (holds (strip at done) z) either
    (λ h.
    let found = strip_at (along at done) z len h in
    ap (holds (strip at (done + len))) (found.2 ∙ along-along at done found.0) ∙ along_holds at (done + len) (done + found.0) (omega (arith, found.1)))
    (λ h.
    let found = strip_at at z done h in
    ap (holds (strip at (done + len))) found.2 ∙ along_holds at (done + len) found.0 (omega (arith, found.1))))

-- what comes after in the row is not done
pub fresh_part : (at : Point) (n done len : ℕ) (also : Point → Bool) → done + len ≤ n → IsFresh at n also → IsFresh (along at done) len (more at done also)
fresh_part at n done len also fits fresh k below =
    false_from_ne_true (more at done also (along (along at done) k))
    (λ is.
    or_cases (holds (strip at done) (along (along at done) k)) (also (along (along at done) k)) is
    (λ h.
    let found = strip_at at (along (along at done) k) done h in
    let x = ap (λ (p : Point). p.x) found.2 in
    absurd (omega (arith, ints, x, found.1)))
    (λ h. false≢true (sym (fresh (done + k) (omega (arith, below, fits))) ∙ ap also (sym (along-along at done k)) ∙ h)))

-- ---- the lists of a call

pub setting : (lists : Lists) (p : ℕ) (ws : List Window) → IsReordering (shape lists) p ws → IsSetting (shape lists) p ws
unfolding shape
setting lists p ws order = record { standing = lists.standing; places = lists.places; order = order }

pub nearby : (lists : Lists) → IsNearby (shape lists)
unfolding shape
nearby lists = lists.near

pub old_is : (world : World) (p : ℕ) (frame : Frame) (ws : List Window) (q : Point) (found o : Option Window) → image_at world p ≡ frame_image frame → ws ≡ frame.windows.items → found ≡ top_window ws q → found ≡ o → top_window (image_at world p).windows q ≡ o
old_is world p frame ws q found o image items is same =
    ap (λ (im : Image). top_window im.windows q) image ∙ ap (λ l. top_window l q) (sym items) ∙ sym is ∙ same

-- nothing is done of a row at first
pub more_none : (at z : Point) (done : Point → Bool) → more at 0 done z ≡ done z
more_none at z done = ap (λ b. b || done z) (strip_none at z)

-- a row of two parts, and what is done besides
pub more_two : (at z : Point) (done len : ℕ) (also : Point → Bool) → more at (done + len) also z ≡ more (along at done) len (more at done also) z
more_two at z done len also = ap (λ b. b || also z) (strip_two at z done len) ∙ or_assoc (holds (strip (along at done) len) z) (holds (strip at done) z) (also z)
  where
    or_assoc : (a b c : Bool) → ((a || b) || c) ≡ (a || (b || c))
    or_assoc true b c = refl
    or_assoc false b c = refl

-- a row below a band is fresh
pub fresh_row : (r : Rect) (at : Point) (row n : ℕ) → at ≡ point_at r 0 row → IsFresh at n (holds (band r row))
fresh_row r at row n at_is k below =
    false_from_ne_true (holds (band r row) (along at k))
    (λ h.
    let b = bounds_of (band r row) (along at k) h in
    let y = ap (λ (p : Point). p.y) at_is in
    absurd (omega (arith, ints, b.bottom, y)))

pub row_begins : (r : Rect) (at : Point) (row : ℕ) → at ≡ point_at r 0 row → (at.x ≡ r.min.x) × (at.y ≡ r.min.y +ℤ pos row)
row_begins r at row is = (ap (λ (p : Point). p.x) is ∙ plus_none r.min.x, ap (λ (p : Point). p.y) is)
  where
    plus_none : (x : ℤ) → x +ℤ pos 0 ≡ x
    plus_none x = omega (arith, ints)
