-- Pixels side by side in a tile.
use Rattle.std.proofs.Common.{◌≡◌, ◌≢◌, ◌∙◌, ℕ, ◌+◌, ◌-◌, ◌*◌, ◌<◌, ◌≤◌, pos, ◌+ℤ◌, Bool, true, false, ◌&&◌, List, set, take, drop, length, get_or, Option, Some, None, ⊎_elim, arith, rules, refl, ap, sym}
use Rattle.std.specs.Prelude.{if◌then◌else◌, ◌==◌, slice_index}
use Rattle.std.proofs.lemmas.Bool.{cases_Bool, cases_eq, cases_lt, both_ways}
use Rattle.std.proofs.lemmas.Bool.Decides.{Decides-eqb}
use Rattle.std.proofs.lemmas.Int.{ints}
use Rattle.std.proofs.lemmas.List.{get_or-append_right, get_or-drop, get_or-set_other, get_or-set_same, length-take, places}
use borrow.Rule.Slice.PartMut.{put_mid}
use Rattle.r9_geom.specs.declared.Point.{Point}
use Rattle.r9_geom.specs.Geometry.{carried, distance, holds, strip}
use Rattle.r9_geom.proofs.GeometryLemmas.{bounds_of, cell_of, distance_is, same_point, strip_distance, strip_here}
use Rattle.r9_plane.specs.Pixels.{along}
use Rattle.r9_store.specs.Tiles.{cell, place_of}
use Rattle.r9_store.proofs.Pixels.{is_below, place_below, place_is, shown}

-- a row of pixels lies within a tile
abbrev pub Lies : Point → ℕ → Type 0
Lies at n = (p : Point) → holds (strip at n) p ≡ true → holds cell p ≡ true

onward : Point → ℕ → Point
onward at i = record { x = at.x +ℤ pos i; y = at.y }

pub some_of : (n : ℕ) {b : Bool} → b ≡ (n == 0) → b ≡ false → 0 < n
some_of n {b} is not_so =
    ⊎_elim
    (λ (h : n ≡ 0). absurd (both_ways b not_so (is ∙ ap (λ v. v == 0) h)))
    (λ (h : n ≢ 0). omega arith)
    (cases_eq n 0)

pub start_in : (at : Point) (n : ℕ) → 0 < n → Lies at n → holds cell at ≡ true
start_in at n some lies = lies at (strip_here at at 0 n (omega (arith, ints)) refl some)

onward_holds : (at : Point) (n i : ℕ) → i < n → holds (strip at n) (onward at i) ≡ true
unfolding onward
onward_holds at n i below = strip_here at (onward at i) i n refl refl below

onward_in : (at : Point) (n i : ℕ) → i < n → Lies at n → holds cell (onward at i) ≡ true
onward_in at n i below lies = lies (onward at i) (onward_holds at n i below)

place_onward : (at : Point) (i : ℕ) → holds cell at ≡ true → place_of (onward at i) ≡ place_of at + i
unfolding onward
place_onward at i inside =
    let here = cell_of cell at inside in
    let column : distance (pos 0) (at.x +ℤ pos i) ≡ distance (pos 0) at.x + i =
    strip_distance (record { x = pos 0; y = at.y }) (onward at i) (distance (pos 0) at.x + i) (omega (arith, ints, here.left)) in
    ap (λ (c : ℕ). 32 * distance (pos 0) at.y + c) column ∙ omega arith

-- a row ends within its tile
pub run_fits : (at : Point) (n : ℕ) → 0 < n → Lies at n → place_of at + n ≤ 1024
run_fits at n some lies =
    let last : n - 1 < n = omega arith in
    let below = place_below (onward at (n - 1)) (onward_in at n (n - 1) last lies) in
    let place = place_onward at (n - 1) (start_in at n some lies) in
    omega (arith, below, place)

-- a point of a row, so many from its start
strip_point : (at q : Point) (n : ℕ) → holds (strip at n) q ≡ true → (distance at.x q.x < n) × (onward at (distance at.x q.x) ≡ q)
unfolding onward
strip_point at q n h =
    let b = bounds_of (strip at n) q h in
    let d = distance_is at.x q.x b.left in
    (omega (arith, ints, d, b.right), same_point (onward at (distance at.x q.x)) q d (omega (arith, ints, b.top, b.bottom)))

pub place_along : (at q : Point) (n : ℕ) → Lies at n → holds (strip at n) q ≡ true → (distance at.x q.x < n) × (place_of q ≡ place_of at + distance at.x q.x)
place_along at q n lies h =
    let point = strip_point at q n h in
    let some : 0 < n = omega (arith, point.0) in
    (point.0, ap place_of (sym point.1) ∙ place_onward at (distance at.x q.x) (start_in at n some lies))

-- so many pixels from a place of a tile on have become others, and no more
pub record Put (first len : ℕ) (value : ℕ → ℕ) (old new : List ℕ) : Type 0 where
  pub written : (i : ℕ) → i < len → slice_index new (first + i) ≡ value i
  pub others : (n : ℕ) → ((i : ℕ) → i < len → n ≢ first + i) → slice_index new n ≡ slice_index old n

-- what is put at the points of a row
abbrev pub Tells : Point → ℕ → (ℕ → ℕ) → (Point → ℕ) → Type 0
Tells at len value map = (q : Point) → holds (strip at len) q ≡ true → value (distance at.x q.x) ≡ map q

put_here : (at q : Point) (len : ℕ) (value : ℕ → ℕ) (map : Point → ℕ) (old new : List ℕ) → Lies at len → Put (place_of at) len value old new → Tells at len value map → (h : Bool) → holds (strip at len) q ≡ h → shown (Some new) q ≡ (if h then map q else shown (Some old) q)
put_here at q len value map old new lies put tells true e =
    let place = place_along at q len lies e in
    rw (lies q e) (ap (slice_index new) place.1 ∙ put.written (distance at.x q.x) place.0 ∙ tells q e)
put_here at q len value map old new lies put tells false e =
    ⊎_elim
    (λ (k : holds cell q ≡ true).
    rw k (put.others (place_of q) (λ i below same.
    let some : 0 < len = omega arith in
    let there = onward_in at len i below lies in
    let is : onward at i ≡ q = place_is (onward at i) q there k (place_onward at i (start_in at len some lies) ∙ sym same) in
    both_ways _ e (ap (holds (strip at len)) (sym is) ∙ onward_holds at len i below))))
    (λ (k : holds cell q ≡ false). rw k refl)
    (cases_Bool (holds cell q))

-- a row of pixels of one tile has changed
pub shown-put_row : (slots : List (Option (List ℕ))) (t : ℕ) (old new : List ℕ) (at : Point) (len : ℕ) (value : ℕ → ℕ) (map : Point → ℕ) → get_or slots t None ≡ Some old → Lies at len → Put (place_of at) len value old new → Tells at len value map → (u : ℕ) (q : Point) → shown (get_or (set slots t (Some new)) u None) q ≡ (if (u == t) && holds (strip at len) q then map q else shown (get_or slots u None) q)
shown-put_row slots t old new at len value map held lies put tells u q =
    ⊎_elim
    (λ (e : (u == t) ≡ true).
    let same = (Decides-eqb u t).0 e in
    rw (e, same, get_or-set_same slots t (Some new) None (is_below slots t old held), held) (put_here at q len value map old new lies put tells (holds (strip at len) q) refl))
    (λ (e : (u == t) ≡ false).
    rw e
    (ap (λ slot. shown slot q) (get_or-set_other slots t u (Some new) None (λ same. both_ways _ e ((Decides-eqb u t).1 same)))))
    (cases_Bool (u == t))

-- the point that stands in a row as another stands in its own
pub along_carried : (at from q : Point) (len : ℕ) → holds (strip at len) q ≡ true → along from (distance at.x q.x) ≡ carried q at from
along_carried at from q len h =
    let b = bounds_of (strip at len) q h in
    let d = distance_is at.x q.x b.left in
    same_point (along from (distance at.x q.x)) (carried q at from) (omega (arith, ints, d)) (omega (arith, ints, b.top, b.bottom))

-- a part of a tile was put, and the rest is as before
pub part_others : (tile part : List ℕ) (first len n : ℕ) → first + len ≤ length tile → length part ≡ first + len - first → ((i : ℕ) → i < len → n ≢ first + i) → slice_index (put_mid first (first + len - first) tile part) n ≡ slice_index tile n
part_others tile part first len n fits size apart =
    let k = first + len - first in
    let front : length (take first tile) ≡ first = omega (arith, length-take first tile, fits) in
    ⊎_elim
    (λ (before : n < first). search (rules, places))
    (λ (h : first ≤ n).
    ⊎_elim
    (λ (within : n - first < len). absurd (apart (n - first) within (omega arith)))
    (λ (after : len ≤ n - first).
    let at : first + (k + (n - first - k)) ≡ n = omega arith in
    get_or-append_right (take first tile) _ first n 0 front h
    ∙ get_or-append_right part _ k (n - first) 0 size (omega arith)
    ∙ get_or-drop k (drop first tile) (n - first - k) 0 ∙ get_or-drop first tile (k + (n - first - k)) 0
    ∙ ap (λ i. get_or tile i 0) at)
    (cases_lt (n - first) len))
    (cases_lt n first)
