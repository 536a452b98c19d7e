-- Pixels that are moved within a plane.
use Rattle.std.proofs.Common.{◌≡◌, ◌∙◌, ℕ, ◌+◌, ◌-◌, ◌*◌, ◌/◌, ◌<◌, ◌≤◌, Bool, true, false, ◌||◌, List, ◌++◌, get_or, length, refl, ap, sym, arith, pos, ◌+ℤ◌, ⊎_elim}
use Rattle.std.specs.Prelude.{if◌then◌else◌, ◌≤ℤ◌}
use Rattle.std.proofs.lemmas.Int.{ints}
use Rattle.std.proofs.lemmas.List.{get_or_append_left, get_or-append_right}
use Rattle.std.proofs.lemmas.Nat.{mul-le}
use Rattle.std.proofs.Math.Nat.{mul_comm}
use Rattle.std.proofs.lemmas.Bool.{both_ways, cases_lt, cond-false, cond-true, false_from_ne_true}
use Rattle.r9_geom.specs.declared.Point.{Point}
use Rattle.r9_geom.specs.declared.Rect.{Rect}
use Rattle.r9_geom.specs.Geometry.{carried, height, holds, strip, width, IsOrdered}
use Rattle.r9_geom.proofs.GeometryLemmas.{band, band_all, band_more, band_none, bounds_of, holds_from, row_inside}
use Rattle.model_pixel.specs.Channels.{is_depth}
use Rattle.model_pixel.specs.Rows.{raw_at}
use Rattle.r9_plane.proofs.PackedLemmas.{raw_at_whole, size_of}
use Rattle.r9_plane.proofs.RunLemmas.{little-moved, Copied}

-- ---- runs

pub copied_nothing : (depth first count : ℕ) (value : ℕ → ℕ) (old : List ℕ) → count ≡ 0 → Copied depth first count value old old
copied_nothing depth first count value old none = record { written = λ i h. absurd (omega (arith, none)); others = λ n h. refl }

-- some more pixels before others
pub copied_before : (depth first left low size k all : ℕ) (value : ℕ → ℕ) (old mid new : List ℕ) → left ≡ low + size → all ≡ size + k → Copied depth (first + left) k (λ i. value (left + i)) old mid → Copied depth (first + low) size (λ i. value (low + i)) mid new → Copied depth (first + low) all (λ i. value (low + i)) old new
copied_before depth first left low size k all value old mid new is total before more = record {
  written = λ i h.
      ⊎_elim
      (λ (e : i < size). more.written i e)
      (λ (e : size ≤ i).
      let at : first + low + i ≡ first + left + (i - size) = omega (arith, is) in
      let back : left + (i - size) ≡ low + i = omega (arith, is) in
      more.others (first + low + i) (λ j l. omega arith) ∙ ap (raw_at depth mid) at ∙ before.written (i - size) (omega (arith, total)) ∙ ap value back)
      (cases_lt i size);
  others = λ n apart. more.others n (λ i h. apart i (omega (arith, total))) ∙ before.others n (λ i h same. apart (size + i) (omega (arith, total)) (omega (arith, same, is)));
}

-- the whole pixels in the front of bytes, and in the rest of them
raw_front : (depth : ℕ) (front back : List ℕ) (n : ℕ) → is_depth depth ≡ true → 8 ≤ depth → (n + 1) * (depth / 8) ≤ length front → raw_at depth (front ++ back) n ≡ raw_at depth front n
raw_front depth front back n is whole within =
    let size = size_of depth is whole in
    let k = depth / 8 in
    let some : 0 < k = omega arith in
    raw_at_whole depth k (front ++ back) n some size
    ∙ little-moved k (front ++ back) front (k * n) (k * n) (λ j h. get_or_append_left front back 0 (k * n + j) (omega (arith, h, within, mul_comm n k)))
    ∙ sym (raw_at_whole depth k front n some size)

raw_back : (depth first : ℕ) (front back : List ℕ) (n : ℕ) → is_depth depth ≡ true → 8 ≤ depth → length front ≡ first * (depth / 8) → raw_at depth (front ++ back) (first + n) ≡ raw_at depth back n
raw_back depth first front back n is whole long =
    let size = size_of depth is whole in
    let k = depth / 8 in
    let some : 0 < k = omega arith in
    raw_at_whole depth k (front ++ back) (first + n) some size
    ∙ little-moved k (front ++ back) back (k * (first + n)) (k * n)
    (λ j h.
    get_or-append_right front back (first * k) (k * (first + n) + j) 0 long (omega (arith, mul_comm first k))
    ∙ ap (λ i. get_or back i 0) (let left : k * (first + n) + j - first * k ≡ k * n + j = omega (arith, mul_comm first k) in left))
    ∙ sym (raw_at_whole depth k back n some size)

front_holds : (depth n first : ℕ) → n < first → (n + 1) * (depth / 8) ≤ first * (depth / 8)
front_holds depth n first h = mul-le (n + 1) (depth / 8) first (depth / 8) (omega arith) (omega arith)

-- pixels that come to the front of bytes, from the rest of them
pub copied_before_split : (depth first count from_first : ℕ) (f : ℕ → ℕ) (old front back new : List ℕ) → is_depth depth ≡ true → 8 ≤ depth → old ≡ front ++ back → length front ≡ from_first * (depth / 8) → length new ≡ length front → first + count ≤ from_first → Copied depth first count (λ i. f (raw_at depth back (0 + i))) front new → Copied depth first count (λ i. f (raw_at depth old (from_first + i))) old (new ++ back)
copied_before_split depth first count from_first f old front back new is whole parts long same apart copied = record {
  written = λ i h.
      let none : 0 + i ≡ i = omega arith in
      let here : (first + i + 1) * (depth / 8) ≤ length new = omega (arith, front_holds depth (first + i) from_first (omega (arith, h, apart)), long, same) in
      raw_front depth new back (first + i) is whole here
      ∙ copied.written i h
      ∙ ap f (ap (raw_at depth back) none ∙ sym (raw_back depth from_first front back i is whole long) ∙ ap (λ bytes. raw_at depth bytes (from_first + i)) (sym parts));
  others = λ n beside.
      ⊎_elim
      (λ (h : n < from_first).
      let low = front_holds depth n from_first h in
      raw_front depth new back n is whole (omega (arith, low, long, same))
      ∙ copied.others n beside
      ∙ sym (raw_front depth front back n is whole (omega (arith, low, long))))
      (λ (h : from_first ≤ n).
      let at : n ≡ from_first + (n - from_first) = omega (arith, h) in
      ap (raw_at depth (new ++ back)) at
      ∙ raw_back depth from_first new back (n - from_first) is whole (same ∙ long)
      ∙ sym (raw_back depth from_first front back (n - from_first) is whole long)
      ∙ ap (raw_at depth (front ++ back)) (sym at))
      (cases_lt n from_first)
      ∙ ap (λ bytes. raw_at depth bytes n) (sym parts);
}

-- and to the rest, from the front
pub copied_behind_split : (depth first count from_first : ℕ) (f : ℕ → ℕ) (old front back new : List ℕ) → is_depth depth ≡ true → 8 ≤ depth → old ≡ front ++ back → length front ≡ first * (depth / 8) → from_first + count ≤ first → Copied depth 0 count (λ i. f (raw_at depth front (from_first + i))) back new → Copied depth first count (λ i. f (raw_at depth old (from_first + i))) old (front ++ new)
copied_behind_split depth first count from_first f old front back new is whole parts long apart copied = record {
  written = λ i h.
      let none : i ≡ 0 + i = omega arith in
      let there : (from_first + i + 1) * (depth / 8) ≤ length front = omega (arith, front_holds depth (from_first + i) first (omega (arith, h, apart)), long) in
      raw_back depth first front new i is whole long
      ∙ ap (raw_at depth new) none
      ∙ copied.written i h
      ∙ ap f (sym (raw_front depth front back (from_first + i) is whole there) ∙ ap (λ bytes. raw_at depth bytes (from_first + i)) (sym parts));
  others = λ n beside.
      ⊎_elim
      (λ (h : n < first).
      let low : (n + 1) * (depth / 8) ≤ length front = omega (arith, front_holds depth n first h, long) in
      raw_front depth front new n is whole low
      ∙ sym (raw_front depth front back n is whole low))
      (λ (h : first ≤ n).
      let at : n ≡ first + (n - first) = omega (arith, h) in
      ap (raw_at depth (front ++ new)) at
      ∙ raw_back depth first front new (n - first) is whole long
      ∙ copied.others (n - first) (λ i l e. beside i l (omega (arith, e, h)))
      ∙ sym (raw_back depth first front back (n - first) is whole long)
      ∙ ap (raw_at depth (front ++ back)) (sym at))
      (cases_lt n first)
      ∙ ap (λ bytes. raw_at depth bytes n) (sym parts);
}

-- ---- rows

-- the rows that are still to be moved are not those above, where they come from above
pub from_beside : (r : Rect) (at q from : Point) (n : ℕ) → at.y ≡ r.min.y +ℤ pos n → r.min.y ≤ℤ from.y → holds (strip at (width r)) q ≡ true → holds (band r n) (carried q r.min from) ≡ false
from_beside r at q from n y order h =
    let b = bounds_of (strip at (width r)) q h in
    false_from_ne_true _ (λ above. let k = bounds_of (band r n) (carried q r.min from) above in absurd (omega (arith, ints, b.top, b.bottom, y, order, k.bottom)))

-- nor those below, where they come from below
pub from_above : (r : Rect) (at q from : Point) (n m : ℕ) → m ≡ n + 1 → at.y ≡ r.min.y +ℤ pos n → from.y ≤ℤ r.min.y → holds (strip at (width r)) q ≡ true → holds r (carried q r.min from) ≡ true → holds (band r m) (carried q r.min from) ≡ true
from_above r at q from n m is y order h inside =
    let b = bounds_of (strip at (width r)) q h in
    let k = bounds_of r (carried q r.min from) inside in
    holds_from (band r m) (carried q r.min from)
    (record { left = k.left; right = k.right; top = k.top; bottom = omega (arith, ints, b.top, b.bottom, y, order, is) })

-- what stands where some rows are as they were, and the rest of a rectangle has become another
abbrev pub below_of : (b c : Bool) (value old : ℕ) → ℕ
below_of b c value old = if b then old else (if c then value else old)

pub below_kept : (b c : Bool) (value old : ℕ) → (c ≡ true → b ≡ true) → below_of b c value old ≡ old
below_kept true c value old all = refl
below_kept false true value old all = absurd (both_ways false refl (all refl))
below_kept false false value old all = refl

below_shrinks : (s b more c : Bool) (shown value old mid new : ℕ) → more ≡ (s || b) → (s ≡ true → b ≡ false) → (s ≡ true → c ≡ true) → (s ≡ true → shown ≡ value) → new ≡ (if s then shown else mid) → mid ≡ below_of more c value old → new ≡ below_of b c value old
below_shrinks true b more c shown value old mid new is apart inside here put before =
    put ∙ here refl ∙ sym (cond-true c value old (inside refl)) ∙ sym (cond-false b old _ (apart refl))
below_shrinks false b more c shown value old mid new is apart inside here put before =
    put ∙ before ∙ ap (λ v. below_of v c value old) is

-- no row is moved yet
pub band_left : (r : Rect) (q : Point) (value old : ℕ) → IsOrdered r → old ≡ below_of (holds (band r (height r)) q) (holds r q) value old
band_left r q value old ordered = sym (below_kept (holds (band r (height r)) q) (holds r q) value old (λ h. band_all r q ordered.down ∙ h))

-- one more row is moved, above the others
pub band_shrinks : (r : Rect) (at q : Point) (n m shown value old mid new : ℕ) → IsOrdered r → m ≡ n + 1 → n < height r → at.x ≡ r.min.x → at.y ≡ r.min.y +ℤ pos n → new ≡ (if holds (strip at (width r)) q then shown else mid) → mid ≡ below_of (holds (band r m) q) (holds r q) value old → (holds (strip at (width r)) q ≡ true → shown ≡ value) → new ≡ below_of (holds (band r n) q) (holds r q) value old
band_shrinks r at q n m shown value old mid new ordered is below x y put before here =
    below_shrinks (holds (strip at (width r)) q) (holds (band r n) q) (holds (band r m) q) (holds r q) shown value old mid new
    (ap (λ k. holds (band r k) q) is ∙ band_more r at q n ordered x y)
    (λ h. let b = bounds_of (strip at (width r)) q h in false_from_ne_true _ (λ above. let k = bounds_of (band r n) q above in absurd (omega (arith, ints, b.top, y, k.bottom))))
    (λ h. row_inside r at q n ordered x y below h)
    here put before

-- all rows are moved
pub band_moved : (r : Rect) (q : Point) (n value old : ℕ) → n ≡ 0 → below_of (holds (band r n) q) (holds r q) value old ≡ (if holds r q then value else old)
band_moved r q n value old none = cond-false (holds (band r n) q) old _ (ap (λ k. holds (band r k) q) none ∙ band_none r q)
