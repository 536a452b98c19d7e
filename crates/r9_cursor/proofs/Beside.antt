-- Pixels and bytes in which the cursor has no point.
use Rattle.std.proofs.Common.{◌≡◌, ℕ, ℤ, Bool, true, false, pos, negsuc, ◌+ℤ◌, ◌-ℤ◌, ◌≤ℤ◌, ◌+◌, ◌-◌, ◌*◌, ◌/◌, ◌^◌, ◌<◌, ◌≤◌, min, ⊎_elim, refl, ap, ◌∙◌, sym, subst, arith, cond, None, Option, int_le}
use Rattle.std.specs.Prelude.{nat_lt, nat_le, ◌&&◌}
use Rattle.std.proofs.lemmas.Int.{by_lt_z, ints}
use Rattle.std.proofs.lemmas.Nat.{mul-le}
use Rattle.std.proofs.lemmas.Bool.{and_parts, cases_lt, cond-false, false_from_ne_true, leb-true, ltb-true}
use Rattle.r9_geom.specs.declared.Point.{Point}
use Rattle.r9_geom.specs.declared.Rect.{Rect}
use Rattle.r9_geom.specs.Geometry.{distance, height, natural, point_at, width, IsOrdered, IsRectNear}
use Rattle.r9_geom.proofs.GeometryLemmas.{distance_below, distance_is, width_most}
use Rattle.model_pixel.specs.Channels.{depth, is_depth}
use Rattle.model_pixel.specs.Rows.{row_bytes, skip}
use Rattle.model_client.specs.cursor.Cursor.{cursor_at, has, shape_at}
use Rattle.model_client.specs.cursor.Rows.{put_in}
use Rattle.r9_plane.proofs.PackedLemmas.{by_depth, by_whole, depth_most}
use Rattle.r9_plane.proofs.RowLemmas.{row_fits}
use Rattle.r9_cursor.specs.Bytes.{byte_under}
use Rattle.r9_cursor.proofs.Bytes.{small_kept, whole_kept}

-- ---- distances

natural_none : (z : ℤ) → z ≤ℤ pos 0 → natural z ≡ 0
natural_none (pos n) h = omega (arith, ints)
natural_none (negsuc n) h = refl

-- an integer below the first counts as the first
pub distance_from : (low at most : ℤ) → (at ≤ℤ low → most ≡ low) → (low ≤ℤ at → most ≡ at) → distance low most ≡ distance low at
distance_from low at most under above =
    by_lt_z low at
    (λ less. ap (distance low) (above (omega (arith, ints))))
    (λ more. natural_none (most -ℤ low) (let same = under more in omega (arith, ints)) ∙ sym (natural_none (at -ℤ low) (omega (arith, ints))))

distance_past : (a b : ℤ) (n : ℕ) → distance a b ≤ n → b ≤ℤ (a +ℤ pos n)
distance_past a b n h = by_lt_z a b (λ less. let d = distance_is a b (omega (arith, ints)) in omega (arith, ints)) (λ more. omega (arith, ints))

-- ---- pixels

-- the columns and rows of its points
record Own (dx dy : ℤ) : Type 0 where
  pub left : pos 0 ≤ℤ dx
  pub right : dx ≤ℤ pos 15
  pub top : pos 0 ≤ℤ dy
  pub bottom : dy ≤ℤ pos 15

int_le_true : (a b : ℤ) → int_le a b ≡ true → a ≤ℤ b
int_le_true a b h = grind (arith, ints)

own_of : (dx dy : ℤ) → has dx dy ≡ true → Own dx dy
own_of dx dy h =
    let both = and_parts (int_le (pos 0) dx && int_le dx dy) (int_le dy (pos 15)) h in
    let first = and_parts (int_le (pos 0) dx) (int_le dx dy) both.0 in
    let left = int_le_true (pos 0) dx first.0 in
    let below = int_le_true dx dy first.1 in
    let bottom = int_le_true dy (pos 15) both.1 in
    record { left = left; right = omega (arith, ints); top = omega (arith, ints); bottom = bottom }

not_own : (chan : ℕ) (dx dy : ℤ) → (Own dx dy → ⊥) → shape_at chan dx dy ≡ None
not_own chan dx dy none = cond-false (has dx dy) _ _ (false_from_ne_true (has dx dy) (λ h. none (own_of dx dy h)))

none_where : (b : Bool) (o : Option ℕ) → (b ≡ true → o ≡ None) → cond b o None ≡ None
none_where true o none = none refl
none_where false o none = refl

none_in : (r : Rect) (chan : ℕ) (at : Point) (row n : ℕ) → (skip r (depth chan) ≤ n → n < skip r (depth chan) + width r → Own (r.min.x +ℤ pos (n - skip r (depth chan)) -ℤ at.x) (r.min.y +ℤ pos row -ℤ at.y) → ⊥) → put_in r chan at row n ≡ None
none_in r chan at row n none =
    let first = skip r (depth chan) in
    let p = point_at r (n - first) row in
    none_where (nat_le first n && nat_lt n (first + width r)) (cursor_at chan at p)
    (λ h. let both = and_parts (nat_le first n) (nat_lt n (first + width r)) h in
    not_own chan (p.x -ℤ at.x) (p.y -ℤ at.y) (none (leb-true first n both.0) (ltb-true n (first + width r) both.1)))

pub none_above : (r : Rect) (chan : ℕ) (at : Point) (row n first : ℕ) → first ≡ min (distance r.min.y at.y) (height r) → row < first → put_in r chan at row n ≡ None
none_above r chan at row n first is above =
    let d = distance_below r.min.y at.y row (omega (arith, is, above)) in
    none_in r chan at row n (λ low high own. omega (arith, ints, own.top, d))

pub none_below : (r : Rect) (chan : ℕ) (at : Point) (row n end : ℕ) → end ≡ min (distance r.min.y (at.y +ℤ pos 16)) (height r) → end ≤ row → row < height r → put_in r chan at row n ≡ None
none_below r chan at row n end is below within =
    let d = distance_past r.min.y (at.y +ℤ pos 16) row (omega (arith, is, below, within)) in
    none_in r chan at row n (λ low high own. omega (arith, ints, own.bottom, d))

none_left : (r : Rect) (chan : ℕ) (at : Point) (row n first : ℕ) → first ≡ min (distance r.min.x at.x) (width r) → n < skip r (depth chan) + first → put_in r chan at row n ≡ None
none_left r chan at row n first is left =
    none_in r chan at row n
    (λ low high own. let d = distance_below r.min.x at.x (n - skip r (depth chan)) (omega (arith, is, left, low)) in omega (arith, ints, own.left, d))

none_right : (r : Rect) (chan : ℕ) (at : Point) (row n end : ℕ) → end ≡ min (distance r.min.x (at.x +ℤ pos 16)) (width r) → skip r (depth chan) + end ≤ n → put_in r chan at row n ≡ None
none_right r chan at row n end is right =
    none_in r chan at row n
    (λ low high own. let d = distance_past r.min.x (at.x +ℤ pos 16) (n - skip r (depth chan)) (omega (arith, is, right, low, high)) in omega (arith, ints, own.right, d))

-- ---- bytes

-- the pixels of a byte before those of pixel number m
record Before (depth m k : ℕ) : Type 0 where
  pub small : depth < 8 → (j : ℕ) → j < 8 / depth → k * (8 / depth) + j < m
  pub whole : 8 ≤ depth → k / (depth / 8) < m

before_at : (depth m k : ℕ) → is_depth depth ≡ true → k < m * depth / 8 → Before depth m k
before_at depth m k is before = record {
  small = λ small j h.
      by_depth (λ d. k < m * d / 8 → j < 8 / d → k * (8 / d) + j < m) depth is small
      (λ a b. omega (arith, a, b)) (λ a b. omega (arith, a, b)) (λ a b. omega (arith, a, b)) before h;
  whole = λ whole.
      by_whole (λ d. k < m * d / 8 → k / (d / 8) < m) depth is whole
      (λ a. omega (arith, a)) (λ a. omega (arith, a)) (λ a. omega (arith, a)) (λ a. omega (arith, a)) before;
}

-- the pixels of a byte behind those of the pixels below number m
record Behind (depth m k : ℕ) : Type 0 where
  pub small : depth < 8 → (j : ℕ) → j < 8 / depth → m ≤ k * (8 / depth) + j
  pub whole : 8 ≤ depth → m ≤ k / (depth / 8)

behind_at : (depth m k : ℕ) → is_depth depth ≡ true → (m * depth + 7) / 8 ≤ k → Behind depth m k
behind_at depth m k is behind = record {
  small = λ small j h.
      by_depth (λ d. (m * d + 7) / 8 ≤ k → j < 8 / d → m ≤ k * (8 / d) + j) depth is small
      (λ a b. omega (arith, a, b)) (λ a b. omega (arith, a, b)) (λ a b. omega (arith, a, b)) behind h;
  whole = λ whole.
      by_whole (λ d. (m * d + 7) / 8 ≤ k → m ≤ k / (d / 8)) depth is whole
      (λ a. omega (arith, a)) (λ a. omega (arith, a)) (λ a. omega (arith, a)) (λ a. omega (arith, a)) behind;
}

pub left_kept : (r : Rect) (chan : ℕ) (at : Point) (bits row k old first : ℕ) → bits ≡ depth chan → is_depth bits ≡ true → old < 256 → first ≡ min (distance r.min.x at.x) (width r) → k < (skip r bits + first) * bits / 8 → byte_under bits (put_in r chan at row) k old ≡ old
left_kept r chan at bits row k old first bit is fits own left =
    let before = before_at bits (skip r bits + first) k is left in
    let none = λ (n : ℕ) (h : n < skip r bits + first). none_left r chan at row n first own (subst (λ (d : ℕ). n < skip r d + first) bit h) in
    ⊎_elim
    (λ (small : bits < 8). small_kept bits (put_in r chan at row) k old is small fits (λ j h. none (k * (8 / bits) + j) (before.small small j h)))
    (λ (whole : 8 ≤ bits). whole_kept bits (put_in r chan at row) k old whole (none (k / (bits / 8)) (before.whole whole)))
    (cases_lt bits 8)

pub right_kept : (r : Rect) (chan : ℕ) (at : Point) (bits row k old end : ℕ) → bits ≡ depth chan → is_depth bits ≡ true → old < 256 → end ≡ min (distance r.min.x (at.x +ℤ pos 16)) (width r) → ((skip r bits + end) * bits + 7) / 8 ≤ k → byte_under bits (put_in r chan at row) k old ≡ old
right_kept r chan at bits row k old end bit is fits own right =
    let behind = behind_at bits (skip r bits + end) k is right in
    let none = λ (n : ℕ) (h : skip r bits + end ≤ n). none_right r chan at row n end own (subst (λ (d : ℕ). skip r d + end ≤ n) bit h) in
    ⊎_elim
    (λ (small : bits < 8). small_kept bits (put_in r chan at row) k old is small fits (λ j h. none (k * (8 / bits) + j) (behind.small small j h)))
    (λ (whole : 8 ≤ bits). whole_kept bits (put_in r chan at row) k old whole (none (k / (bits / 8)) (behind.whole whole)))
    (cases_lt bits 8)

-- the bytes of its columns are some of the row's
pub end_fits : (r : Rect) (bits end : ℕ) → IsRectNear r → IsOrdered r → is_depth bits ≡ true → end ≤ width r → ((skip r bits + end) * bits + 7) / 8 ≤ row_bytes r bits
end_fits r bits end near ordered is within =
    omega (arith, mul-le (skip r bits + end) bits (skip r bits + width r) bits (omega (arith, within)) (omega arith), row_fits r bits near ordered is)

-- a number of bits that is far below 2^64
pub few_bits : (r : Rect) (skip count bits : ℕ) → IsRectNear r → IsOrdered r → is_depth bits ≡ true → skip < 8 → count ≤ width r → (skip + count) * bits ≤ 2 ^ 47
few_bits r skip count bits near ordered is small within =
    omega (arith, mul-le (skip + count) bits (2 ^ 41 + 8) 32 (omega (arith, small, within, width_most r near ordered)) (depth_most bits is))
