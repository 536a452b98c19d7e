-- A packed pixel fits its bits.
use Rattle.std.proofs.Common.{◌≡◌, ◌∙◌, ℕ, zero, suc, ◌+◌, ◌*◌, ◌/◌, ◌<◌, ◌≤◌, ◌^◌, true, false, List, get_or, ⊎_elim, sym, ap, subst, arith}
use Rattle.std.proofs.lemmas.Bool.{cases_Bool, cases_lt}
use Rattle.std.proofs.lemmas.Nat.{pow-add, pow_pos}
use Rattle.r9_geom.specs.declared.Point.{Point}
use Rattle.r9_geom.specs.declared.Rect.{Rect}
use Rattle.r9_geom.specs.Geometry.{holds}
use Rattle.model_pixel.specs.Channels.{depth, is_depth}
use Rattle.model_pixel.specs.Rows.{little, raw_at}
use Rattle.r9_plane.specs.Pixels.{number_of, pixel_of}
use Rattle.r9_plane.proofs.PackedLemmas.{raw_at_small, raw_at_whole, size_of}
use Rattle.r9_plane.proofs.PlaneLemmas.{pixel_inside, pixel_outside}

little_below : (k : ℕ) (bytes : List ℕ) (at : ℕ) → ((j : ℕ) → get_or bytes j 0 < 256) → little k bytes at < 2 ^ (8 * k)
little_below zero bytes at each = omega arith
little_below (suc k) bytes at each =
    let rest = little_below k bytes (at + 1) each in
    let more : 8 * k + 8 ≡ 8 * suc k = omega arith in
    let power : 2 ^ (8 * suc k) ≡ 2 ^ (8 * k) * 2 ^ 8 = ap (λ n. 2 ^ n) (sym more) ∙ pow-add 2 (8 * k) 8 in
    omega (arith, each at, rest, power)

pub raw_at_below : (bits : ℕ) (bytes : List ℕ) (n : ℕ) → is_depth bits ≡ true → ((j : ℕ) → get_or bytes j 0 < 256) → raw_at bits bytes n < 2 ^ bits
raw_at_below bits bytes n is each =
    ⊎_elim
    (λ (small : bits < 8).
    let positive = pow_pos bits in
    omega (arith, raw_at_small bits bytes n small, positive))
    (λ (whole : 8 ≤ bits).
    let size = size_of bits is whole in
    subst (λ m. m < 2 ^ bits) (sym (raw_at_whole bits (bits / 8) bytes n (omega arith) size))
    (subst (λ m. little (bits / 8) bytes (bits / 8 * n) < 2 ^ m) (sym size) (little_below (bits / 8) bytes (bits / 8 * n) each)))
    (cases_lt bits 8)

-- what a plane shows at a point, within its rectangle and outside
pub pixel_below : (r : Rect) (chan : ℕ) (bytes : List ℕ) (p : Point) → ((n : ℕ) → raw_at (depth chan) bytes n < 2 ^ depth chan) → pixel_of r chan bytes p < 2 ^ depth chan
pixel_below r chan bytes p each =
    ⊎_elim
    (λ (h : holds r p ≡ true). subst (λ n. n < 2 ^ depth chan) (sym (pixel_inside r chan bytes p h)) (each (number_of r p)))
    (λ (h : holds r p ≡ false). subst (λ n. n < 2 ^ depth chan) (sym (pixel_outside r chan bytes p h)) (pow_pos (depth chan)))
    (cases_Bool (holds r p))
