-- What one mark more changes.
use Rattle.std.proofs.Common.{◌≡◌, ◌∙◌, ℕ, ◌+◌, ◌*◌, ◌/◌, ◌-◌, ◌<◌, ◌≤◌, Bool, true, false, List, set, get_or, ap, sym, arith, ⊎_elim}
use Rattle.std.specs.Prelude.{nat_lt, ◌&&◌}
use Rattle.std.proofs.lemmas.Bool.{and_from, and_parts, cases_lt, le-ltb, lt-ltb, ltb-true}
use Rattle.std.proofs.lemmas.List.{get_or-set_other}
use Rattle.std.proofs.lemmas.Nat.{same_from_place}
use Rattle.r9_marks.specs.marks.Cells.{cells_over, touches}
use Rattle.r9_marks.specs.marks.Marks.{marked_in}

pub mark_others : (bits : List Bool) (across column row : ℕ) → column < across → (c r : ℕ) → (c ≡ column → r ≡ row → ⊥)
    → marked_in (set bits (row * across + column) true) across c r ≡ marked_in bits across c r
mark_others bits across column row narrow c r other =
    let new = get_or (set bits (row * across + column) true) (r * across + c) false in
    let old = get_or bits (r * across + c) false in
    ⊎_elim
    (λ (h : c < across).
    ap (λ mark. nat_lt c across && mark)
    (get_or-set_other bits (row * across + column) (r * across + c) true false
    (λ same. let parts = same_from_place r c row column across h narrow same in other parts.1 parts.0)))
    (λ (h : across ≤ c). let beside : nat_lt c across ≡ false = le-ltb c across h in ap (λ b. b && new) beside ∙ sym (ap (λ b. b && old) beside))
    (cases_lt c across)

-- the cells of places
pub touch_tells : (first len cell : ℕ) → touches first len cell ≡ true → (first / 32 ≤ cell) × (cell < cells_over (first + len))
touch_tells first len cell h =
    let parts = and_parts (nat_lt 0 len && nat_lt first (32 * cell + 32)) (nat_lt (32 * cell) (first + len)) h in
    let front = and_parts (nat_lt 0 len) (nat_lt first (32 * cell + 32)) parts.0 in
    let low = ltb-true first (32 * cell + 32) front.1 in
    let high = ltb-true (32 * cell) (first + len) parts.1 in
    (omega (arith, low), omega (arith, high))

pub cell_touched : (first len cell : ℕ) → 0 < len → first / 32 ≤ cell → cell < cells_over (first + len) → touches first len cell ≡ true
cell_touched first len cell some low high =
    and_from _ _ (and_from _ _ (lt-ltb 0 len some) (lt-ltb first (32 * cell + 32) (omega (arith, low)))) (lt-ltb (32 * cell) (first + len) (omega (arith, high)))

-- places lie in no more cells than they are
pub cells_few : (first len : ℕ) → 0 < len → cells_over (first + len) - first / 32 ≤ len
cells_few first len some = omega (arith, some)

-- one row of cells more
pub row_more : (width row top : ℕ) → top ≤ row → width * (row + 1 - top) ≡ width * (row - top) + width
row_more width row top h =
    let more : row + 1 - top ≡ row - top + 1 = omega (arith, h) in
    ap (λ n. width * n) more ∙ omega arith
