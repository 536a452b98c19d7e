use Rattle.std.proofs.Common.{◌≡◌, ℕ, ◌≤◌, ◌^◌, ◌∙◌, ◌+ℤ◌, ◌+◌, ◌*◌, ap, pos, min, arith, w64, to_z, of_z}
use Rattle.std.proofs.lemmas.Int.{ints}
use Rattle.r9_geom.specs.Geometry.{distance, width}
use Rattle.model_pixel.specs.Rows.{skip}
use Rattle.r9_cursor.proofs.Beside.{end_fits, few_bits, left_kept, right_kept}
use Rattle.r9_cursor.proofs.cursor.Cursor.bytes.Goals.{After-from-depth}
use Rattle.r9_cursor.proofs.cursor.Cursor.bytes.Goals as goal

-- the bits before a pixel of a row, as they are counted
counted : (c : After-from-depth) (count : ℕ) → (c.args.self.now.skip + count) * c.from-depth.result ≡ (skip c.args.self.now.r c.args.self.now.depth + count) * c.args.self.now.depth
counted c count = λ i. (c.args.self.now.skip_is i + count) * c.from-depth.ensures i

few : (c : After-from-depth) (count : ℕ) → count ≤ c.args.self.now.columns → (c.args.self.now.skip + count) * c.from-depth.result ≤ 2 ^ 47
few c count within =
    let cursor = c.args.self.now in
    omega (arith, ap (λ n. (cursor.skip + count) * n) c.from-depth.ensures, few_bits cursor.r cursor.skip count cursor.depth cursor.near cursor.ordered cursor.lawful cursor.skip_small (omega (arith, within, cursor.columns_are)))

pub overflow_mul-result : goal.overflow_mul-result
overflow_mul-result c = record { fits = omega (arith, few c c.own_places-first.result.0 (omega (arith, c.own_places-first.ensures.first))) }

pub overflow_mul-result-2 : goal.overflow_mul-result-2
overflow_mul-result-2 c = record { fits = omega (arith, few c c.own_places-first.result.1 (omega (arith, c.own_places-first.ensures.end))) }

pub overflow_add-result-3 : goal.overflow_add-result-3
overflow_add-result-3 c = record { fits = omega (arith, few c c.own_places-first.result.1 (omega (arith, c.own_places-first.ensures.end))) }

pub returns-clause-range : goal.returns-clause-range
returns-clause-range c = omega (arith, few c c.own_places-first.result.1 (omega (arith, c.own_places-first.ensures.end)))

pub returns-clause-left : goal.returns-clause-left
returns-clause-left c =
    let cursor = c.args.self.now in
    let low : to_z w64 (of_z w64 cursor.r.min.x) ≡ cursor.r.min.x = omega (arith, ints, cursor.near.min.left, cursor.near.min.right) in
    let place : to_z w64 (of_z w64 cursor.at.x) ≡ cursor.at.x = omega (arith, ints, cursor.at_near.left, cursor.at_near.right) in
    let first : c.own_places-first.result.0 ≡ min (distance cursor.r.min.x cursor.at.x) (width cursor.r) =
    c.own_places-first.ensures.first ∙ (λ i. min (distance (low i) (place i)) (cursor.columns_are i)) in
    λ row k old fits left.
    left_kept cursor.r cursor.chan cursor.at cursor.depth row k old c.own_places-first.result.0 cursor.depth_is cursor.lawful fits first (omega (arith, left, counted c c.own_places-first.result.0))

pub returns-clause-right : goal.returns-clause-right
returns-clause-right c =
    let cursor = c.args.self.now in
    let low : to_z w64 (of_z w64 cursor.r.min.x) ≡ cursor.r.min.x = omega (arith, ints, cursor.near.min.left, cursor.near.min.right) in
    let place : to_z w64 (of_z w64 cursor.at.x) ≡ cursor.at.x = omega (arith, ints, cursor.at_near.left, cursor.at_near.right) in
    let end : c.own_places-first.result.1 ≡ min (distance cursor.r.min.x (cursor.at.x +ℤ pos 16)) (width cursor.r) =
    c.own_places-first.ensures.end ∙ (λ i. min (distance (low i) (place i +ℤ pos 16)) (cursor.columns_are i)) in
    λ row k old fits right.
    right_kept cursor.r cursor.chan cursor.at cursor.depth row k old c.own_places-first.result.1 cursor.depth_is cursor.lawful fits end (omega (arith, right, counted c c.own_places-first.result.1))

pub returns-clause-end : goal.returns-clause-end
returns-clause-end c =
    let cursor = c.args.self.now in
    omega (arith, counted c c.own_places-first.result.1, end_fits cursor.r cursor.depth c.own_places-first.result.1 cursor.near cursor.ordered cursor.lawful (omega (arith, c.own_places-first.ensures.end, cursor.columns_are)))
