use Rattle.std.proofs.Common.{◌≡◌, ◌∙◌, ap, arith, refl, ℕ, ℤ, pos, negsuc, ◌/◌, ◌≤ℤ◌, max, w64, to_z, of_z}
use Rattle.std.proofs.lemmas.Int.{ints}
use Rattle.std.specs.Prelude.{nat_abs}
use Rattle.std.specs.Int.{int_rem_euclid}
use Rattle.r9_geom.specs.Geometry.{natural}
use Rattle.model_pixel.specs.Rows.{skip}
use Rattle.r9_cursor.proofs.cursor.skip.Goals as goal

-- an integer that is not negative, as a number
abs_is : (z : ℤ) → pos 0 ≤ℤ z → nat_abs z ≡ natural z
abs_is (pos n) h = refl
abs_is (negsuc n) h = absurd (omega (arith, ints))

size_is : (z : ℤ) (most n : ℕ) → z ≡ pos most → most ≡ max n 1 → z ≡ pos (max 1 n)
size_is z most n is more = is ∙ ap pos (more ∙ omega arith)

pub returns-clause-value : goal.returns-clause-value
unfolding skip
returns-clause-value c =
    let z = c.rem_euclid.result in
    let size : c.from.result ≡ pos (max 1 (8 / c.args.depth)) = size_is c.from.result c.max.result (8 / c.args.depth) c.from.ensures c.max.ensures in
    let left : to_z w64 (of_z w64 c.args.r.min.x) ≡ c.args.r.min.x = omega (arith, ints, c.requires.near.min.left, c.requires.near.min.right) in
    let count : to_z w64 (of_z w64 c.from.result) ≡ c.from.result = omega (arith, ints) in
    let rest : z ≡ int_rem_euclid c.args.r.min.x (pos (max 1 (8 / c.args.depth))) = c.rem_euclid.ensures.value ∙ (λ i. int_rem_euclid (left i) ((count ∙ size) i)) in
    let same : to_z w64 (of_z w64 z) ≡ z = omega (arith, ints) in
    ap nat_abs same ∙ abs_is z (omega (arith, ints, c.rem_euclid.ensures.lower_bound)) ∙ ap natural rest
