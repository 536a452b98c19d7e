use Rattle.std.proofs.Common.{ℕ, map, ◌∷◌, [], w8}
use Rattle.std.proofs.lemmas.Simd.{below_from_Fits}
use Rattle.r9_kern.proofs.LaneLemmas.{picked_twice, same_bytes}
use Rattle.r9_kern.proofs.block.spread.Goals as goal

pub returns-clause-range : goal.returns-clause-range
returns-clause-range c =
    let xs = c.args.masks in
    picked_twice (map (λ (x : ℕ). x) xs) (same_bytes xs (below_from_Fits w8 xs c.fits-masks.1)) (0 ∷ 0 ∷ 1 ∷ 1 ∷ 2 ∷ 2 ∷ 3 ∷ 3 ∷ [])
