use Rattle.std.proofs.Common.{◌≡◌, ◌-◌, ◌/◌, ◌^◌, ◌<◌, ◌≤◌, ⊎_elim, refl}
use Rattle.std.proofs.lemmas.Bool.{cases_lt}
use Rattle.r9_plane.proofs.PackedLemmas.{by_depth, by_whole}
use Rattle.r9_plane.proofs.keeping.all_bits.Goals as goal

pub returns : goal.returns
returns c =
    let depth = c.args.depth in
    ⊎_elim
    (λ (small : depth < 8). by_depth (λ d. 4294967295 / 2 ^ (32 - d) ≡ 2 ^ d - 1) depth c.requires small refl refl refl)
    (λ (whole : 8 ≤ depth). by_whole (λ d. 4294967295 / 2 ^ (32 - d) ≡ 2 ^ d - 1) depth c.requires whole refl refl refl refl)
    (cases_lt depth 8)
