-- A byte of a row, of which only the old byte is known.
use Rattle.std.specs.Prelude.{ℕ, ◌-◌, ◌*◌, ◌/◌, ◌%◌, ◌^◌, nat_lt, Option, if◌then◌else◌}
use Rattle.std.specs.Option.{unwrap_or, option_map_or}
use Rattle.model_pixel.specs.Rows.{joined}

-- pixel number n of a row, below 8 bits, in its byte
abbrev pub old_bits : ℕ → ℕ → ℕ → ℕ
old_bits depth old n = old / 2 ^ (depth * (8 / depth - 1 - n % (8 / depth))) % 2 ^ depth

-- byte k of a row in which some pixels are put over the old ones, by their numbers in the row
unfoldable pub byte_under : ℕ → (ℕ → Option ℕ) → ℕ → ℕ → ℕ
byte_under depth put k old =
    if nat_lt depth 8
    then joined depth (λ n. unwrap_or (put n) (old_bits depth old n)) (k * (8 / depth)) (8 / depth)
    else option_map_or (λ raw. raw / 2 ^ (8 * (k % (depth / 8))) % 256) (put (k / (depth / 8))) old
