-- The bits of a source pixel that stay.
use Rattle.std.specs.Prelude.{◌≡◌, ℕ, Option, IfSome}
use Rattle.std.specs.Int.Bits.{bit_and}
use Rattle.model_pixel.specs.Channels.{expand, pack}

-- the bits of a source pixel that are what it is under the target's channels
abbrev pub AreKept : Option ℕ → ℕ → ℕ → Type 0
AreKept kept dst src = IfSome kept (λ bits. (s : ℕ) → bit_and s bits ≡ pack dst (expand src s))
