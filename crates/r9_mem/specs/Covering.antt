-- Where a source hides its destination (draw(2)).
use Rattle.std.specs.Prelude.{ℕ, Bool, ◌&&◌, ◌||◌, ◌==◌}
use Rattle.model_pixel.specs.Channels.{expand, mask}

-- Whether an operator, by its number, gives the same on any destination, from a source of this alpha through this mask
-- value: Clear and S do, and SoverD where both are full.
abbrev pub covers : ℕ → ℕ → ℕ → Bool
covers op alpha through = (op == 0) || ((op == 10) || ((op == 11) && ((alpha == 255) && (through == 255))))

-- the same of a source pixel and a mask pixel under their channels
abbrev pub hides : ℕ → ℕ → ℕ → ℕ → ℕ → Bool
hides op src s mask_chan m = covers op (expand src s).a (mask mask_chan m)

-- whether an operator gives the source through a full mask, from a source of this alpha: S does, and SoverD where it is full
abbrev pub takes : ℕ → ℕ → Bool
takes op alpha = (op == 10) || ((op == 11) && (alpha == 255))
