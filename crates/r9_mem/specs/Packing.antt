-- Channels packed from a value for each kind.
use Rattle.std.specs.Prelude.{ℕ, ◌+◌, ◌-◌, ◌*◌, ◌/◌, ◌^◌, ◌==◌, if◌then◌else◌, List, [], ◌∷◌}
use Rattle.model_pixel.specs.Channels.{Channel, Colour, component, GREY, RED}

-- the bits of channels whose lowest comes first, where f gives the value of each kind at 8 bits
abbrev pub packed_by : (ℕ → ℕ) → List Channel → ℕ
packed_by f [] = 0
packed_by f (c ∷ cs) = f c.kind / 2 ^ (8 - c.bits) + 2 ^ c.bits * packed_by f cs

-- what a colour whose red may stand for its grey has for a kind
abbrev pub shown : Colour → ℕ → ℕ
shown colour kind = component (if kind == GREY then RED else kind) colour
