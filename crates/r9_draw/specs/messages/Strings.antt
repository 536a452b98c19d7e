-- What a string asks for.
use Rattle.std.specs.Prelude.{ℕ, Option}
use Rattle.std.specs.Option.{option_map}
use Rattle.r9_geom.specs.declared.Point.{Point}
use Rattle.r9_dmsg.specs.declared.writing.Writing.{Writing}

-- the image id and the point under it, where it has a background
abbrev pub background_of : Writing → Option (ℕ × Point)
background_of asked = option_map (λ b. (b.id, b.p)) asked.background
