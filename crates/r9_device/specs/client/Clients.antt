-- The entry of a connection.
use Rattle.std.specs.Prelude.{ℕ, List}
use Rattle.std.specs.Option.{option_map_or}
use Rattle.model_text.specs.text.Map.{lookup}
use Rattle.model_draw.specs.draw.World.{Client, new_client}

abbrev pub entry_of : List (ℕ × Client) → ℕ → Client
entry_of entries k = option_map_or (λ c. c) (lookup entries k) new_client
