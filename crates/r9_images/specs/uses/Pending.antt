-- Things that are still to be looked at.
use Rattle.std.specs.Prelude.{ℕ, List}
use Rattle.model_draw_parts.specs.declared.images.Thing.{Thing}

-- the things, and how many there is room for
pub record Things : Type 0 where
  pub things : List Thing
  pub most : ℕ
