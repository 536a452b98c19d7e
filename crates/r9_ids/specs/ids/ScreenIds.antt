-- Screen ids in ascending order by connection and then by id, each once.
use Rattle.std.specs.Prelude.{ℕ, List}
use Rattle.model_draw_parts.specs.declared.images.ScreenId.{ScreenId}

-- the ids, and for how many more there is room
pub record Ids : Type 0 where
  pub ids : List ScreenId
  pub room : ℕ
