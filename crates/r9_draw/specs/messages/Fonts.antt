-- What the messages that make fonts do (draw(3)), where they are not refused.
use Rattle.std.specs.Prelude.{◌≡◌, ◌^◌, ℕ, true, is_some, IsSome}
use Rattle.r9_geom.specs.Geometry.{IsNearBy, IsRectNearBy}
use Rattle.model_text.specs.text.Map.{lookup}
use Rattle.model_draw_parts.specs.declared.fonts.Cell.{Cell}
use Rattle.model_draw_parts.specs.fonts.Font.{Font, has_index}
use Rattle.model_forest.specs.Draw.{after_draw}
use Rattle.r9_device.specs.client.Fonts.{font_at, with_character}
use Rattle.model_draw.specs.draw.World.{World, client_of, with_images}
use Rattle.model_draw.specs.draw.Writing.{s_alone, unmasked, with_font}
use Rattle.r9_draw.specs.declared.messages.plan.Loading.{Loading}

-- the font of an image id, where it is one
abbrev pub font_of_id : World → (k id : ℕ) → Font
font_of_id world k id = font_at (client_of world k).fonts id

abbrev pub cell_of : Loading → Cell
cell_of l = record { r = l.r; left = l.left; width = l.width }

-- the font with the new character
abbrev pub font_with : World → ℕ → Loading → Font
font_with world k l = with_character (font_of_id world k l.id) l.index (cell_of l)

unfoldable pub after_load_cell : ℕ → World → Loading → World
after_load_cell k world l =
    with_font
    (with_images world (after_draw world.images (unmasked l.cache.0 l.r l.r l.src.0 l.sp s_alone)))
    k
    l.id
    (font_with world k l)

-- the images live, and the font has the character
pub record CanLoad (k : ℕ) (world : World) (l : Loading) : Type 0 where
  pub cache : is_some (world.images l.cache.0) ≡ true
  pub src : is_some (world.images l.src.0) ≡ true
  pub near : IsRectNearBy (2 ^ 32) l.r
  pub source_near : IsNearBy (2 ^ 32) l.sp
  pub font : IsSome (lookup (client_of world k).fonts l.id)
  pub index : has_index (font_of_id world k l.id) l.index ≡ true
