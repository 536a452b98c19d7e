-- The messages that move windows (draw(3)). Each gives the world after it, or its first refusal.
use Rattle.std.specs.Prelude.{ℕ, ◌==◌, Bool, true, false, not, ◌&&◌, ◌||◌, List, [], ◌∷◌, Option, Ok, if◌then◌else◌}
use Rattle.std.specs.Option.{option_map_or}
use Rattle.std.specs.List.{list_all}
use Rattle.r9_geom.specs.declared.Point.{Point}
use Rattle.r9_geom.specs.declared.Rect.{Rect}
use Rattle.r9_geom.specs.Geometry.{at_min}
use Rattle.model_text.specs.text.Outcome.{Outcome, ◌>>=◌, refuse_if}
use Rattle.model_forest.specs.Stack.{after_raise, after_lower}
use Rattle.model_forest.specs.Steps.{after_origin}
use Rattle.model_draw_parts.specs.images.Book.{Book, by_name, screen_of}
use Rattle.model_draw.specs.draw.World.{World, with_images, look, at_number}
use Rattle.model_draw.specs.draw.Making.{is_near_rect, is_window, farthest}

-- a window under an id that no name made: 20 where it is none
abbrev pub look_window : World → ℕ → ℕ → Outcome ℕ
look_window world k id = do
  i ← look world k id
  _ ← refuse_if (not (is_window world i) || by_name world.book k id) 20
  Ok i

-- both rectangles that a window would get stay near 0
abbrev pub stays_near : Rect → Point → Point → Bool
stays_near r rmin scr = is_near_rect farthest (at_min r rmin) && is_near_rect farthest (at_min r scr)

-- `o`: move a window, in its own coordinates and on its parent
unfoldable pub move_window : ℕ → World → ℕ → Point → Point → Outcome World
move_window k world id rmin scr = do
  i ← look_window world k id
  _ ← refuse_if (not (stays_near (at_number world i).r rmin scr)) 9
  Ok (with_images world (after_origin world.images i rmin scr))

-- the windows of some ids, in their order
abbrev pub look_windows : World → ℕ → List ℕ → Outcome (List ℕ)
look_windows world k [] = Ok []
look_windows world k (id ∷ ids) = do
  i ← look_window world k id
  rest ← look_windows world k ids
  Ok (i ∷ rest)

abbrev pub is_on_screen : Book → Option ℕ → ℕ → Bool
is_on_screen book s i = option_map_or (λ a. option_map_or (λ b. a == b) (screen_of book i) false) s false

-- all stand on the screen of the first
abbrev pub are_on_one_screen : Book → List ℕ → Bool
are_on_one_screen book [] = true
are_on_one_screen book (i ∷ is) = list_all (is_on_screen book (screen_of book i)) is

-- `t`: windows to the top or to the bottom
unfoldable pub restack : ℕ → World → Bool → List ℕ → Outcome World
restack k world top ids = do
  group ← look_windows world k ids
  _ ← refuse_if (not (are_on_one_screen world.book group)) 22
  Ok (with_images world (if top then after_raise world.images group else after_lower world.images group))
