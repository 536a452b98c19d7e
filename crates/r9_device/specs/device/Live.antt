-- What lives.
use Rattle.std.specs.Prelude.{◌≡◌, ℕ, true, is_some}
use Rattle.model_forest.specs.World.{World as Images, image_at}
use Rattle.model_draw_parts.specs.images.Book.{Book, fill_of, image_of, screen_numbered}
use Rattle.model_draw.specs.draw.World.{World}

-- an image that is there
abbrev pub IsLiveIn : World → ℕ → Type 0
IsLiveIn world i = is_some (world.images i) ≡ true

-- a screen on which there may be a window of these channels
pub record CanHold (images : Images) (book : Book) (s chan : ℕ) : Type 0 where
  pub there : is_some (screen_numbered book s) ≡ true
  pub image : is_some (images (image_of book s)) ≡ true
  pub fill : is_some (images (fill_of book s)) ≡ true
  pub alike : (image_at images (image_of book s)).chan ≡ chan
