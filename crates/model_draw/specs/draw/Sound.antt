-- What each world of the draw device keeps: the book and the images speak of the same things.
use Rattle.std.specs.Prelude.{◌≡◌, ℕ, All, is_some}
use Rattle.model_forest.specs.World.{IsForest, IsLive}
use Rattle.model_draw_parts.specs.declared.images.Thing.TheVariants.{Image, Screen}
use Rattle.model_draw_parts.specs.images.Book.{screen_numbered}
use Rattle.model_draw_parts.specs.images.Release.{is_used, FindsAll}
use Rattle.model_draw.specs.draw.World.{World, next_image}

-- what is there is what is used, so that nothing is left behind
pub record IsAllUsed (world : World) : Type 0 where
  pub images : (i : ℕ) → is_some (world.images i) ≡ is_used world.book (Image i)
  pub screens : (s : ℕ) → is_some (screen_numbered world.book s) ≡ is_used world.book (Screen s)
  -- a window in the book lives, and each window and each id stands there once
  pub windows : All (λ w. IsLive world.images w.image) world.book.windows
  pub finds : FindsAll world.book

pub record IsSound (world : World) : Type 0 where
  pub forest : IsForest world.images
  pub all : IsAllUsed world
  -- the next number is free
  pub number : IsLive world.images (next_image world) → ⊥
