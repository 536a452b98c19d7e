-- Images without a thing that has gone.
use Rattle.std.specs.Prelude.{◌≡◌, ℕ, true, List, [], is_some, option_map}
use Rattle.std.specs.List.{list_any}
use Rattle.model_forest.specs.World.{World, image_at}
use Rattle.model_forest.specs.Numbers.{Numbers, given_back}
use Rattle.model_forest.specs.Steps.{after_release}
use Rattle.model_draw_parts.specs.declared.images.Thing.{Thing}
use Rattle.model_draw_parts.specs.declared.images.Thing.TheVariants.{Image, Screen}
use Rattle.model_draw_parts.specs.images.Book.{Book, screen_of}
use Rattle.model_draw_parts.specs.images.Release.{HasScreens, IsInOrder, IsOnce, same_thing}
use Rattle.r9_device.specs.device.Kept.{standing_on}

abbrev pub images_without : World → Thing → World
images_without images (Image i) = after_release images i
images_without images (Screen s) = images

-- the number of an image comes back
abbrev pub numbers_without : Numbers → Thing → Numbers
numbers_without numbers (Image i) = given_back numbers i
numbers_without numbers (Screen s) = numbers

-- Things may go one after the other that a book had: the images live, each stands where its screen has it, and each thing
-- goes once, after all that refer to it.
pub record CanRelease (images : World) (book : Book) (gone : List Thing) : Type 0 where
  pub stands : (i : ℕ) → (image_at images i).standing ≡ option_map (standing_on book) (screen_of book i)
  pub screens : HasScreens book
  pub live : (i : ℕ) → list_any (same_thing (Image i)) gone ≡ true → is_some (images i) ≡ true
  pub once : IsOnce gone
  pub order : IsInOrder book [] gone
