-- What the images and the book of a draw device keep together.
use Rattle.std.specs.Prelude.{◌≡◌, ◌==◌, ◌^◌, ℕ, true, false, Some, is_some, option_map}
use Rattle.r9_geom.specs.Geometry.{HasPoints, IsOrdered, IsRectNearBy}
use Rattle.model_forest.specs.declared.Standing.{Standing}
use Rattle.model_forest.specs.World.{Image, World, image_at}
use Rattle.model_draw_parts.specs.declared.images.Thing.TheVariants.{Image as Shown, Screen}
use Rattle.model_draw_parts.specs.images.Book.{Book, fill_of, image_id, image_of, screen_numbered, screen_of}
use Rattle.model_draw_parts.specs.images.Release.{is_used, FindsAll, HasScreens}

-- where a window stands that is on a screen
abbrev pub standing_on : Book → ℕ → Standing
standing_on book s = record { parent = image_of book s; fill = fill_of book s }

-- the image stands where its screen has it, or nowhere; the coordinates can be written in 11 characters
pub record IsPlaced (book : Book) (i : ℕ) (image : Image) : Type 0 where
  pub stands : image.standing ≡ option_map (standing_on book) (screen_of book i)
  pub ordered : IsOrdered image.r
  pub near : IsRectNearBy (2 ^ 32) image.r
  pub clip : IsRectNearBy (2 ^ 33) image.clipr

pub record IsKept (images : World) (book : Book) : Type 0 where
  -- an image that is used lives
  pub live : (i : ℕ) → is_used book (Shown i) ≡ true → is_some (images i) ≡ true
  pub placed : (i : ℕ) → IsPlaced book i (image_at images i)
  -- a screen that is used is there
  pub screens : HasScreens book
  -- an image that lives is used, and a screen that is there
  pub used : (i : ℕ) → is_some (images i) ≡ true → is_used book (Shown i) ≡ true
  pub screens_used : (s : ℕ) → is_some (screen_numbered book s) ≡ true → is_used book (Screen s) ≡ true
  pub finds : FindsAll book
  -- the display is image 0, the only one that may have no points
  pub display : option_map (λ e. e.image) (image_id book 0 0) ≡ Some 0
  pub points : (i : ℕ) → is_some (images i) ≡ true → (i == 0) ≡ false → HasPoints (image_at images i).r
