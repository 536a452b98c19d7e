-- What a draw device keeps, however much it has: its images stand where its book has them, and what is there is what is used.
use Rattle.std.specs.Prelude.{◌≡◌, ◌==◌, ℕ, true, All, List, [], ◌∷◌, Some, is_some, option_map}
use Rattle.std.specs.Map.{keys_of}
use Rattle.model_forest.specs.World.{IsLive, parent_of}
use Rattle.model_text.specs.map.Ascending.{Ascend}
use Rattle.model_draw_parts.specs.declared.images.ImageId.{ImageId}
use Rattle.model_draw_parts.specs.declared.images.ScreenId.{ScreenId}
use Rattle.model_draw_parts.specs.declared.images.Thing.TheVariants.{Image, Screen}
use Rattle.model_draw_parts.specs.images.Book.{Book, comes_before, fill_of, image_of, screen_numbered, screen_of}
use Rattle.model_draw_parts.specs.images.Release.{FindsAll, HasScreens, is_used}
use Rattle.model_forest.specs.declared.Standing.{Standing}
use Rattle.model_draw.specs.draw.World.{World, at_number}
use Rattle.model_draw.specs.draw.Orders.{manager}

-- where a window stands that is on a screen
abbrev pub standing_on : Book → (screen : ℕ) → Standing
standing_on book s = record { parent = image_of book s; fill = fill_of book s }

pub record IsStanding (world : World) : Type 0 where
  -- what is used is there
  pub live : (i : ℕ) → is_used world.book (Image i) ≡ true → IsLive world.images i
  pub screens : HasScreens world.book
  -- an image that lives stands on the image of its screen, or nowhere
  pub stands : (i : ℕ) → IsLive world.images i → (at_number world i).standing ≡ option_map (standing_on world.book) (screen_of world.book i)
  -- what is in the list of an image that lives stands on it
  pub windows : (i : ℕ) → IsLive world.images i → All (λ w. IsLive world.images w.image × (parent_of world.images w.image ≡ Some i)) (at_number world i).windows
  -- a window in the book lives, and each window and each id stands there once
  pub placed : All (λ w. IsLive world.images w.image) world.book.windows
  pub finds : FindsAll world.book

-- each stands before all that come behind it, by the connection and then by the id
abbrev pub Rise : {X : Type 0} → (client id : X → ℕ) → List X → Type 0
Rise client id [] = Unit {0}
Rise client id (x ∷ xs) = All (λ y. comes_before (client x) (id x) (client y) (id y) ≡ true) xs × Rise client id xs

pub record IsListed (world : World) : Type 0 where
  pub image_ids : Rise (λ (e : ImageId). e.client) (λ e. e.id) world.book.image_ids
  pub screen_ids : Rise (λ (e : ScreenId). e.client) (λ e. e.id) world.book.screen_ids
  -- no connection has an id 0 of its own, but the manager
  pub own : All (λ e. (e.id == 0) ≡ true → e.client ≡ manager) world.book.image_ids
  pub clients : Ascend (keys_of world.clients)

pub record IsWhole (world : World) : Type 0 where
  pub standing : IsStanding world
  pub listed : IsListed world
  -- what is there is used
  pub used : (i : ℕ) → IsLive world.images i → is_used world.book (Image i) ≡ true
  pub screens_used : (s : ℕ) → is_some (screen_numbered world.book s) ≡ true → is_used world.book (Screen s) ≡ true
