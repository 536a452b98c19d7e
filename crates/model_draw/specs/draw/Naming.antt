-- The messages on the names of images (draw(3)). Each gives the world after it, or its first refusal.
use Rattle.std.specs.Prelude.{ℕ, ◌==◌, Bool, List, length, Ok, if◌then◌else◌}
use Rattle.model_text.specs.text.Outcome.{Outcome, ◌>>=◌, refuse_if}
use Rattle.model_draw_parts.specs.images.Book.{tie, untie, add_named}
use Rattle.model_draw.specs.draw.World.{World, client_of, with_client, with_book, look}

-- `N`: tie a name to an image, or untie it
unfoldable pub name_image : ℕ → World → (id : ℕ) → (tied : Bool) → (name : List ℕ) → Outcome World
name_image k world id tied name = do
  _ ← look world k id
  _ ← refuse_if (length name == 0) 23
  book ← (if tied then tie world.book k id name else untie world.book k id name)
  Ok (with_book world book)

-- a connection whose `ctl` describes an image id
abbrev pub with_described : World → ℕ → (id : ℕ) → World
with_described world k id = with_client world k (record (client_of world k) { described = id })

-- `n`: an id for the image with a name, which `ctl` then describes
unfoldable pub use_name : ℕ → World → (id : ℕ) → (name : List ℕ) → Outcome World
use_name k world id name = do
  book ← add_named world.book k id name
  Ok (with_described (with_book world book) k id)
