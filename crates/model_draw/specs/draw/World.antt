-- What a draw device has: images, what ids and names refer to, and its connections (draw(3)).
use Rattle.std.specs.Prelude.{ℕ, ◌==◌, Bool, false, List, [], None}
use Rattle.std.specs.Option.{option_map_or}
use Rattle.std.specs.Result.{result_unwrap_or}
use Rattle.std.specs.List.{fold}
use Rattle.r9_geom.specs.declared.Rect.{Rect}
use Rattle.model_pixel.specs.Channels.{colour_of, pack}
use Rattle.model_text.specs.text.Map.{lookup, with, and, without}
use Rattle.model_text.specs.text.Outcome.{Outcome}
use Rattle.model_draw_parts.specs.fonts.Font.{Font}
use Rattle.model_forest.specs.World.{World as Images, Image as ImageState, image_at}
use Rattle.model_forest.specs.Numbers.{Numbers, no_numbers, next_number, taken, given_back}
use Rattle.model_forest.specs.Steps.{after_image, after_release}
use Rattle.model_draw_parts.specs.images.Book.{Book, empty_book, image, image_id, add_id}
use Rattle.model_draw_parts.specs.declared.images.Thing.{Thing}
use Rattle.model_draw_parts.specs.declared.images.Thing.TheVariants.{Image, Screen}
use Rattle.model_draw_parts.specs.images.Release.{Freed, leave}

-- the display with which a device starts: its rectangle and its channels
pub record Opening : Type 0 where
  pub r : Rect
  pub chan : ℕ

-- what a connection has beside its ids
pub record Client : Type 0 where
  -- the operator of the next drawing
  pub op : ℕ
  -- the image id that `ctl` describes
  pub described : ℕ
  -- the bytes of the last `r` that have not been read
  pub pending : List ℕ
  -- what each image id that `b` made counts for the limit on the connection's images
  pub sizes : List (ℕ × ℕ)
  -- the fonts, each under the image id that was made one
  pub fonts : List (ℕ × Font)

pub record World : Type 0 where
  pub opening : Opening
  pub images : Images
  pub numbers : Numbers
  pub book : Book
  -- the connections, by number
  pub clients : List (ℕ × Client)

-- the operator that is set where a message does not set another
abbrev pub s_over_d : ℕ
s_over_d = 11

abbrev pub new_client : Client
new_client = record { op = s_over_d; described = 0; pending = []; sizes = []; fonts = [] }

abbrev pub client_of : World → ℕ → Client
client_of world k = option_map_or (λ c. c) (lookup world.clients k) new_client

abbrev pub with_client : World → ℕ → Client → World
with_client world k client = record world { clients = with world.clients k client }

-- ---- looking up

-- the image that a connection's id shows: 4 where it is unknown, 18 where its tie has ended
abbrev pub look : World → ℕ → ℕ → Outcome ℕ
look world k id = image world.book k id

abbrev pub at_number : World → ℕ → ImageState
at_number world i = image_at world.images i

-- the display is the manager's image 0
abbrev pub is_display : World → ℕ → Bool
is_display world i = option_map_or (λ e. e.image == i) (image_id world.book 0 0) false

-- ---- changes

abbrev pub with_images : World → Images → World
with_images world images = record world { images = images }

abbrev pub with_book : World → Book → World
with_book world book = record world { book = book }

abbrev pub next_image : World → ℕ
next_image world = next_number world.numbers

-- the world without an image that has gone, whose number comes back; of a screen nothing is kept but in the book
abbrev pub without_thing : World → Thing → World
without_thing world (Image i) =
    record world { images = after_release world.images i; numbers = given_back world.numbers i }
without_thing world (Screen s) = world

-- what a release leaves
abbrev pub after_freed : World → Freed → World
after_freed world freed = fold without_thing (with_book world freed.book) freed.gone

-- ---- the start, and connections

-- the grey of the bare display
abbrev pub background : Opening → ℕ
background opening = pack opening.chan (colour_of 0x777777ff)

-- the display alone
unfoldable pub started : Opening → World
started opening = record {
  opening = opening;
  images = after_image (λ _. None) 0 opening.r opening.chan (background opening);
  numbers = taken no_numbers;
  book = result_unwrap_or (add_id empty_book 0 0 0 None) empty_book;
  clients = [];
}

-- a connection begins, under a number that none has
abbrev pub after_connect : World → ℕ → World
after_connect world k = record world { clients = and world.clients k new_client }

-- a connection ends: its image ids go in ascending order, then its screen ids, and what nothing refers to any more goes too
abbrev pub after_leave : World → ℕ → World
after_leave world k =
    let left = after_freed world (leave world.book k) in
    record left { clients = without left.clients k }
