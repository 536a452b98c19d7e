-- The messages that make images, set them and let them go (draw(3)). Each gives the world after it, or its first refusal.
use Rattle.std.specs.Prelude.{ℕ, ◌+◌, ◌==◌, ◌^◌, ℤ, pos, neg_ℤ, int_lt, Bool, false, not, ◌&&◌, ◌||◌, nat_lt, Option, Some, None, Ok, if◌then◌else◌}
use Rattle.std.specs.Option.{option_map_or, is_some}
use Rattle.std.specs.List.{sum_by}
use Rattle.r9_geom.specs.declared.Rect.{Rect}
use Rattle.r9_geom.specs.Geometry.{is_empty}
use Rattle.model_pixel.specs.Channels.{colour_of, is_descriptor, pack}
use Rattle.model_text.specs.text.Map.{and, without}
use Rattle.model_text.specs.text.Outcome.{Outcome, ◌>>=◌, refuse_if}
use Rattle.model_draw.specs.imgfile.ImageFile.{rows_len}
use Rattle.model_forest.specs.World.{World as Images}
use Rattle.model_forest.specs.Numbers.{taken}
use Rattle.model_forest.specs.Stack.{after_window}
use Rattle.model_forest.specs.Steps.{after_image, after_set}
use Rattle.model_draw_parts.specs.images.Book.{Book, is_image_id_taken, is_screen_id_taken, screen, public, image_of, fill_of, screen_of, has_screen, add_id, add_screen, new_screen}
use Rattle.model_draw_parts.specs.images.Release.{free_id, free_screen}
use Rattle.model_draw.specs.draw.World.{World, Client, next_image, client_of, with_client, with_images, with_book, look, at_number, is_display, after_freed}

-- a byte as a flag: each but 0 is set
abbrev pub flag : ℕ → Bool
flag byte = not (byte == 0)

-- no further than n from 0
abbrev pub is_near : ℕ → ℤ → Bool
is_near n x = not (int_lt x (neg_ℤ (pos n))) && not (int_lt (pos n) x)

abbrev pub is_near_rect : ℕ → Rect → Bool
is_near_rect n r = is_near n r.min.x && is_near n r.min.y && is_near n r.max.x && is_near n r.max.y

-- how deep an image may stand that is made a screen
abbrev pub deepest_screen : ℕ
deepest_screen = 15

-- how far a coordinate of an image's rectangle may be from 0
abbrev pub farthest : ℕ
farthest = 2 ^ 29

-- the bytes that an image counts beside its rows
abbrev pub overhead : ℕ
overhead = 256

-- one image has at most 2^24 bytes, and the images that a connection made at most 2^25 with what they count beside
abbrev pub is_too_large : Client → ℕ → Bool
is_too_large client len =
    nat_lt (2 ^ 24) len || nat_lt (2 ^ 25) (sum_by (λ e. e.1) client.sizes + len + overhead)

-- the screen of an id, or none where the id is 0
abbrev pub screen_named : World → ℕ → ℕ → Outcome (Option ℕ)
screen_named world k id = if id == 0 then Ok None else screen world.book k id >>= λ s. Ok (Some s)

-- the raw pixel of a new image: the word 0xffffff00 asks for zero bits
abbrev pub fill_raw : ℕ → ℕ → ℕ
fill_raw chan color = if color == 0xffffff00 then 0 else pack chan (colour_of color)

-- a connection with one more image id that counts for the limit
abbrev pub with_size : Client → ℕ → ℕ → Client
with_size client id len = record client { sizes = and client.sizes id (len + overhead) }

-- images, one of which took the next number, and a book that has an id for it
abbrev pub with_made : World → Images → Book → World
with_made world images book =
    record world { images = images; book = book; numbers = taken world.numbers }

-- a window has the channels of its screen's image and does not repeat
abbrev pub clashes : World → ℕ → Bool → ℕ → Bool
clashes world chan repl s = repl || not (chan == (at_number world (image_of world.book s)).chan)

-- a new image of one raw pixel, the topmost window of its screen's image where it has a screen
abbrev pub with_one_pixel : World → Option ℕ → Rect → ℕ → ℕ → Images
with_one_pixel world None r chan raw = after_image world.images (next_image world) r chan raw
with_one_pixel world (Some s) r chan raw =
    after_window world.images (next_image world) (image_of world.book s) (fill_of world.book s) r raw

-- the same, which repeats or not, with a clip rectangle
abbrev pub with_new_image : World → Option ℕ → Rect → ℕ → ℕ → Bool → Rect → Images
with_new_image world s r chan raw repl clipr =
    after_set (with_one_pixel world s r chan raw) (next_image world) repl clipr

-- `b`: allocate an image, or a window on a screen
unfoldable pub allocate : ℕ → World → (id screenid refresh chan : ℕ) → Bool → Rect → Rect → ℕ → Outcome World
allocate k world id screenid refresh chan repl r clipr color = do
  _ ← refuse_if (is_image_id_taken world.book k id) 6
  _ ← refuse_if (nat_lt 2 refresh) 23
  _ ← refuse_if (not (is_descriptor chan)) 8
  _ ← refuse_if (is_empty r || not (is_near_rect farthest r)) 9
  _ ← refuse_if (is_too_large (client_of world k) (rows_len chan r)) 10
  s ← screen_named world k screenid
  _ ← refuse_if (option_map_or (clashes world chan repl) s false) 11
  book ← add_id world.book k id (next_image world) s
  let images = with_new_image world s r chan (fill_raw chan color) repl clipr in
      Ok (with_client (with_made world images book) k (with_size (client_of world k) id (rows_len chan r)))

-- `A`: make an image a screen
unfoldable pub make_screen : ℕ → World → (id imageid fillid : ℕ) → Bool → Outcome World
make_screen k world id imageid fillid is_public = do
  _ ← refuse_if (id == 0) 23
  _ ← refuse_if (is_screen_id_taken world.book k id is_public) 7
  i ← look world k imageid
  fill ← look world k fillid
  _ ← refuse_if (at_number world i).repl 11
  _ ← refuse_if (nat_lt deepest_screen (at_number world i).depth) 23
  book ← new_screen world.book k id is_public i fill
  Ok (with_book world book)

-- `S`: an id of its own for a public screen, under the same number
unfoldable pub share_screen : ℕ → World → (id chan : ℕ) → Outcome World
share_screen k world id chan = do
  _ ← refuse_if (id == 0) 23
  _ ← refuse_if (is_screen_id_taken world.book k id false) 7
  s ← public world.book id
  _ ← refuse_if (not ((at_number world (image_of world.book s)).chan == chan)) 11
  book ← add_screen world.book k id s false
  Ok (with_book world book)

-- the image stands on a screen
abbrev pub is_window : World → ℕ → Bool
is_window world i = is_some (screen_of world.book i)

-- `c`: set repl and the clip rectangle
unfoldable pub set_clip : ℕ → World → (dstid : ℕ) → Bool → Rect → Outcome World
set_clip k world dstid repl clipr = do
  dst ← look world k dstid
  _ ← refuse_if (is_display world dst) 23
  _ ← refuse_if (repl && (is_window world dst || has_screen world.book dst)) 11
  Ok (with_images world (after_set world.images dst repl clipr))

-- what a connection has without an id
abbrev pub forget_id : Client → ℕ → Client
forget_id client id = record client { sizes = without client.sizes id; fonts = without client.fonts id }

-- `f`: free an image id
unfoldable pub free_image : ℕ → World → ℕ → Outcome World
free_image k world id = do
  _ ← refuse_if (id == 0) 23
  freed ← free_id world.book k id
  Ok (with_client (after_freed world freed) k (forget_id (client_of world k) id))

-- `F`: free a screen id
unfoldable pub free_screen_id : ℕ → World → ℕ → Outcome World
free_screen_id k world id = do
  freed ← free_screen world.book k id
  Ok (after_freed world freed)
