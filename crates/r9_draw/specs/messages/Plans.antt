-- What a message does that is not refused.
use Rattle.std.specs.Prelude.{◌≡◌, ◌<◌, ◌≤◌, ◌+◌, ◌^◌, nat_le, ℕ, Bool, true, false, not, ◌||◌, Ok, List, take, length, Option, Some, None, is_some, is_ok, IfSome}
use Rattle.std.specs.Option.{option_map_or}
use Rattle.std.specs.Result.{result_unwrap_or}
use Rattle.std.specs.List.{sum_by}
use Rattle.r9_geom.specs.declared.Point.{Point}
use Rattle.r9_geom.specs.declared.Rect.{Rect}
use Rattle.r9_geom.specs.Geometry.{area_of, is_empty, is_inside, meet, HasPoints, IsNearBy, IsRectNearBy}
use Rattle.r9_chan.specs.Op.{number}
use Rattle.model_pixel.specs.Channels as channels
use Rattle.model_text.specs.text.Outcome.{Outcome, ◌>>=◌, refuse_if}
use Rattle.model_draw.specs.imgfile.ImageFile.{rows_len}
use Rattle.model_draw_parts.specs.fonts.Font.{new_font}
use Rattle.model_forest.specs.Draw.{Drawing, after_draw}
use Rattle.model_forest.specs.World.{World as Images}
use Rattle.model_forest.specs.Stack.{after_window}
use Rattle.model_forest.specs.Steps.{after_image, after_origin, after_set}
use Rattle.model_draw_parts.specs.images.Book.{Book, add_id, add_screen, fill_of, image_of, is_image_id_taken, new_screen, screen_numbered}
use Rattle.model_draw_parts.specs.images.Release.{Freed, free_id, free_screen, nothing_freed}
use Rattle.model_draw.specs.draw.World.{World, at_number, client_of, look, next_image, s_over_d, with_book, with_client, with_images, after_freed}
use Rattle.model_draw.specs.draw.Making.{clashes, forget_id, overhead, screen_named, with_made, with_new_image, with_size}
use Rattle.model_draw.specs.draw.Moving.{stays_near}
use Rattle.model_draw.specs.draw.Drawing.{rows_shown, with_operator, with_rows}
use Rattle.model_draw.specs.draw.Writing.{with_font}
use Rattle.r9_device.specs.device.Live.{CanHold, IsLiveIn}
use Rattle.r9_draw.specs.messages.Fonts.{after_load_cell, CanLoad}
use Rattle.r9_draw.specs.declared.messages.plan.Making.{Making}
use Rattle.r9_draw.specs.declared.messages.plan.Screening.{Screening}
use Rattle.r9_draw.specs.declared.messages.plan.Task.{Task}
use Rattle.r9_draw.specs.declared.messages.plan.Plan.{Plan}
use Rattle.r9_draw.specs.declared.messages.plan.Plan.TheVariants.{Nothing, Make, SetClip, Draw, Free, FreeScreen, MakeFont, LoadCell, MakeScreen, ShareScreen, Move, SetOperator, Read, Write}

-- ---- looking up a screen

-- the screen of an id for a window of these channels, which repeats or not, or none where the id is 0
unfoldable pub screen_for : ℕ → World → (id chan : ℕ) → Bool → Outcome (Option ℕ)
screen_for k world id chan repl = do
  s ← screen_named world k id
  _ ← refuse_if (option_map_or (clashes world chan repl) s false) 11
  Ok s

-- ---- the world afterwards

-- one more image of one raw pixel, topmost on its screen where it has one
abbrev pub one_pixel : Images → Book → ℕ → Option ℕ → Rect → ℕ → ℕ → Images
one_pixel images book i None r chan raw = after_image images i r chan raw
one_pixel images book i (Some s) r chan raw = after_window images i (image_of book s) (fill_of book s) r raw

abbrev pub images_made : Images → Book → ℕ → Making → Images
images_made images book i m = after_set (one_pixel images book i m.screen m.r m.chan m.raw) i m.repl m.clipr

-- the book once the new image has its id
abbrev pub book_with : World → ℕ → Making → Book
book_with world k m = result_unwrap_or (add_id world.book k m.id (next_image world) m.screen) world.book

unfoldable pub after_make : ℕ → World → Making → World
after_make k world m =
    with_client (with_made world (with_new_image world m.screen m.r m.chan m.raw m.repl m.clipr) (book_with world k m)) k
    (with_size (client_of world k) m.id m.len)

abbrev pub drawing_by : ℕ → Task → Drawing
drawing_by op t = record {
  dst = t.dst.0;
  clip = t.r;
  r = t.r;
  src = t.src.0;
  sp = t.sp;
  mask = Some t.mask.0;
  mp = t.mp;
  op = op;
}

unfoldable pub after_task : ℕ → World → Task → World
after_task k world t =
    with_operator (with_images world (after_draw world.images (drawing_by (client_of world k).op t))) k s_over_d

-- what freeing an id leaves
abbrev pub freed_by : World → ℕ → ℕ → Freed
freed_by world k id = result_unwrap_or (free_id world.book k id) (nothing_freed world.book)

unfoldable pub after_free : ℕ → World → ℕ → World
after_free k world id = with_client (after_freed world (freed_by world k id)) k (forget_id (client_of world k) id)

-- what freeing a screen id leaves
abbrev pub screen_freed_by : World → ℕ → ℕ → Freed
screen_freed_by world k id = result_unwrap_or (free_screen world.book k id) (nothing_freed world.book)

unfoldable pub after_free_screen : ℕ → World → ℕ → World
after_free_screen k world id = after_freed world (screen_freed_by world k id)

unfoldable pub after_make_screen : ℕ → World → Screening → World
after_make_screen k world s =
    with_book world (result_unwrap_or (new_screen world.book k s.id s.public s.image.0 s.fill.0) world.book)

unfoldable pub after_share : ℕ → World → (id screen : ℕ) → World
after_share k world id screen =
    with_book world (result_unwrap_or (add_screen world.book k id screen false) world.book)

unfoldable pub after_read : ℕ → World → ℕ → Rect → World
after_read k world i r = with_client world k (record (client_of world k) { pending = rows_shown world i r })

-- the world after a message of connection k, where these bytes stand behind it
abbrev pub after : ℕ → World → Plan → List ℕ → World
after k world Nothing rest = world
after k world (Make m) rest = after_make k world m
after k world (SetClip image repl clipr) rest = with_images world (after_set world.images image.0 repl clipr)
after k world (Draw t) rest = after_task k world t
after k world (Free id) rest = after_free k world id
after k world (FreeScreen id) rest = after_free_screen k world id
after k world (MakeFont id n ascent) rest = with_font world k id (new_font n ascent)
after k world (LoadCell l) rest = after_load_cell k world l
after k world (MakeScreen s) rest = after_make_screen k world s
after k world (ShareScreen id screen) rest = after_share k world id screen
after k world (Move image rmin scr) rest = with_images world (after_origin world.images image.0 rmin scr)
after k world (SetOperator op) rest = with_operator world k (number op)
after k world (Read image r) rest = after_read k world image.0 r
after k world (Write image r len) rest = with_rows world image.0 r (take len rest)

-- how many of these bytes belong to the message
abbrev pub rows_behind : Plan → ℕ
rows_behind (Write image r len) = len
rows_behind _ = 0

-- ---- what was looked at

pub record CanMake (k : ℕ) (world : World) (m : Making) : Type 0 where
  pub fresh : is_image_id_taken world.book k m.id ≡ false
  pub points : HasPoints m.r
  pub near : IsRectNearBy (2 ^ 32) m.r
  pub clip : IsRectNearBy (2 ^ 33) m.clipr
  pub raw : m.raw < 2 ^ channels.depth m.chan
  pub fits : sum_by (λ e. e.1) (client_of world k).sizes + m.len + overhead ≤ 2 ^ 25
  pub screen : IfSome m.screen (λ s. CanHold world.images world.book s m.chan)

pub record CanSet (world : World) (i : ℕ) (repl : Bool) (clipr : Rect) : Type 0 where
  pub live : IsLiveIn world i
  pub points : repl ≡ true → HasPoints (at_number world i).r
  pub near : IsRectNearBy (2 ^ 33) clipr

pub record CanDraw (world : World) (t : Task) : Type 0 where
  pub dst : IsLiveIn world t.dst.0
  pub src : IsLiveIn world t.src.0
  pub mask : IsLiveIn world t.mask.0
  pub near : IsRectNearBy (2 ^ 34) t.r
  pub source_near : IsNearBy (2 ^ 34) t.sp
  pub mask_near : IsNearBy (2 ^ 34) t.mp

pub record CanScreen (world : World) (s : Screening) : Type 0 where
  pub image : IsLiveIn world s.image.0
  pub fill : IsLiveIn world s.fill.0

pub record CanMove (world : World) (i : ℕ) (rmin scr : Point) : Type 0 where
  pub live : IsLiveIn world i
  pub near : stays_near (at_number world i).r rmin scr ≡ true

-- the image of an id, of which the rectangle is a part that has points; else the refusal
unfoldable pub part_of : World → (k id : ℕ) → Rect → ℕ → Outcome ℕ
part_of world k id r refusal = do
  i ← look world k id
  _ ← refuse_if (is_empty r || not (is_inside r (at_number world i).r)) refusal
  Ok i

-- a rectangle of an image that has points
pub record IsPart (world : World) (i : ℕ) (r : Rect) : Type 0 where
  pub live : IsLiveIn world i
  pub some : is_empty r ≡ false
  pub near : IsRectNearBy (2 ^ 33) r
  pub inside : is_inside r (at_number world i).r ≡ true

pub record CanWrite (world : World) (i : ℕ) (r : Rect) (len : ℕ) (rest : List ℕ) : Type 0 where
  pub part : IsPart world i r
  pub whole : len ≡ rows_len (at_number world i).chan r
  pub enough : len ≤ length rest

-- what a plan needs so that it can be carried out, but for memory
abbrev pub IsReady : ℕ → World → Plan → List ℕ → Type 0
IsReady k world Nothing rest = Unit {0}
IsReady k world (Make m) rest = CanMake k world m
IsReady k world (SetClip image repl clipr) rest = CanSet world image.0 repl clipr
IsReady k world (Draw t) rest = CanDraw world t
IsReady k world (Free id) rest = is_ok (free_id world.book k id) ≡ true
IsReady k world (FreeScreen id) rest = is_ok (free_screen world.book k id) ≡ true
IsReady k world (MakeFont id n ascent) rest = Unit {0}
IsReady k world (LoadCell l) rest = CanLoad k world l
IsReady k world (MakeScreen s) rest = CanScreen world s
IsReady k world (ShareScreen id screen) rest = is_some (screen_numbered world.book screen) ≡ true
IsReady k world (Move image rmin scr) rest = CanMove world image.0 rmin scr
IsReady k world (SetOperator op) rest = Unit {0}
IsReady k world (Read image r) rest = IsPart world image.0 r
IsReady k world (Write image r len) rest = CanWrite world image.0 r len rest

-- it takes no memory
abbrev pub is_spare : World → Plan → Bool
is_spare world Nothing = true
is_spare world (SetClip image repl clipr) = true
is_spare world (Draw t) = nat_le (area_of (meet t.r (at_number world t.dst.0).r)) (area_of world.opening.r)
is_spare world (SetOperator op) = true
is_spare world _ = false
