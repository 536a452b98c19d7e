-- What the window manager orders of the draw device (rio(4)). It is connection 0: the image of a window has the window's
-- serial as its image id, and the screen of a rio has the serial of its host as its screen id, 0 for the root rio.
use Rattle.std.specs.Prelude.{ℕ, ◌==◌, ◌^◌, pos, neg_ℤ, ◌+ℤ◌, ◌-ℤ◌, Bool, true, false, not, is_none, is_some, ◌&&◌, ◌||◌, nat_le, List, [], ◌∷◌, Some, if◌then◌else◌}
use Rattle.std.specs.List.{fold}
use Rattle.std.specs.Option.{option_map_or}
use Rattle.std.specs.Ordering.{int_eq}
use Rattle.std.specs.Result.{result_unwrap_or}
use Rattle.r9_geom.specs.declared.Point.{Point}
use Rattle.r9_geom.specs.declared.Rect.{Rect}
use Rattle.r9_geom.specs.Geometry.{at_min, holds, is_empty, is_point}
use Rattle.r9_event.specs.declared.event.rio.Order.{Order}
use Rattle.r9_event.specs.declared.event.rio.Order.TheVariants.{Make, Place, Replace, Raise, Lower, Drop, Host, Leave, Size}
use Rattle.model_pixel.specs.Channels.{colour_of, depth, pack}
use Rattle.model_pixel.specs.Rows.{rows_of}
use Rattle.model_draw.specs.imgfile.ImageFile.{image_file}
use Rattle.model_forest.specs.Paint.{paint}
use Rattle.model_text.specs.text.Map.{lookup}
use Rattle.model_forest.specs.World.{World as Images, image_at, origin_point}
use Rattle.model_forest.specs.Draw.{after_fill, with_canvas}
use Rattle.model_forest.specs.Stack.{after_lower, after_raise, after_window}
use Rattle.model_forest.specs.Steps.{after_image, after_origin, after_replace, after_replace_on, after_set, outside}
use Rattle.model_exchanged.specs.resize.Resize.{after_resize}
use Rattle.model_draw_parts.specs.images.Book.{Book, add_id, fill_of, image_id, image_of, new_screen, screen_id, screen_of, tie}
use Rattle.model_draw_parts.specs.images.Release.{Freed, free_id, free_screen, nothing_freed}
use Rattle.model_draw.specs.draw.World.{World, after_freed, after_leave, at_number, background, next_image, with_book, with_images}
use Rattle.model_draw.specs.draw.Making.{farthest, is_near, is_near_rect, is_window, with_made}

abbrev pub manager : ℕ
manager = 0

-- ---- looking up

-- the image that a window has now; that of 0 is the display
abbrev pub image_shown : World → (window : ℕ) → ℕ
image_shown world window = option_map_or (λ e. e.image) (image_id world.book manager window) 0

-- the screen of the rio in a window; that of 0 is the root rio's
abbrev pub rio_screen : World → (host : ℕ) → ℕ
rio_screen world host = option_map_or (λ e. e.screen) (screen_id world.book manager host) 0

-- the window stands on this screen
abbrev pub stands_on : Book → (image screen : ℕ) → Bool
stands_on book i s = option_map_or (λ t. t == s) (screen_of book i) false

-- ---- what windows look like

-- the raw pixels of a window that nothing was drawn on, and of its border
abbrev pub white : (chan : ℕ) → ℕ
white chan = pack chan (colour_of 0xffffffff)

abbrev pub border_pixel : (chan : ℕ) → ℕ
border_pixel chan = pack chan (colour_of 0x55aaaaff)

-- what is inside of a window's border, which is four points wide
abbrev pub inside_border : Rect → Rect
inside_border r = record {
  min = record { x = r.min.x +ℤ pos 4; y = r.min.y +ℤ pos 4 };
  max = record { x = r.max.x -ℤ pos 4; y = r.max.y -ℤ pos 4 };
}

abbrev pub on_border : Rect → Point → Bool
on_border r p = holds r p && not (holds (inside_border r) p)

-- an image gets the border of a window
unfoldable pub bordered : Images → ℕ → Images
bordered images i =
    with_canvas images i (on_border (image_at images i).r) (λ _. border_pixel (image_at images i).chan)

-- where a window stands: a hidden one far outside
abbrev pub corner : Rect → (hidden : Bool) → Point
corner r hidden = if hidden then outside else r.min

-- ---- the root rio

-- one point, and a clip rectangle that holds every point
abbrev pub dot : Rect
dot = record { min = record { x = pos 0; y = pos 0 }; max = record { x = pos 1; y = pos 1 } }

abbrev pub everywhere : Rect
everywhere = record {
  min = record { x = neg_ℤ (pos (2 ^ 33)); y = neg_ℤ (pos (2 ^ 33)) };
  max = record { x = pos (2 ^ 33); y = pos (2 ^ 33) };
}

-- The root rio's screen on the display, with the display's grey as its fill: that is the fill of each rio.
unfoldable pub with_root_rio : World → World
with_root_rio world =
    let fill = next_image world in
    let images = after_image world.images fill dot world.opening.chan (background world.opening) in
    with_made world (after_set images fill true everywhere)
    (result_unwrap_or (new_screen world.book manager 0 false 0 fill) world.book)

-- ---- images that come and go

-- an image gets the id of a window, and stands on a screen
abbrev pub with_window_id : Book → (window i s : ℕ) → Book
with_window_id book window i s = result_unwrap_or (add_id book manager window i (Some s)) book

-- and its name
abbrev pub with_window_name : Book → (window : ℕ) → (name : List ℕ) → Book
with_window_name book window name = result_unwrap_or (tie book manager window name) book

-- a new image is that of a window
abbrev pub with_window : World → (window i s : ℕ) → (name : List ℕ) → World
with_window world window i s name =
    with_book world (with_window_name (with_window_id world.book window i s) window name)

-- what freeing the image id of a window leaves; the tie of its name ends
abbrev pub image_freed : Book → (window : ℕ) → Freed
image_freed book window = result_unwrap_or (free_id book manager window) (nothing_freed book)

-- what freeing the screen of a rio leaves, where there is one
abbrev pub screen_freed : Book → (host : ℕ) → Freed
screen_freed book host = result_unwrap_or (free_screen book manager host) (nothing_freed book)

-- a white image, topmost on a screen, at its rectangle or far outside
abbrev pub new_white : World → (s : ℕ) → Rect → (hide : Bool) → Images
new_white world s r hide = by hide
  where
    pixel : ℕ
    pixel = white (at_number world (image_of world.book s)).chan

    on : Rect → Images
    on place = after_window world.images (next_image world) (image_of world.book s) (fill_of world.book s) place pixel

    by : Bool → Images
    by true = after_origin (on (at_min r outside)) (next_image world) r.min outside
    by false = on r

-- a white image in place of another, directly above it, or topmost on a screen where it stood on another
abbrev pub next_white : World → (old s : ℕ) → Rect → (keep hidden : Bool) → Images
next_white world old s r keep hidden = by (stands_on world.book old s)
  where
    by : Bool → Images
    by true =
        after_replace world.images (next_image world) old r (corner r hidden) (white (at_number world old).chan) keep
    by false =
        after_replace_on world.images (next_image world) old (image_of world.book s) (fill_of world.book s) r
        (corner r hidden) (white (at_number world (image_of world.book s)).chan) keep

-- ---- each order

-- a new window, white with its border
unfoldable pub make_window : World → (window host : ℕ) → Rect → (name : List ℕ) → (hide : Bool) → World
make_window world window host r name hide =
    let s = rio_screen world host in
    let i = next_image world in
    with_window (with_made world (bordered (new_white world s r hide) i) world.book) window i s name

-- A window has another image: the contents of the old one, or white with a border. The old one stays far outside, for who
-- has an id for it.
unfoldable pub replace_window : World → (window host : ℕ) → Rect → (name : List ℕ) → (keep hidden : Bool) → World
replace_window world window host r name keep hidden =
    let s = rio_screen world host in
    let i = next_image world in
    let images = next_white world (image_shown world window) s r keep hidden in
    let next = with_made world (if keep then images else bordered images i) world.book in
    with_window (after_freed next (image_freed world.book window)) window i s name

unfoldable pub place_window : World → (window : ℕ) → Point → World
place_window world window at =
    let i = image_shown world window in
    with_images world (after_origin world.images i (at_number world i).r.min at)

-- a window goes, and the screen of the rio in it
unfoldable pub drop_window : World → (window : ℕ) → World
drop_window world window =
    let left = place_window world window outside in
    let closed = after_freed left (screen_freed left.book window) in
    after_freed closed (image_freed closed.book window)

-- A screen on the image that a window has now, whose inside becomes grey first where it says so. The windows on the screen
-- that it had before stay there until they are replaced.
unfoldable pub host_rio : World → (window : ℕ) → (fill : Bool) → World
host_rio world window fill =
    let i = image_shown world window in
    let image = at_number world i in
    let grey = pack image.chan (colour_of 0x777777ff) in
    let filled = if fill then after_fill world.images i (inside_border image.r) grey else world.images in
    let left = after_freed (with_images world filled) (screen_freed world.book window) in
    let root_fill = fill_of left.book (rio_screen left 0) in
    with_book left (result_unwrap_or (new_screen left.book manager window false i root_fill) left.book)

-- The display has another size: all that stands on it stays, and what shows newly of it is grey.
unfoldable pub resize_display : World → (width height : ℕ) → World
resize_display world width height =
    let i = image_shown world 0 in
    let grey = pack (at_number world i).chan (colour_of 0x777777ff) in
    with_images world (after_resize world.images i width height grey)

-- ---- what fits

-- there is a rio in a window, or the root's
abbrev pub has_rio : World → (host : ℕ) → Bool
has_rio world host = is_some (screen_id world.book manager host)

-- there is a window, which stands on a screen
abbrev pub has_window : World → (window : ℕ) → Bool
has_window world window =
    not (window == 0) && is_some (image_id world.book manager window) && is_window world (image_shown world window)

-- a window may have the rectangle: it is near 0, and has an inside
abbrev pub is_window_rect : Rect → Bool
is_window_rect r = is_near_rect farthest r && not (is_empty (inside_border r))

abbrev pub is_near_point : Point → Bool
is_near_point p = is_near farthest p.x && is_near farthest p.y

-- what the window shows can be kept in a rectangle on a screen
abbrev pub can_keep : World → (window s : ℕ) → Rect → Bool
can_keep world window s r =
    let old = at_number world (image_shown world window) in
    int_eq (r.max.x -ℤ r.min.x) (old.r.max.x -ℤ old.r.min.x) && int_eq (r.max.y -ℤ r.min.y) (old.r.max.y -ℤ old.r.min.y)
    && (old.chan == (at_number world (image_of world.book s)).chan)

-- a side of the display
abbrev pub is_side : ℕ → Bool
is_side n = nat_le 1 n && nat_le n 2048

-- the display is there, stands nowhere, begins at 0 and does not repeat
abbrev pub has_display : World → Bool
has_display world =
    let i = image_shown world 0 in
    is_some (image_id world.book manager 0) && not (is_window world i) && is_point (at_number world i).r.min origin_point
    && not (at_number world i).repl

-- The order is about windows and rios that are there, as each order of a step of the window manager is.
abbrev pub fits : World → Order → Bool
fits world (Make window host r name hide depth) =
    has_rio world host && is_none (image_id world.book manager window) && is_window_rect r
fits world (Place window at) = has_window world window && is_near_point at
fits world (Replace window host r name keep hidden) =
    has_window world window && has_rio world host && is_window_rect r
    && (not keep || can_keep world window (rio_screen world host) r)
fits world (Raise window) = has_window world window
fits world (Lower window) = has_window world window
fits world (Drop window) = has_window world window
fits world (Host window fill) =
    has_window world window && has_rio world 0 && is_window_rect (at_number world (image_shown world window)).r
fits world (Leave client) = is_some (lookup world.clients client)
fits world (Size width height) = is_side width && is_side height && has_display world

-- ---- carrying out

-- the device after an order that fits
abbrev pub after_order : World → Order → World
after_order world (Make window host r name hide depth) = make_window world window host r name hide
after_order world (Place window at) = place_window world window at
after_order world (Replace window host r name keep hidden) = replace_window world window host r name keep hidden
after_order world (Raise window) = with_images world (after_raise world.images (image_shown world window ∷ []))
after_order world (Lower window) = with_images world (after_lower world.images (image_shown world window ∷ []))
after_order world (Drop window) = drop_window world window
after_order world (Host window fill) = host_rio world window fill
after_order world (Leave client) = after_leave world client
after_order world (Size width height) = resize_display world width height

-- An order that does not fit changes nothing.
abbrev pub ordered : World → Order → World
ordered world order = if fits world order then after_order world order else world

-- the device after orders, which are carried out one after the other
abbrev pub carried_out : World → List Order → World
carried_out world orders = fold ordered world orders

-- ---- pictures

-- the image file of a window, or for 0 of the display: what is painted from back to front, on it and on all that stands on it
-- (image(6))
unfoldable pub picture_of : World → (window : ℕ) → List ℕ
picture_of world window =
    let i = image_shown world window in
    let image = at_number world i in
    image_file image.chan image.r (rows_of image.r (depth image.chan) (paint world.images i))
