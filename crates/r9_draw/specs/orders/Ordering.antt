-- What the steps of the window manager's orders need, and what they leave.
use Rattle.std.specs.Prelude.{◌≡◌, ◌≢◌, ℕ, Bool, true, false, ◌+◌, ◌==◌, ◌^◌, List, [], ◌∷◌, is_some, IfSome, IsSome, IsTrue, if◌then◌else◌}
use Rattle.std.specs.List.{list_any}
use Rattle.std.specs.Result.{result_unwrap_or}
use Rattle.r9_geom.specs.declared.Point.{Point}
use Rattle.r9_geom.specs.declared.Rect.{Rect}
use Rattle.r9_geom.specs.Geometry.{HasPoints, IsOrdered, IsRectNearBy, area_of, holds}
use Rattle.model_forest.specs.World.{SameSize, World as Images, image_at, parent_of}
use Rattle.model_forest.specs.Stack.{after_window}
use Rattle.model_forest.specs.Steps.{after_origin, after_replace, after_replace_on, outside}
use Rattle.model_exchanged.specs.exchanged.Exchanged.{LeavesUnseen, after_put_on, after_put_under}
use Rattle.model_kept.specs.Keeping.{place_among}
use Rattle.model_draw.specs.cost.Cost.{border, coming, moving}
use Rattle.r9_event.specs.declared.event.rio.Order.{Order}
use Rattle.r9_event.specs.declared.event.rio.Order.TheVariants.{Replace}
use Rattle.model_draw_parts.specs.declared.images.Thing.{Thing}
use Rattle.model_draw_parts.specs.declared.images.Thing.TheVariants.{Image, Screen}
use Rattle.model_draw_parts.specs.images.Book.{Book, fill_of, image_of, new_screen}
use Rattle.model_draw.specs.draw.World.{World, after_freed, at_number, next_image, with_book}
use Rattle.model_draw.specs.draw.Making.{with_made}
use Rattle.model_draw.specs.draw.Orders.{bordered, corner, image_freed, image_shown, rio_screen, stands_on, white, with_window_id}
use Rattle.r9_draw.specs.declared.orders.next.Next.{Next}

-- a part of an image's rectangle
pub record CanFill (r part : Rect) : Type 0 where
  pub near : IsRectNearBy (2 ^ 34) part
  pub ordered : IsOrdered part
  pub inside : (p : Point) → IsTrue (holds part p) → IsTrue (holds r p)

-- an id has this screen
abbrev pub is_used_by_id : Book → (screen : ℕ) → Bool
is_used_by_id book s = list_any (λ e. e.screen == s) book.screen_ids

-- an order for anything but another image of a window
abbrev pub IsOther : Order → Type 0
IsOther order = (window host : ℕ) (r : Rect) (name : List ℕ) (keep hidden : Bool) → order ≢ Replace window host r name keep hidden

-- ---- a window that comes

-- the device with a white image, topmost on a screen, which has the id of a window
abbrev pub with_white : World → (window s : ℕ) → Rect → World
with_white world window s place =
    with_made world
    (after_window world.images (next_image world) (image_of world.book s) (fill_of world.book s) place (white (at_number world (image_of world.book s)).chan))
    (with_window_id world.book window (next_image world) s)

-- an image has a place among the windows of its parent
abbrev pub StandsAt : Images → ℕ → Rect → Type 0
StandsAt images i place = IfSome (image_at images i).standing (λ s. place_among (image_at images s.parent).windows i ≡ place)

-- ---- a window that gets another image

-- where the next image of a window comes from, and where it goes
pub record IsNext (world : World) (window screen : ℕ) (next : Next) : Type 0 where
  pub old : next.old.0 ≡ image_shown world window
  pub above : next.above ≡ stands_on world.book (image_shown world window) screen
  pub parent : next.parent.0 ≡ image_of world.book screen
  pub fill : next.fill.0 ≡ fill_of world.book screen

-- it can come
pub record CanReplace (images : Images) (next : Next) : Type 0 where
  pub old : is_some (images next.old.0) ≡ true
  pub window : IsSome (parent_of images next.old.0)
  pub parent : is_some (images next.parent.0) ≡ true
  pub fill : is_some (images next.fill.0) ≡ true
  pub points : HasPoints next.r
  pub near : IsRectNearBy (2 ^ 32) next.r
  pub size : next.keep ≡ true → SameSize next.r (image_at images next.old.0).r
  pub chan : next.keep ≡ true → (image_at images next.parent.0).chan ≡ (image_at images next.old.0).chan

-- the image in place of another
abbrev pub images_replaced : Images → ℕ → Next → Images
images_replaced images i next =
    if next.above then
    after_replace images i next.old.0 next.r (corner next.r next.hidden) (white (image_at images next.old.0).chan) next.keep
    else
    after_replace_on images i next.old.0 next.parent.0 next.fill.0 next.r (corner next.r next.hidden)
    (white (image_at images next.parent.0).chan) next.keep

-- the same, and the other stays where it stands
abbrev pub images_put : Images → ℕ → Next → Images
images_put images i next =
    if next.above then
    after_put_under images i next.old.0 next.r (corner next.r next.hidden) (white (image_at images next.old.0).chan) next.keep
    else
    after_put_on images i next.old.0 next.parent.0 next.fill.0 next.r (corner next.r next.hidden)
    (white (image_at images next.parent.0).chan) next.keep

-- the one or the other
abbrev pub images_next : Images → ℕ → Next → (stays : Bool) → Images
images_next images i next stays = if stays then images_put images i next else images_replaced images i next

-- with its border, where it does not keep the contents
abbrev pub images_come : Images → ℕ → Next → (stays : Bool) → Images
images_come images i next stays =
    if next.keep then images_next images i next stays else bordered (images_next images i next stays) i

abbrev pub images_renewed : Images → ℕ → Next → Images
images_renewed images i next = images_come images i next false

-- what the image in place of another costs, and with its border
abbrev pub replacing_images : Images → Next → ℕ
replacing_images images next =
    coming next.r + (if next.above then 0 else area_of next.r) + moving (image_at images next.old.0).r

abbrev pub renewing : Images → Next → ℕ
renewing images next = replacing_images images next + (if next.keep then 0 else border next.r)

-- the device once a window has the image
unfoldable pub renewed : World → (window screen : ℕ) → Next → World
renewed world window screen next =
    let i = next_image world in
    let left = after_freed (with_made world (images_renewed world.images i next) world.book) (image_freed world.book window) in
    with_book left (with_window_id left.book window i screen)

-- ---- a window that goes

-- it stands far outside
abbrev pub images_out : Images → ℕ → Images
images_out images i = after_origin images i (image_at images i).r.min outside

-- or stays where it stands
abbrev pub images_left : Images → ℕ → (stays : Bool) → Images
images_left images i stays = if stays then images else images_out images i

-- an image is the first of these things
abbrev pub is_first : List Thing → (i : ℕ) → Bool
is_first [] i = false
is_first (Image n ∷ things) i = n == i
is_first (Screen s ∷ things) i = false

-- a window goes first of these things, from where it stands as from far outside, also once another came on image p
pub record GoesUnseen (images : Images) (old p : ℕ) (gone : List Thing) : Type 0 where
  pub first : is_first gone old ≡ true
  pub unseen : LeavesUnseen images old p

-- ---- a rio in a window

-- the device with a screen on an image, which the root rio's fill fills
abbrev pub with_rio : World → (window image : ℕ) → World
with_rio world window image =
    with_book world
    (result_unwrap_or (new_screen world.book 0 window false image (fill_of world.book (rio_screen world 0))) world.book)
