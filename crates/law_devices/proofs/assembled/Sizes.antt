-- The sides of both displays, as long as they are known, and an order that gives one other sides, on devices that are the same to the
-- session.
use Rattle.std.proofs.Common.{◌≡◌, ◌≢◌, ℕ, true, false, List, Option, Some, None, refl, sym, ap, subst, ◌∙◌}
use Rattle.std.specs.Prelude.{◌==◌, is_some, unwrap_or}
use Rattle.std.specs.Option.{option_map_or}
use Rattle.r9_event.specs.declared.event.rio.Order.{Order}
use Rattle.r9_event.specs.declared.event.rio.Order.TheVariants.{Size}
use Rattle.model_pixel.specs.Channels.{colour_of, pack}
use Rattle.model_forest.specs.World.{Image as ImageState, World as Images, IsLive, image_at, no_image}
use Rattle.model_forest.specs.Steps.{clamped_rect}
use Rattle.model_forest.proofs.Changes.{with_image-at, with_image-other}
use Rattle.model_exchanged.specs.resize.Resize.{after_resize, resized_image, sized}
use Rattle.model_exchanged.proofs.resize.Shown.{resize-at}
use Rattle.law_likeness.proofs.renamed.Changes.{renamed_kept}
use Rattle.model_draw_parts.specs.declared.images.ImageId.{ImageId}
use Rattle.model_draw.specs.draw.World.{World, at_number, with_images}
use Rattle.model_draw.specs.draw.Orders.{fits, image_shown, ordered, resize_display}
use Rattle.law_likeness.specs.likeness.Likeness.{SameShape}
use Rattle.law_likeness.specs.making.Likes.{IsLike, Matched}
use Rattle.law_others.specs.sized.Sizes.{IsForSize}
use Rattle.law_others.specs.others.Others.{IsOtherOrder, IsOtherWindow, nothing}
use Rattle.law_others.proofs.others.Orders.{ordered_stays}
use Rattle.law_devices.specs.beside.Rooted.{IsRooted}
use Rattle.law_devices.proofs.beside.Rooting.{shown_same}
use Rattle.law_devices.proofs.holding.Rooting.{nothing_apart}
use Rattle.law_devices.specs.assembled.Assembled.{AreAlike, HasSize, HoldsWindow, IsSettled}
use Rattle.law_devices.proofs.assembled.Settling.{ordered_settled}

-- ---- what leaves them as they are

pub size_kept : (size : Option (ℕ × ℕ)) (old new : World) → SameShape (at_number new 0) (at_number old 0) → HasSize size old → HasSize size new
size_kept None old new same has = tt
size_kept (Some sides) old new same has = (same.r ∙ has.0, same.clipr ∙ has.1)

pub beside_nothing : (window : ℕ) → (window == 0) ≡ false → IsOtherWindow nothing window
beside_nothing window counted = record { counted = counted; id = record { ids = λ k x none. absurd none; display = counted }; none = λ none. none }

-- an order on a window leaves the display its shape
pub order_shape : (w : World) → IsSettled w → (order : Order) → IsOtherOrder nothing order → SameShape (at_number (ordered w order) 0) (at_number w 0)
order_shape w settled order other =
    let stays =
    ordered_stays nothing (record { screens = λ id none. none; client = λ none. none }) w order (nothing_apart w settled.furnished) settled.furnished.numbers settled.steady.orderly (λ name none. absurd none) other in
    stays.shape

-- ---- sides that are known no longer

pub forgotten : (c : ℕ) (size : Option (ℕ × ℕ)) (window : Option (ℕ × List ℕ)) (a b : World) → AreAlike c size window a b → AreAlike c None window a b
forgotten c size window a b alike = record { is = alike.is; left = alike.left; right = alike.right; name = alike.name; holds = alike.holds; alone = alike.alone; size_left = tt; size_right = tt }

-- ---- other sides

module _ (c : ℕ) (size : Option (ℕ × ℕ)) (window : Option (ℕ × List ℕ)) (a b : World) (alike : AreAlike c size window a b) (columns rows : ℕ) (may : fits a (Size columns rows) ≡ true) where
  abbrev S : ℕ → ℕ → Type 0
  S i j = Matched alike.is.images i j

  abbrev T : ℕ → ℕ → Type 0
  T s t = Matched alike.is.screens s t

  abbrev raw : ℕ
  raw = pack (at_number a 0).chan (colour_of 0x777777ff)

  abbrev images : Images
  images = after_resize a.images 0 columns rows raw

  abbrev next : World
  next = with_images a images

  shown : image_shown a 0 ≡ 0
  shown = ap (λ (o : Option ImageId). option_map_or (λ e. e.image) o 0) alike.left.furnished.named

  next_is : ordered a (Size columns rows) ≡ next
  unfolding resize_display
  next_is = rw may (ap (λ (i : ℕ). with_images a (after_resize a.images i columns rows (pack (at_number a i).chan (colour_of 0x777777ff)))) shown)

  others_same : (i : ℕ) → i ≢ 0 → images i ≡ a.images i
  unfolding after_resize
  others_same i apart = with_image-other a.images 0 i (Some (resized_image (image_at a.images 0) (sized columns rows) raw)) apart

  display_is : image_at images 0 ≡ resized_image (image_at a.images 0) (sized columns rows) raw
  display_is = resize-at a.images 0 columns rows raw

  display_lives : IsLive images 0
  unfolding after_resize
  display_lives = ap is_some (with_image-at a.images 0 (Some (resized_image (image_at a.images 0) (sized columns rows) raw)))

  like : IsLike c window next b
  like =
      let old = alike.is.like in
      record {
        images = alike.is.images;
        screens = alike.is.screens;
        like = record {
          counted = old.counted;
          images = renamed_kept S a.images b.images images b.images old.images (λ i j is. others_same i (old.display.left i j is)) (λ i j is. refl);
          books = old.books;
          display = record {
            named = old.display.named;
            named_alone = old.display.named_alone;
            look = record { repl = ap (λ (im : ImageState). im.repl) display_is ∙ old.display.look.repl; chan = ap (λ (im : ImageState). im.chan) display_is ∙ old.display.look.chan };
            live_left = display_lives;
            live_right = old.display.live_right;
            left = old.display.left;
            right = old.display.right;
          };
          clients = old.clients;
        };
      }

  -- the session's window stands as it did
  holds : HoldsWindow window next
  holds = record {
    tied = alike.holds.tied;
    rooted = λ serial name is.
        let old : IsRooted a (image_shown a serial) = alike.holds.rooted serial name is in
        let same = shown_same S T c window a b alike.is.like alike.left.furnished.bare alike.holds.rooted serial name is in
        record {
          screen = old.screen;
          on = old.on;
          root = old.root;
          near =
              subst (λ (o : Option ImageState). clamped_rect (unwrap_or o no_image).clipr ≡ (unwrap_or o no_image).clipr)
              (sym (others_same (image_shown a serial) (alike.is.like.display.left (image_shown a serial) same.0 same.1))) old.near;
        };
  }

  has_size : IsForSize size (Size columns rows) → HasSize size next
  has_size known = by size known
    where
      by : (o : Option (ℕ × ℕ)) → IsForSize o (Size columns rows) → HasSize o next
      by None known = tt
      by (Some sides) known =
          let same : sized columns rows ≡ sized sides.0 sides.1 = (λ i. sized (sym known.0 i) (sym known.1 i)) in
          (ap (λ (im : ImageState). im.r) display_is ∙ same, ap (λ (im : ImageState). im.clipr) display_is ∙ same)

  -- the devices are the same to the session still
  pub resized_alike : IsForSize size (Size columns rows) → AreAlike c size window (ordered a (Size columns rows)) b
  resized_alike known =
      let settled = ordered_settled a (Size columns rows) alike.left tt tt in
      record {
        is = subst (λ (v : World). IsLike c window v b) (sym next_is) like;
        left = settled;
        right = alike.right;
        name = alike.name;
        holds = subst (HoldsWindow window) (sym next_is) holds;
        alone = alike.alone;
        size_left = subst (HasSize size) (sym next_is) (has_size known);
        size_right = alike.size_right;
      }
