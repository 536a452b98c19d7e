-- The session's window goes, on devices that are the same to the session.
use Rattle.std.proofs.Common.{◌≡◌, ℕ, Bool, true, false, List, Option, Some, None, refl, sym, ap, subst, ◌∙◌}
use Rattle.std.specs.Option.{option_map_or}
use Rattle.r9_event.specs.declared.event.rio.Order.TheVariants.{Drop}
use Rattle.model_draw_parts.specs.declared.images.ImageId.{ImageId}
use Rattle.model_draw_parts.specs.declared.images.Thing.TheVariants.{Image}
use Rattle.model_draw_parts.specs.images.Book.{Book, screen_id, screen_of}
use Rattle.model_draw_parts.specs.images.Release.{Freed, is_used}
use Rattle.model_draw.specs.draw.World.{World}
use Rattle.model_draw.specs.draw.Orders.{after_order, drop_window, fits, image_freed, manager, ordered}
use Rattle.law_likeness.specs.making.Likes.{IsLike, Matched}
use Rattle.law_others.proofs.managed.Ordering.{IsThere, window_there}
use Rattle.law_devices.proofs.granted.Untying.{bereft}
use Rattle.law_devices.proofs.granted.Freed.{AreKnown}
use Rattle.law_devices.proofs.granted.Dropping.{dropped_book, dropped_like, has_right, known}
use Rattle.law_devices.proofs.granted.Naming.{freed_unused, freed_used}
use Rattle.law_devices.proofs.renewed.Standing.{OnRoot, on_root_too}
use Rattle.law_devices.specs.assembled.Assembled.{AreAlike, IsAlone}
use Rattle.law_devices.proofs.assembled.Settling.{ordered_settled}
use Rattle.law_devices.proofs.assembled.Sizes.{beside_nothing, order_shape, size_kept}
use Rattle.law_devices.proofs.assembled.Writing.{holds_nothing}
use Rattle.law_devices.proofs.lawful.Lone.{BookAlone, bereft_alone, book_alone, ordered_is, without_alone}

module _ (c : ℕ) (size : Option (ℕ × ℕ)) (serial : ℕ) (name : List ℕ) (a b : World) (alike : AreAlike c size (Some (serial, name)) a b) (fit : fits a (Drop serial) ≡ true) where
  there : IsThere a serial
  there = window_there a serial fit

  none_screen : screen_id b.book manager serial ≡ None
  none_screen = alike.alone.screens serial there.counted

  fit_right : fits b (Drop serial) ≡ true
  fit_right = has_right c serial name a b alike.is fit

  like : IsLike c None (after_order a (Drop serial)) (after_order b (Drop serial))
  like = dropped_like c serial name a b alike.is fit alike.left.steady alike.right.steady alike.left.furnished.bare none_screen

  ids : AreKnown (Matched alike.is.images) a.book b.book serial
  ids = known c serial name a b alike.is fit

  place : OnRoot b.book ids.right.image
  place =
      let rooted = alike.holds.rooted serial name refl in
      on_root_too (Matched alike.is.images) (Matched alike.is.screens) c (Some (serial, name)) a.book b.book alike.is.like.books ids.left.image ids.right.image rooted.screen ids.same
      (ap (λ (o : Option ImageId). screen_of a.book (option_map_or (λ e. e.image) o 0)) (sym ids.found) ∙ rooted.on) rooted.root

  freed_alone : BookAlone None b (image_freed b.book serial).book
  freed_alone = by (is_used (bereft b.book serial) (Image ids.right.image)) refl
    where
      lost : BookAlone None b (bereft b.book serial)
      lost = bereft_alone b serial name there.counted alike.alone

      by : (used : Bool) → is_used (bereft b.book serial) (Image ids.right.image) ≡ used → BookAlone None b (image_freed b.book serial).book
      by true at = subst (λ (f : Freed). BookAlone None b f.book) (sym (freed_used b serial there.counted ids.right ids.there at)) lost
      by false at = subst (λ (f : Freed). BookAlone None b f.book) (sym (freed_unused b serial there.counted ids.right ids.there place.screen place.on place.root at)) (without_alone b (bereft b.book serial) ids.right.image lost)

  alone : IsAlone None (after_order b (Drop serial))
  alone = book_alone None b (drop_window b serial) (subst (λ (book : Book). BookAlone None b book) (sym (dropped_book b serial none_screen)) freed_alone)

  pub dropped_alike : AreAlike c size None (ordered a (Drop serial)) (ordered b (Drop serial))
  dropped_alike = record {
    is = subst (λ (v : World). IsLike c None v (ordered b (Drop serial))) (sym (ordered_is a (Drop serial) fit))
        (subst (λ (v : World). IsLike c None (after_order a (Drop serial)) v) (sym (ordered_is b (Drop serial) fit_right)) like);
    left = ordered_settled a (Drop serial) alike.left tt there.counted;
    right = ordered_settled b (Drop serial) alike.right tt there.counted;
    name = λ n other is. absurd cc;
    holds = holds_nothing (ordered a (Drop serial));
    alone = subst (IsAlone None) (sym (ordered_is b (Drop serial) fit_right)) alone;
    size_left = size_kept size a (ordered a (Drop serial)) (order_shape a alike.left (Drop serial) (beside_nothing serial there.counted)) alike.size_left;
    size_right = size_kept size b (ordered b (Drop serial)) (order_shape b alike.right (Drop serial) (beside_nothing serial there.counted)) alike.size_right;
  }
