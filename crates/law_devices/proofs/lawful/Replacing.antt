-- The session's window gets another image, on devices that are the same to the session.
use Rattle.std.proofs.Common.{◌≡◌, ℕ, Bool, true, false, List, Option, Some, sym, subst}
use Rattle.std.specs.Prelude.{◌==◌, All}
use Rattle.std.specs.Str.{bytes_eq}
use Rattle.r9_geom.specs.declared.Rect.{Rect}
use Rattle.r9_event.specs.declared.event.rio.Order.{Order}
use Rattle.r9_event.specs.declared.event.rio.Order.TheVariants.{Replace}
use Rattle.model_draw_parts.specs.declared.images.Thing.TheVariants.{Image}
use Rattle.model_draw_parts.specs.images.Release.{is_tied_by, without}
use Rattle.model_draw.specs.draw.World.{World}
use Rattle.model_draw.specs.draw.Orders.{after_order, fits, manager, ordered}
use Rattle.law_shown.proofs.shown.Tests.{split}
use Rattle.law_likeness.specs.making.Likes.{IsLike}
use Rattle.law_strangers.specs.followed.Devices.{IsFree}
use Rattle.law_others.proofs.managed.Ordering.{window_there}
use Rattle.law_devices.proofs.granted.Untying.{bereft}
use Rattle.law_devices.proofs.renewed.Replacing as replacing
use Rattle.law_devices.specs.assembled.Assembled.{AreAlike, HoldsWindow, IsAlone}
use Rattle.law_devices.proofs.assembled.Settling.{ordered_settled}
use Rattle.law_devices.proofs.assembled.Sizes.{beside_nothing, order_shape, size_kept}
use Rattle.law_devices.proofs.lawful.Lone.{BookAlone, alone_tied, bereft_alone, book_alone, granted_alone, kept_name, ordered_is, without_alone}

module _ (c : ℕ) (size : Option (ℕ × ℕ)) (serial : ℕ) (old : List ℕ) (a b : World) (alike : AreAlike c size (Some (serial, old)) a b) (name : List ℕ) (r : Rect) (keep hidden : Bool) (fit : fits a (Replace serial 0 r name keep hidden) ≡ true) (free : IsFree a.book serial name) where
  abbrev replaced : Order
  replaced = Replace serial 0 r name keep hidden

  abbrev alone_replaced : Order
  alone_replaced = Replace serial 0 r name keep false

  counted : (serial == 0) ≡ false
  counted = (window_there a serial (split _ _ (split _ _ (split _ _ fit).0).0).0).counted

  free_right : All (λ t. bytes_eq t.name name ≡ true → is_tied_by manager serial t ≡ true) b.book.ties
  free_right k d lt same = alone_tied serial old b alike.alone k d lt

  fit_right : fits b alone_replaced ≡ true
  fit_right =
      replacing.fits_right c serial old a b alike.is alike.left.steady alike.right.steady alike.holds.rooted r name keep hidden fit free.free free_right alike.left.grounded alike.right.grounded

  like : IsLike c (Some (serial, name)) (after_order a replaced) (after_order b alone_replaced)
  like = replacing.replaced_like c serial old a b alike.is alike.left.steady alike.right.steady alike.holds.rooted r name keep hidden fit free.free free_right

  holds : HoldsWindow (Some (serial, name)) (after_order a replaced)
  holds =
      let both = replacing.replaced_holds c serial old a b alike.is alike.left.steady alike.right.steady alike.holds.rooted r name keep hidden fit free.free free_right in
      record { tied = both.0; rooted = both.1 }

  alone : IsAlone (Some (serial, name)) (after_order b alone_replaced)
  alone =
      let lost = bereft_alone b serial old counted alike.alone in
      book_alone (Some (serial, name)) b (after_order b alone_replaced)
      (replacing.right_book c serial old a b alike.is alike.left.steady alike.right.steady alike.holds.rooted r name keep hidden fit free.free free_right (BookAlone (Some (serial, name)) b)
      (λ k t. granted_alone b (bereft b.book serial) serial k t name lost) (λ k l t. granted_alone b (without (bereft b.book serial) (Image l)) serial k t name (without_alone b (bereft b.book serial) l lost)))

  pub replaced_alike : AreAlike c size (Some (serial, name)) (ordered a replaced) (ordered b alone_replaced)
  replaced_alike = record {
    is = subst (λ (v : World). IsLike c (Some (serial, name)) v (ordered b alone_replaced)) (sym (ordered_is a replaced fit))
        (subst (λ (v : World). IsLike c (Some (serial, name)) (after_order a replaced) v) (sym (ordered_is b alone_replaced fit_right)) like);
    left = ordered_settled a replaced alike.left tt counted;
    right = ordered_settled b alone_replaced alike.right tt counted;
    name = kept_name serial name free.kept;
    holds = subst (HoldsWindow (Some (serial, name))) (sym (ordered_is a replaced fit)) holds;
    alone = subst (IsAlone (Some (serial, name))) (sym (ordered_is b alone_replaced fit_right)) alone;
    size_left = size_kept size a (ordered a replaced) (order_shape a alike.left replaced (beside_nothing serial counted)) alike.size_left;
    size_right = size_kept size b (ordered b alone_replaced) (order_shape b alike.right alone_replaced (beside_nothing serial counted)) alike.size_right;
  }
