-- The session's window comes, on devices that are the same to the session.
use Rattle.std.proofs.Common.{◌≡◌, ℕ, Bool, true, false, List, Option, Some, None, sym, subst}
use Rattle.std.specs.Prelude.{◌==◌, All, get_or}
use Rattle.std.specs.Str.{bytes_eq}
use Rattle.r9_geom.specs.declared.Rect.{Rect}
use Rattle.r9_event.specs.declared.event.rio.Order.{Order}
use Rattle.r9_event.specs.declared.event.rio.Order.TheVariants.{Make}
use Rattle.model_forest.specs.Steps.{clamped_rect}
use Rattle.model_draw_parts.specs.images.Book.{Book, image_id, tie_of}
use Rattle.model_draw_parts.specs.images.Release.{is_tied_by}
use Rattle.model_draw.specs.draw.World.{World}
use Rattle.model_draw.specs.draw.Orders.{after_order, fits, manager, ordered}
use Rattle.law_likeness.specs.making.Likes.{IsLike}
use Rattle.law_strangers.specs.followed.Devices.{IsFree}
use Rattle.law_devices.proofs.renewed.Coming as coming
use Rattle.law_devices.specs.assembled.Assembled.{AreAlike, HoldsWindow, IsAlone}
use Rattle.law_devices.proofs.assembled.Settling.{ordered_settled}
use Rattle.law_devices.proofs.assembled.Sizes.{beside_nothing, order_shape, size_kept}
use Rattle.law_devices.proofs.lawful.Lone.{BookAlone, book_alone, granted_alone, kept_name, ordered_is}

module _ (c : ℕ) (size : Option (ℕ × ℕ)) (a b : World) (alike : AreAlike c size None a b) (serial depth : ℕ) (name : List ℕ) (r : Rect) (hide : Bool) (counted : (serial == 0) ≡ false) (fit : fits a (Make serial 0 r name hide depth) ≡ true) (free : IsFree a.book serial name) where
  abbrev made : Order
  made = Make serial 0 r name hide depth

  abbrev alone_made : Order
  alone_made = Make serial 0 r name false depth

  none_right : image_id b.book manager serial ≡ None
  none_right = alike.alone.ids serial counted (λ n is. absurd cc)

  untied_right : All (λ u. is_tied_by manager serial u ≡ false) b.book.ties
  untied_right k d lt = absurd (let mine = alike.alone.ties k d lt in let no : ◌≡◌ {A = Option (ℕ × List ℕ)} None (Some ((get_or b.book.ties k d).id, mine.1.0)) = mine.1.1 in cc)

  free_right : All (λ t. bytes_eq t.name name ≡ true → is_tied_by manager serial t ≡ true) b.book.ties
  free_right k d lt = absurd (let mine = alike.alone.ties k d lt in let no : ◌≡◌ {A = Option (ℕ × List ℕ)} None (Some ((get_or b.book.ties k d).id, mine.1.0)) = mine.1.1 in cc)

  fit_right : fits b alone_made ≡ true
  fit_right =
      coming.fits_right c serial a b alike.is alike.left.steady alike.right.steady alike.left.grounded alike.right.grounded counted r name hide depth fit none_right untied_right free.free free_right

  like : IsLike c (Some (serial, name)) (after_order a made) (after_order b alone_made)
  like =
      coming.made_like c serial a b alike.is alike.left.steady alike.right.steady alike.left.grounded alike.right.grounded counted r name hide depth fit none_right untied_right free.free free_right

  near : clamped_rect r ≡ r
  near = coming.near c serial a b alike.is alike.left.steady alike.right.steady alike.left.grounded alike.right.grounded counted r name hide depth fit none_right untied_right free.free free_right

  none_left : image_id a.book manager serial ≡ None
  none_left = coming.none_left c serial a b alike.is alike.left.steady alike.right.steady alike.left.grounded alike.right.grounded counted r name hide depth fit none_right untied_right free.free free_right

  plain_left : tie_of a.book name ≡ None
  plain_left = coming.plain_left c serial a b alike.is alike.left.steady alike.right.steady alike.left.grounded alike.right.grounded counted r name hide depth fit none_right untied_right free.free free_right

  plain_right : tie_of b.book name ≡ None
  plain_right = coming.plain_right c serial a b alike.is alike.left.steady alike.right.steady alike.left.grounded alike.right.grounded counted r name hide depth fit none_right untied_right free.free free_right

  holds : HoldsWindow (Some (serial, name)) (after_order a made)
  holds = record {
    tied = coming.made_tied a alike.left.steady alike.left.grounded alike.is.like.display.live_left serial r near name hide none_left plain_left;
    rooted = coming.made_rooted a alike.left.steady alike.left.grounded alike.is.like.display.live_left serial r near name hide none_left plain_left;
  }

  alone : IsAlone (Some (serial, name)) (after_order b alone_made)
  alone =
      let is = coming.becomes b alike.right.steady alike.right.grounded alike.is.like.display.live_right serial r near name false none_right plain_right in
      book_alone (Some (serial, name)) b (after_order b alone_made)
      (subst (λ (book : Book). BookAlone (Some (serial, name)) b book) (sym is.book_is) (granted_alone b b.book serial _ _ name (record { ids = alike.alone.ids; screens = alike.alone.screens; ties = alike.alone.ties })))

  pub made_alike : AreAlike c size (Some (serial, name)) (ordered a made) (ordered b alone_made)
  made_alike = record {
    is = subst (λ (v : World). IsLike c (Some (serial, name)) v (ordered b alone_made)) (sym (ordered_is a made fit))
        (subst (λ (v : World). IsLike c (Some (serial, name)) (after_order a made) v) (sym (ordered_is b alone_made fit_right)) like);
    left = ordered_settled a made alike.left tt counted;
    right = ordered_settled b alone_made alike.right tt counted;
    name = kept_name serial name free.kept;
    holds = subst (HoldsWindow (Some (serial, name))) (sym (ordered_is a made fit)) holds;
    alone = subst (IsAlone (Some (serial, name))) (sym (ordered_is b alone_made fit_right)) alone;
    size_left = size_kept size a (ordered a made) (order_shape a alike.left made (beside_nothing serial counted)) alike.size_left;
    size_right = size_kept size b (ordered b alone_made) (order_shape b alike.right alone_made (beside_nothing serial counted)) alike.size_right;
  }
