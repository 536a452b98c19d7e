-- The session's window goes from two devices that are like.
use Rattle.std.proofs.Common.{◌≡◌, ◌&&◌, ℕ, true, List, Option, Some, None, Ok, Err, refl, sym, ap, subst, ◌∙◌, arith}
use Rattle.std.specs.Prelude.{◌==◌, is_some, not}
use Rattle.std.specs.Result.{result_unwrap_or}
use Rattle.std.proofs.lemmas.Bool.{eqb-true}
use Rattle.r9_geom.specs.declared.Point.{Point}
use Rattle.r9_geom.specs.declared.Rect.{Rect}
use Rattle.model_text.specs.text.Outcome.{Outcome, ◌>>=◌, value_or_refuse}
use Rattle.model_forest.specs.Steps.{after_origin, outside}
use Rattle.model_draw_parts.specs.declared.images.ScreenId.{ScreenId}
use Rattle.model_draw_parts.specs.images.Book.{image_id, screen_id, screen_of}
use Rattle.model_draw_parts.specs.images.Release.{Freed, free_screen, freed_screen_id, nothing_freed}
use Rattle.model_draw.specs.draw.World.{World, after_freed, at_number, with_book}
use Rattle.model_draw.specs.draw.Making.{is_window}
use Rattle.model_draw.specs.draw.Orders.{drop_window, has_window, image_freed, image_shown, manager, place_window, screen_freed}
use Rattle.law_likeness.specs.renamed.Renamed.{AreRenamed}
use Rattle.law_likeness.proofs.renamed.Lists.{renamed_origin}
use Rattle.law_shown.specs.shown.Showing.{IsOrderly}
use Rattle.law_shown.proofs.shown.Numbers.{gone-book}
use Rattle.law_shown.proofs.shown.Tests.{both, not-true, split}
use Rattle.law_shown.proofs.lasting.Ordering.{image_still, place_follows, screen_closed}
use Rattle.law_likeness.specs.likeness.Likeness.{AreLike, IsOfSession}
use Rattle.law_likeness.proofs.likeness.Ids.{same_some}
use Rattle.law_likeness.proofs.likeness.Looking.{with_images_like}
use Rattle.law_likeness.proofs.likeness.Shapes.{keeps_origin}
use Rattle.law_likeness.specs.making.Likes.{IsLike, Matched}
use Rattle.law_likeness.specs.making.Standing.{IsWhole}
use Rattle.law_others.specs.apart.Apart.{IsApart, IsOtherScreen, Part}
use Rattle.law_others.proofs.apart.Books.{book_itself}
use Rattle.law_others.proofs.apart.Devices.{freed_stays}
use Rattle.law_others.proofs.apart.Releasing.{Goes, free_screen_goes}
use Rattle.law_others.specs.others.Others.{IsBare, IsManaged, part_of}
use Rattle.law_others.proofs.others.Likeness.{like_apart, like_still, part_managed}
use Rattle.law_likeness.specs.whole.Steady.{IsSteady}
use Rattle.law_others.proofs.managed.Ordering.{IsThere, place_whole, screen_freed_whole, window_there}
use Rattle.law_devices.proofs.granted.Freed.{AreKnown, are_known, both_shown, freed_like}

-- where there is no rio in a window nothing is freed
pub no_screen_freed : (w : World) (serial : ℕ) → screen_id w.book manager serial ≡ None → after_freed w (screen_freed w.book serial) ≡ w
unfolding free_screen
no_screen_freed w serial none =
    ap (λ (o : Option ScreenId). after_freed w (result_unwrap_or (value_or_refuse o 5 >>= λ e. Ok (freed_screen_id (nothing_freed w.book) e)) (nothing_freed w.book))) none

-- and then only the window's image id goes
pub dropped_book : (w : World) (serial : ℕ) → screen_id w.book manager serial ≡ None → (drop_window w serial).book ≡ (image_freed w.book serial).book
unfolding drop_window place_window
dropped_book w serial none =
    let placed : World = place_window w serial outside in
    let freed : Freed = image_freed w.book serial in
    ap (λ (v : World). (after_freed v (image_freed v.book serial)).book) (no_screen_freed placed serial none) ∙ gone-book freed.gone (with_book placed freed.book)

module _ (c serial : ℕ) (name : List ℕ) (a b : World) (is : IsLike c (Some (serial, name)) a b) where
  abbrev S : ℕ → ℕ → Type 0
  S i j = Matched is.images i j

  abbrev T : ℕ → ℕ → Type 0
  T s t = Matched is.screens s t

  -- ---- the window is in both

  module _ (has : has_window a serial ≡ true) where
    there : IsThere a serial
    there = window_there a serial has

    pub known : AreKnown S a.book b.book serial
    known = are_known S a.book b.book serial name (is.like.books.hold serial name refl) there.known

    pub same : S (image_shown a serial) (image_shown b serial)
    same = both_shown S a b serial known

    pub has_right : has_window b serial ≡ true
    has_right =
        both (not (serial == 0) && is_some (image_id b.book manager serial)) (is_window b (image_shown b serial))
        (both (not (serial == 0)) (is_some (image_id b.book manager serial)) (ap not there.counted) (ap is_some known.there))
        (sym (same_some _ (screen_of a.book (image_shown a serial)) (screen_of b.book (image_shown b serial)) (is.like.books.windows (image_shown a serial) (image_shown b serial) same)) ∙ there.stands)

    -- ---- it moves far outside

    pub placed_like : AreLike S T c (Some (serial, name)) (place_window a serial outside) (place_window b serial outside)
    unfolding place_window
    placed_like =
        let i = image_shown a serial in
        let j = image_shown b serial in
        let images = is.like.images in
        let renamed : AreRenamed S (after_origin a.images i (at_number a i).r.min outside) (after_origin b.images j (at_number b j).r.min outside) =
        subst (λ (min : Point). AreRenamed S (after_origin a.images i (at_number a i).r.min outside) (after_origin b.images j min outside)) (ap (λ (r : Rect). r.min) (images.faces i j same).r)
        (renamed_origin S a.images b.images images i j same (at_number a i).r.min outside) in
        with_images_like S T c (Some (serial, name)) a b is.like 0 (omega arith) _ _ renamed
        (keeps_origin a.images i (at_number a i).r.min outside 0 (λ zero. is.like.display.left i j same (sym zero)))
        (keeps_origin b.images j (at_number b j).r.min outside 0 (λ zero. is.like.display.right i j same (sym zero)))

    -- ---- all of it

    module _ (steady_a : IsSteady a) (steady_b : IsSteady b) (bare : IsBare a) (no_rio : screen_id b.book manager serial ≡ None) where
      abbrev left : World
      left = place_window a serial outside

      abbrev right : World
      right = place_window b serial outside

      abbrev part : Part
      part = part_of S T c (Some (serial, name))

      whole_left : IsWhole left
      whole_left = place_whole a serial outside steady_a.whole has

      orderly_left : IsOrderly left
      orderly_left = (let follows = place_follows a serial outside steady_a.orderly in follows.orderly)

      whole_right : IsWhole right
      whole_right = place_whole b serial outside steady_b.whole has_right

      orderly_right : IsOrderly right
      orderly_right = (let follows = place_follows b serial outside steady_b.orderly in follows.orderly)

      bare_left : IsBare left
      unfolding place_window
      bare_left = bare

      apart_left : IsApart part left
      apart_left = like_apart S T c (Some (serial, name)) left right placed_like whole_left orderly_left bare_left

      other_screen : IsOtherScreen part manager serial
      other_screen =
          let managed : IsManaged part = part_managed S T c (Some (serial, name)) is.like.counted in
          record {
            ids = λ k x own. not-true ((manager == k) && (serial == x)) (λ at. managed.screens x (subst (IsOfSession c) (sym (eqb-true manager k (split (manager == k) (serial == x) at).0)) own));
            root = there.counted;
          }

      screen_goes : Goes part (nothing_freed left.book) (screen_freed left.book serial)
      screen_goes = by (free_screen left.book manager serial) refl
        where
          by : (o : Outcome Freed) → free_screen left.book manager serial ≡ o → Goes part (nothing_freed left.book) (result_unwrap_or o (nothing_freed left.book))
          by (Ok freed) e = free_screen_goes part left.book manager serial freed other_screen apart_left.book placed_like.books.numbers_left e
          by (Err n) e = record { book = book_itself part left.book; gone = tt; numbers = placed_like.books.numbers_left }

      -- the rio in it goes with its screen
      abbrev closed : World
      closed = after_freed left (screen_freed left.book serial)

      closed_like : AreLike S T c (Some (serial, name)) closed right
      closed_like = like_still S T c (Some (serial, name)) left right closed placed_like (freed_stays part left (screen_freed left.book serial) apart_left screen_goes)

      closed_known : is_some (image_id closed.book manager serial) ≡ true
      unfolding place_window
      closed_known = ap is_some (image_still left serial) ∙ there.known

      none_right : screen_id right.book manager serial ≡ None
      unfolding place_window
      none_right = no_rio

      pub dropped_like : IsLike c None (drop_window a serial) (drop_window b serial)
      unfolding drop_window
      dropped_like =
          let orderly : IsOrderly closed = (let follows = screen_closed left serial orderly_left in follows.orderly) in
          let at : AreKnown S closed.book right.book serial = are_known S closed.book right.book serial name (closed_like.books.hold serial name refl) closed_known in
          let gone : IsLike c None (after_freed closed (image_freed closed.book serial)) (after_freed right (image_freed right.book serial)) =
          freed_like c serial name closed right (record { images = is.images; screens = is.screens; like = closed_like }) (screen_freed_whole left serial whole_left) whole_right orderly.ties orderly_right.ties there.counted at in
          subst (λ (w : World). IsLike c None (after_freed closed (image_freed closed.book serial)) (after_freed w (image_freed w.book serial))) (sym (no_screen_freed right serial none_right)) gone
