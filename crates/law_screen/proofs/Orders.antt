-- A draw device's images are stacked still after each order of the window manager.
use Rattle.std.proofs.Common.{◌≡◌, ◌&&◌, ◌⊎◌, ℕ, Bool, true, false, List, [], ◌∷◌, Option, Some, None, Ok, Err, inl, inr, refl, sym, ap, ◌∙◌}
use Rattle.std.specs.Prelude.{◌==◌, is_some, not, option_map, if◌then◌else◌}
use Rattle.std.specs.List.{list_any}
use Rattle.std.specs.Result.{result_unwrap_or}
use Rattle.std.proofs.lemmas.Bool.{eqb-true}
use Rattle.r9_geom.specs.declared.Point.{Point}
use Rattle.r9_geom.specs.declared.Rect.{Rect}
use Rattle.r9_geom.specs.Geometry.{at_min, is_point}
use Rattle.r9_event.specs.declared.event.rio.Order.{Order}
use Rattle.r9_event.specs.declared.event.rio.Order.TheVariants.{Make, Place, Replace, Raise, Lower, Drop, Host, Leave, Size}
use Rattle.model_text.specs.text.Outcome.{Outcome}
use Rattle.model_pixel.specs.Channels.{colour_of, pack}
use Rattle.model_forest.specs.declared.Standing.{Standing}
use Rattle.model_forest.specs.World.{IsLive, World as Images, origin_point, parent_of}
use Rattle.model_forest.specs.Draw.{after_fill}
use Rattle.model_forest.specs.Stack.{after_window}
use Rattle.model_forest.specs.Steps.{outside}
use Rattle.model_forest.proofs.Changes.{live-standing}
use Rattle.model_exchanged.specs.resize.Resize.{after_resize}
use Rattle.model_draw_parts.specs.declared.images.Thing.TheVariants.{Image}
use Rattle.model_draw_parts.specs.images.Book.{Book, add_id, fill_of, image_id, image_of, is_image_id_taken, screen_of, tie}
use Rattle.model_draw_parts.specs.images.Release.{Freed, free_id, free_screen, has_gone, is_used, nothing_freed}
use Rattle.model_draw_parts.proofs.images.Freed.{free_id-frees, free_screen-frees}
use Rattle.model_draw_parts.proofs.images.Ties.{any-put, tie-rest}
use Rattle.model_draw.specs.draw.World.{World, after_freed, at_number, next_image, with_book, with_images}
use Rattle.model_draw.specs.draw.Making.{is_window, with_made}
use Rattle.model_draw.specs.draw.Orders.{after_order, bordered, corner, drop_window, fits, has_display, has_rio, has_window, host_rio, image_freed, image_shown, inside_border, is_side, manager, make_window, new_white, next_white, ordered, place_window, replace_window, resize_display, rio_screen, screen_freed, stands_on, white, with_window_id, with_window_name}
use Rattle.law_shown.proofs.shown.Numbers.{gone-book}
use Rattle.law_shown.proofs.shown.Tests.{either_true, first_true, not-true, not_both, refuse_ok, same_Ok, second_true, split}
use Rattle.law_likeness.specs.making.Standing.{IsWhole, standing_on}
use Rattle.law_likeness.proofs.making.Fresh.{fresh_next}
use Rattle.law_likeness.proofs.making.Making.{entered, entry}
use Rattle.law_likeness.proofs.making.Standing.{parent_lives}
use Rattle.law_likeness.proofs.whole.Messages.{ground_apart, ground_lives}
use Rattle.law_likeness.proofs.whole.Resting.{fill_rests, images_whole, rest_itself}
use Rattle.law_others.proofs.managed.Ordering.{image_freed_whole, place_whole, rio_there, screen_freed_whole, shown_lives, window_there}
use Rattle.law_others.proofs.managed.Replaced.{replace_whole}
use Rattle.law_screen.proofs.Placed.{ground_placed, window_placed}
use Rattle.law_screen.proofs.Replaced.{replace_on_placed, replace_placed}
use Rattle.law_screen.proofs.Growing.{NobodyOn, image_grown}
use Rattle.law_screen.proofs.Coming.{replaced_comes, replaced_on_comes, window_comes}
use Rattle.law_screen.proofs.Leaving.{IsSpared}
use Rattle.law_screen.proofs.Stacked.{AreStacked, canvas_stacked, fill_stacked, lower_stacked, origin_stacked, raise_stacked}
use Rattle.law_screen.proofs.Messages.{HasStacks, freed_is, freed_stacked, leave_stacked, next_free, nobody_on}

-- what the id of a window leaves behind was used, and is not
image_gone : (w : World) (window i : ℕ) → IsWhole w → has_gone (image_freed w.book window) (Image i) ≡ true → (is_used w.book (Image i) ≡ true) × (is_used (image_freed w.book window).book (Image i) ≡ false)
image_gone w window i whole = by (free_id w.book manager window) refl
  where
    by : (o : Outcome Freed) → free_id w.book manager window ≡ o
        → (let freed : Freed = result_unwrap_or o (nothing_freed w.book) in has_gone freed (Image i) ≡ true → (is_used w.book (Image i) ≡ true) × (is_used freed.book (Image i) ≡ false))
    by (Ok freed) e gone = (let frees = free_id-frees w.book manager window freed whole.standing.screens e in (frees.gone_used (Image i) gone, frees.gone_unused (Image i) gone))
    by (Err n) e gone = absurd cc

screen_gone : (w : World) (host i : ℕ) → IsWhole w → has_gone (screen_freed w.book host) (Image i) ≡ true → is_used (screen_freed w.book host).book (Image i) ≡ false
screen_gone w host i whole = by (free_screen w.book manager host) refl
  where
    by : (o : Outcome Freed) → free_screen w.book manager host ≡ o → (let freed : Freed = result_unwrap_or o (nothing_freed w.book) in has_gone freed (Image i) ≡ true → is_used freed.book (Image i) ≡ false)
    by (Ok freed) e gone = (let frees = free_screen-frees w.book manager host freed whole.standing.screens e in frees.gone_unused (Image i) gone)
    by (Err n) e gone = absurd cc

-- an id and a name for the image of a window use no other image
named_used : (book : Book) (window i : ℕ) (name : List ℕ) → is_used (with_window_name book window name) (Image i) ≡ is_used book (Image i)
named_used book window i name = by (tie book manager window name) refl
  where
    by : (o : Outcome Book) → tie book manager window name ≡ o → is_used (result_unwrap_or o book) (Image i) ≡ is_used book (Image i)
    by (Ok next) e = ap (λ (b : Book). is_used b (Image i)) (tie-rest book next manager window name e)
    by (Err n) e = refl

id_used : (book : Book) (window m s i : ℕ) → is_used (with_window_id book window m s) (Image i) ≡ true → ((m == i) ≡ true) ⊎ (is_used book (Image i) ≡ true)
unfolding add_id
id_used book window m s i = by (add_id book manager window m (Some s)) refl
  where
    added : Book
    added = entered book manager window m (Some s)

    either : is_used added (Image i) ≡ true → ((m == i) ≡ true) ⊎ (is_used book (Image i) ≡ true)
    either used = elim (either_true (list_any (λ e. e.image == i) added.image_ids) _ used) [
      | inl ids ↦ elim (either_true (m == i) _ (sym (any-put (λ e. e.image == i) (entry manager window m) book.image_ids) ∙ ids)) [
        | inl new ↦ inl new
        | inr before ↦ inr (first_true _ _ before)
      ]
      | inr there ↦ inr (second_true (list_any (λ e. e.image == i) book.image_ids) _ there)
    ]

    by : (o : Outcome Book) → add_id book manager window m (Some s) ≡ o → is_used (result_unwrap_or o book) (Image i) ≡ true → ((m == i) ≡ true) ⊎ (is_used book (Image i) ≡ true)
    by (Ok next) e used =
        let free = refuse_ok (is_image_id_taken book manager window) 6 (λ _. Ok added) next e in
        either (ap (λ (b : Book). is_used b (Image i)) (same_Ok added next free.1) ∙ used)
    by (Err n) e used = inr used

window_used : (book : Book) (window m s : ℕ) (name : List ℕ) (i : ℕ) → is_used (with_window_name (with_window_id book window m s) window name) (Image i) ≡ true → ((m == i) ≡ true) ⊎ (is_used book (Image i) ≡ true)
window_used book window m s name i used = id_used book window m s i (sym (named_used (with_window_id book window m s) window i name) ∙ used)

bordered_stacked : (images : Images) (i : ℕ) → AreStacked images → AreStacked (bordered images i)
unfolding bordered
bordered_stacked images i is = canvas_stacked images i _ _ is

module _ (w : World) (is : HasStacks w) where
  abbrev stacked : AreStacked w.images
  stacked = is.stacked

  abbrev m : ℕ
  m = next_image w

  abbrev free : w.images m ≡ None
  free = next_free w is.steady

  abbrev nobody : NobodyOn w.images m
  nobody = nobody_on w is.steady

  -- what a rio's screen is on is another image than the next
  apart : (host : ℕ) → has_rio w host ≡ true → (image_of w.book (rio_screen w host) == m) ≡ false
  apart host rio =
      let s = rio_screen w host in
      ground_apart w is.steady.whole is.steady.orderly (image_of w.book s) (ground_lives w is.steady.whole s (rio_there w host is.steady.whole rio))

  -- ---- windows that come

  white_stacked : (host : ℕ) (r : Rect) (hide : Bool) → has_rio w host ≡ true → AreStacked (new_white w (rio_screen w host) r hide)
  white_stacked host r hide rio = by hide
    where
      s : ℕ
      s = rio_screen w host

      pixel : ℕ
      pixel = white (at_number w (image_of w.book s)).chan

      on : Rect → Images
      on place = after_window w.images m (image_of w.book s) (fill_of w.book s) place pixel

      there : (place : Rect) → AreStacked (on place)
      there place = record {
        placed = window_placed w.images m (image_of w.book s) (fill_of w.book s) place pixel free stacked.placed;
        grown = window_comes w.images m free nobody stacked.placed stacked.grown (image_of w.book s) (fill_of w.book s) place pixel (apart host rio);
      }

      by : (hide : Bool) → AreStacked (new_white w s r hide)
      by true = origin_stacked (on (at_min r outside)) m r.min outside (there (at_min r outside))
      by false = there r

  make_stacked : (window host : ℕ) (r : Rect) (name : List ℕ) (hide : Bool) → has_rio w host ≡ true → (let next : World = make_window w window host r name hide in AreStacked next.images)
  unfolding make_window
  make_stacked window host r name hide rio = bordered_stacked (new_white w (rio_screen w host) r hide) m (white_stacked host r hide rio)

  next_stacked : (old host : ℕ) (r : Rect) (keep hidden : Bool) → (old == m) ≡ false → has_rio w host ≡ true → AreStacked (next_white w old (rio_screen w host) r keep hidden)
  next_stacked old host r keep hidden other rio = by (stands_on w.book old s) refl
    where
      s : ℕ
      s = rio_screen w host

      by : (b : Bool) → stands_on w.book old s ≡ b → AreStacked (next_white w old s r keep hidden)
      by true at =
          let pixel = white (at_number w old).chan in
          rw at
          (record {
            placed = replace_placed w.images m old r (corner r hidden) pixel keep free other stacked.placed;
            grown = replaced_comes w.images m free nobody stacked.placed stacked.grown old r (corner r hidden) pixel keep other;
          })
      by false at =
          let p = image_of w.book s in
          let pixel = white (at_number w p).chan in
          rw at
          (record {
            placed = replace_on_placed w.images m old r (corner r hidden) pixel keep free other stacked.placed p (fill_of w.book s);
            grown = replaced_on_comes w.images m free nobody stacked.placed stacked.grown old r (corner r hidden) pixel keep p (fill_of w.book s) (apart host rio);
          })

  replace_window_stacked : (window host : ℕ) (r : Rect) (name : List ℕ) (keep hidden : Bool) → has_window w window ≡ true → has_rio w host ≡ true
      → (let next : World = replace_window w window host r name keep hidden in AreStacked next.images)
  unfolding replace_window
  replace_window_stacked window host r name keep hidden has rio = freed_stacked next freed (record { spared = spared; ground = ground }) (by keep)
    where
      new : Images
      new = next_white w (image_shown w window) (rio_screen w host) r keep hidden

      next : World
      next = with_made w (if keep then new else bordered new m) w.book

      freed : Freed
      freed = image_freed w.book window

      after : World
      after = replace_window w window host r name keep hidden

      whole : IsWhole after
      whole = replace_whole w window host r name keep hidden is.steady.whole is.steady.orderly has rio

      ground : (i p : ℕ) → parent_of after.images i ≡ Some p → IsLive after.images p
      ground i p stands = parent_lives after whole.standing i p (live-standing after.images i p stands) stands

      -- the next image was not used, and what has gone was
      unused : (i : ℕ) → (m == i) ≡ true → has_gone freed (Image i) ≡ true → ⊥
      unused i same gone =
          let fresh = fresh_next w is.steady.whole is.steady.orderly in
          not_both (is_used w.book (Image m)) (ap (λ (n : ℕ). is_used w.book (Image n)) (eqb-true m i same) ∙ (image_gone w window i is.steady.whole gone).0) fresh.unused

      spared : (i : ℕ) → IsLive after.images i → IsSpared freed.gone i
      spared i live = not-true (has_gone freed (Image i)) (λ gone.
          elim (window_used (after_freed next freed).book window m (rio_screen w host) name i (whole.used i live)) [
            | inl same ↦ unused i same gone
            | inr used ↦ not_both (is_used freed.book (Image i)) (sym (ap (λ (b : Book). is_used b (Image i)) (gone-book freed.gone (with_book next freed.book))) ∙ used) (image_gone w window i is.steady.whole gone).1
          ])

      by : (b : Bool) → AreStacked (if b then new else bordered new m)
      by b = drawn b (next_stacked (image_shown w window) host r keep hidden
          (let there = window_there w window has in ground_apart w is.steady.whole is.steady.orderly (image_shown w window) (shown_lives w window is.steady.whole there.known)) rio)
        where
          drawn : (b : Bool) → AreStacked new → AreStacked (if b then new else bordered new m)
          drawn true is = is
          drawn false is = bordered_stacked new m is

  -- ---- windows that move and go

  place_stacked : (window : ℕ) (at : Point) → (let next : World = place_window w window at in AreStacked next.images)
  unfolding place_window
  place_stacked window at = origin_stacked w.images (image_shown w window) (at_number w (image_shown w window)).r.min at stacked

  drop_stacked : (window : ℕ) → has_window w window ≡ true → (let next : World = drop_window w window in AreStacked next.images)
  unfolding drop_window
  drop_stacked window has =
      let left : World = place_window w window outside in
      let closed : World = after_freed left (screen_freed left.book window) in
      let one : IsWhole left = place_whole w window outside is.steady.whole has in
      let two : IsWhole closed = screen_freed_whole left window one in
      freed_is closed (image_freed closed.book window) (image_freed_whole closed window two) (λ i gone. (image_gone closed window i two gone).1)
      (freed_is left (screen_freed left.book window) two (λ i gone. screen_gone left window i one gone) (place_stacked window outside))

  -- ---- rios, and the display

  host_stacked : (window : ℕ) (fill : Bool) → has_window w window ≡ true → (let next : World = host_rio w window fill in AreStacked next.images)
  unfolding host_rio
  host_stacked window fill has =
      freed_is (with_images w (filled fill)) (screen_freed w.book window) (screen_freed_whole (with_images w (filled fill)) window (whole fill))
      (λ j gone. screen_gone w window j is.steady.whole gone) (by fill)
    where
      i : ℕ
      i = image_shown w window

      inner : Rect
      inner = inside_border (at_number w i).r

      grey : ℕ
      grey = pack (at_number w i).chan (colour_of 0x777777ff)

      filled : Bool → Images
      filled b = if b then after_fill w.images i inner grey else w.images

      live : IsLive w.images i
      live = (let there = window_there w window has in shown_lives w window is.steady.whole there.known)

      whole : (b : Bool) → IsWhole (with_images w (filled b))
      whole true = images_whole w (after_fill w.images i inner grey) (fill_rests w.images i inner grey live) is.steady.whole
      whole false = images_whole w w.images (rest_itself w.images) is.steady.whole

      by : (b : Bool) → AreStacked (filled b)
      by true = fill_stacked w.images i inner grey stacked
      by false = stacked

  display_known : has_display w ≡ true → is_some (image_id w.book manager 0) ≡ true
  display_known has =
      let i = image_shown w 0 in
      (split _ (not (is_window w i)) (split _ (is_point (at_number w i).r.min origin_point) (split _ (not (at_number w i).repl) has).0).0).0

  -- the display stands nowhere
  nowhere : has_display w ≡ true → parent_of w.images (image_shown w 0) ≡ None
  nowhere has =
      let i = image_shown w 0 in
      let standing = is.steady.whole.standing in
      ap (option_map (λ (s : Standing). s.parent)) (standing.stands i (shown_lives w 0 is.steady.whole (display_known has))) ∙ by (screen_of w.book i) (no_window has)
    where
      by : (o : Option ℕ) → not (is_some o) ≡ true → option_map (λ (s : Standing). s.parent) (option_map (standing_on w.book) o) ≡ None
      by None none = refl
      by (Some s) none = absurd cc

      no_window : has_display w ≡ true → not (is_window w (image_shown w 0)) ≡ true
      no_window has = (split _ (not (is_window w (image_shown w 0))) (split _ (is_point (at_number w (image_shown w 0)).r.min origin_point) (split _ (not (at_number w (image_shown w 0)).repl) has).0).0).1

  size_stacked : (width height : ℕ) → has_display w ≡ true → (let next : World = resize_display w width height in AreStacked next.images)
  unfolding resize_display after_resize
  size_stacked width height has = record {
    placed = ground_placed w.images (image_shown w 0) _ (nowhere has) refl stacked.placed;
    grown = image_grown w.images (image_shown w 0) _ refl refl refl stacked.grown;
  }

  -- ---- each order

  after_stacked : (o : Order) → fits w o ≡ true → (let next : World = after_order w o in AreStacked next.images)
  after_stacked (Make window host r name hide depth) fit = make_stacked window host r name hide (split _ _ (split _ _ fit).0).0
  after_stacked (Place window at) fit = place_stacked window at
  after_stacked (Replace window host r name keep hidden) fit =
      let both = split (has_window w window) (has_rio w host) (split _ _ (split _ _ fit).0).0 in replace_window_stacked window host r name keep hidden both.0 both.1
  after_stacked (Raise window) fit = raise_stacked w.images (image_shown w window ∷ []) stacked
  after_stacked (Lower window) fit = lower_stacked w.images (image_shown w window ∷ []) stacked
  after_stacked (Drop window) fit = drop_stacked window fit
  after_stacked (Host window fill) fit = host_stacked window fill (split _ _ (split _ _ fit).0).0
  after_stacked (Leave client) fit = leave_stacked w client is.steady.whole stacked
  after_stacked (Size width height) fit = size_stacked width height (split (is_side width && is_side height) (has_display w) fit).1

  pub order_stacked : (o : Order) → fits w o ≡ true → (let next : World = ordered w o in AreStacked next.images)
  order_stacked o fit = rw fit (after_stacked o fit)
