-- `b`: images and windows that a session allocates, on two devices that are like.
use Rattle.std.proofs.Common.{◌≡◌, ◌≢◌, ◌<◌, ◌^◌, ◌&&◌, ◌||◌, ℕ, Bool, true, false, List, Option, Some, None, Ok, inl, inr, refl, sym, ap, ◌∙◌, arith}
use Rattle.std.specs.Prelude.{◌==◌, is_some, nat_lt, not}
use Rattle.std.specs.Option.{option_map, option_map_or}
use Rattle.r9_geom.specs.declared.Rect.{Rect}
use Rattle.r9_geom.specs.Geometry.{is_empty}
use Rattle.model_text.specs.text.Outcome.{refuse_if, value_or_refuse}
use Rattle.model_pixel.specs.Channels.{is_descriptor}
use Rattle.model_draw.specs.imgfile.ImageFile.{rows_len}
use Rattle.model_forest.specs.World.{World as Images}
use Rattle.model_forest.proofs.Changes.{live-apart}
use Rattle.model_draw_parts.specs.declared.images.ScreenId.{ScreenId}
use Rattle.model_draw_parts.specs.declared.images.Screen.{Screen as Filled}
use Rattle.model_draw_parts.specs.images.Book.{Book, add_id, fill_of, image_of, is_image_id_taken, owner, screen, screen_id, screen_numbered}
use Rattle.model_draw_parts.proofs.images.Ties.{find-put}
use Rattle.model_draw.specs.draw.World.{Client, World, client_of, next_image}
use Rattle.model_draw.specs.draw.Making.{allocate, clashes, farthest, fill_raw, is_near_rect, is_too_large, screen_named, with_made, with_new_image, with_one_pixel, with_size}
use Rattle.model_draw.specs.draw.Orders.{manager}
use Rattle.law_shown.specs.shown.Showing.{IsOrderly}
use Rattle.law_likeness.specs.renamed.Renamed.{And, AreRenamed}
use Rattle.law_likeness.proofs.renamed.Drawing.{renamed_set}
use Rattle.law_likeness.proofs.renamed.Making.{renamed_image, renamed_window}
use Rattle.model_world.specs.Whole.{client}
use Rattle.law_likeness.specs.agreement.Agreement.{SameOption, SameOutcome}
use Rattle.law_likeness.proofs.agreement.Relations.{bind_alike, check_alike, equal_alike, if_alike}
use Rattle.law_likeness.specs.likeness.Likeness.{AreLike, SameDisplay, SameScreenId, SameScreens}
use Rattle.law_likeness.proofs.likeness.Shapes.{Keeps, keeps_image, keeps_set, keeps_then, keeps_window, look_kept}
use Rattle.law_likeness.proofs.likeness.Looking.{client_same, with_client_like}
use Rattle.law_likeness.proofs.likeness.Ids.{apart_manager, taken_same}
use Rattle.law_likeness.specs.making.Standing.{IsWhole}
use Rattle.law_likeness.proofs.making.Standing.{parent_lives}
use Rattle.law_likeness.proofs.making.Fresh.{IsFresh, fresh_next}
use Rattle.law_likeness.proofs.making.Making.{entered, entered_books, entry}

-- an id that is not taken is entered
add_ok : (book : Book) (k id m : ℕ) (s : Option ℕ) → is_image_id_taken book k id ≡ false → add_id book k id m s ≡ Ok (entered book k id m s)
unfolding add_id
add_ok book k id m s free = rw free refl

-- the image and the fill of a screen that is the same
pub record SameGround (Same : ℕ → ℕ → Type 0) (a b : Book) (s t : ℕ) : Type 0 where
  pub image : Same (image_of a s) (image_of b t)
  pub fill : Same (fill_of a s) (fill_of b t)

module _ (Same SameScreen : ℕ → ℕ → Type 0) (c : ℕ) (window : Option (ℕ × List ℕ)) (a b : World) (like : AreLike Same SameScreen c window a b) where
  pub ground : (s t : ℕ) → SameScreen s t → SameGround Same a.book b.book s t
  ground s t is =
      let both = by (screen_numbered a.book s) (screen_numbered b.book t) (like.books.there s t is) (like.books.screens s t is) in
      record { image = both.0; fill = both.1 }
    where
      by : (o q : Option Filled) → is_some o ≡ true → SameOption (SameScreens Same) o q
          → Same (option_map_or (λ e. e.image) o 0) (option_map_or (λ e. e.image) q 0) × Same (option_map_or (λ e. e.fill) o 0) (option_map_or (λ e. e.fill) q 0)
      by (Some u) (Some v) there both = (both.image, both.fill)
      by None q there both = absurd cc
      by (Some u) None there both = absurd both

module _ (Same SameScreen : ℕ → ℕ → Type 0) (c : ℕ) (window : Option (ℕ × List ℕ)) (a b : World) (like : AreLike Same SameScreen c window a b) (n : ℕ) (few : n < 2 ^ 26) where
  -- ---- screens by their ids

  pub screen_found : (id : ℕ) → SameOutcome SameScreen (screen a.book (client c n) id) (screen b.book (client 1 n) id)
  unfolding screen
  screen_found id = by (screen_id a.book (client c n) id) (screen_id b.book (client 1 n) id) (like.books.screen_ids n id few)
    where
      by : (o q : Option ScreenId) → SameOption (SameScreenId SameScreen) o q
          → SameOutcome SameScreen (value_or_refuse (option_map (λ e. e.screen) o) 5) (value_or_refuse (option_map (λ e. e.screen) q) 5)
      by (Some e) (Some f) one = one.screen
      by None None one = refl
      by (Some e) None one = absurd one
      by None (Some f) one = absurd one

  named_same : (id : ℕ) → SameOutcome (SameOption SameScreen) (screen_named a (client c n) id) (screen_named b (client 1 n) id)
  named_same id =
      if_alike (SameOption SameScreen) (id == 0) (Ok None) _ (Ok None) _ tt
      (bind_alike SameScreen (SameOption SameScreen) (screen a.book (client c n) id) (screen b.book (client 1 n) id) (λ s. Ok (Some s)) (λ t. Ok (Some t)) (screen_found id) (λ s t is. is))

  clash_same : (chan : ℕ) (repl : Bool) (s t : Option ℕ) → SameOption SameScreen s t → option_map_or (clashes a chan repl) s false ≡ option_map_or (clashes b chan repl) t false
  clash_same chan repl None None on = refl
  clash_same chan repl (Some s) (Some t) on =
      ap (λ (k : ℕ). repl || not (chan == k)) (like.images.faces (image_of a.book s) (image_of b.book t) (ground Same SameScreen c window a b like s t on).image).chan
  clash_same chan repl (Some s) None on = absurd on
  clash_same chan repl None (Some t) on = absurd on

  module _ (whole_a : IsWhole a) (whole_b : IsWhole b) (orderly_a : IsOrderly a) (orderly_b : IsOrderly b) where
    abbrev p : ℕ
    p = next_image a

    abbrev q : ℕ
    q = next_image b

    abbrev More : ℕ → ℕ → Type 0
    More i j = And Same p q i j

    left : IsFresh a.images a.book p
    left = fresh_next a whole_a orderly_a

    right : IsFresh b.images b.book q
    right = fresh_next b whole_b orderly_b

    zero_left : 0 ≢ p
    zero_left = live-apart a.images p 0 left.free like.display.live_left

    zero_right : 0 ≢ q
    zero_right = live-apart b.images q 0 right.free like.display.live_right

    -- ---- the images

    pixel_same : (s t : Option ℕ) → SameOption SameScreen s t → (r : Rect) (chan raw : ℕ) → AreRenamed More (with_one_pixel a s r chan raw) (with_one_pixel b t r chan raw)
    pixel_same None None on r chan raw =
        renamed_image Same a.images b.images like.images p q left.free right.free (parent_lives a whole_a.standing) (parent_lives b whole_b.standing) r chan raw
    pixel_same (Some s) (Some t) on r chan raw =
        let both = ground Same SameScreen c window a b like s t on in
        let face = like.images.faces (image_of a.book s) (image_of b.book t) both.image in
        renamed_window Same a.images b.images like.images p q left.free right.free (parent_lives a whole_a.standing) (parent_lives b whole_b.standing)
        (image_of a.book s) (image_of b.book t) (fill_of a.book s) (fill_of b.book t) r raw face.chan face.depth both.image both.fill
    pixel_same (Some s) None on r chan raw = absurd on
    pixel_same None (Some t) on r chan raw = absurd on

    new_same : (s t : Option ℕ) → SameOption SameScreen s t → (r : Rect) (chan raw : ℕ) (repl : Bool) (clipr : Rect)
        → AreRenamed More (with_new_image a s r chan raw repl clipr) (with_new_image b t r chan raw repl clipr)
    new_same s t on r chan raw repl clipr = renamed_set More _ _ (pixel_same s t on r chan raw) p q (inr (refl, refl)) repl clipr

    pixel_keeps : (w : World) (s : Option ℕ) (r : Rect) (chan raw : ℕ) → 0 ≢ next_image w → Keeps w.images (with_one_pixel w s r chan raw) 0
    pixel_keeps w None r chan raw other = keeps_image w.images (next_image w) r chan raw 0 other
    pixel_keeps w (Some s) r chan raw other = keeps_window w.images (next_image w) (image_of w.book s) (fill_of w.book s) r raw 0 other

    new_keeps : (w : World) (s : Option ℕ) (r : Rect) (chan raw : ℕ) (repl : Bool) (clipr : Rect) → 0 ≢ next_image w → Keeps w.images (with_new_image w s r chan raw repl clipr) 0
    new_keeps w s r chan raw repl clipr other =
        keeps_then w.images (with_one_pixel w s r chan raw) _ 0 (pixel_keeps w s r chan raw other) (keeps_set (with_one_pixel w s r chan raw) (next_image w) repl clipr 0 other)

    -- ---- the devices

    module _ (id : ℕ) (free : is_image_id_taken b.book (client 1 n) id ≡ false) (s t : Option ℕ) (on : SameOption SameScreen s t) (x y : Images) (renamed : AreRenamed More x y)
        (keeps_left : Keeps a.images x 0) (keeps_right : Keeps b.images y 0) where
      abbrev u : World
      u = with_made a x (entered a.book (client c n) id p s)

      abbrev v : World
      v = with_made b y (entered b.book (client 1 n) id q t)

      made_display : SameDisplay More u v
      made_display = record {
        named = find-put (λ e. (e.client == owner manager 0) && (e.id == 0)) (entry (client c n) id p) a.book.image_ids (apart_manager c n id 0 like.counted) ∙ like.display.named;
        named_alone = find-put (λ e. (e.client == owner manager 0) && (e.id == 0)) (entry (client 1 n) id q) b.book.image_ids (apart_manager 1 n id 0 (omega arith)) ∙ like.display.named_alone;
        look = look_kept _ _ _ _ keeps_left.shape like.display.look keeps_right.shape;
        live_left = keeps_left.live like.display.live_left;
        live_right = keeps_right.live like.display.live_right;
        left = apart;
        right = other;
      }
        where
          apart : (i j : ℕ) → More i j → i ≢ 0
          apart i j (inl is) = like.display.left i j is
          apart i j (inr is) = λ at. zero_left (sym at ∙ is.0)

          other : (i j : ℕ) → More i j → j ≢ 0
          other i j (inl is) = like.display.right i j is
          other i j (inr is) = λ at. zero_right (sym at ∙ is.1)

      made_like : AreLike More SameScreen c window u v
      made_like = record {
        counted = like.counted;
        images = renamed;
        books = entered_books Same SameScreen c window a.book b.book like.books like.counted n few a.images b.images like.images p q left right id free s t on;
        display = made_display;
        clients = like.clients;
      }

    -- one image more is the same then
    abbrev Like : World → World → Type 0
    Like x y = AreLike More SameScreen c window x y

    pub allocate_like : (id screenid refresh chan : ℕ) (repl : Bool) (r clipr : Rect) (color : ℕ)
        → SameOutcome Like (allocate (client c n) a id screenid refresh chan repl r clipr color) (allocate (client 1 n) b id screenid refresh chan repl r clipr color)
    unfolding allocate
    allocate_like id screenid refresh chan repl r clipr color = by (is_image_id_taken b.book (client 1 n) id) refl
      where
        taken : is_image_id_taken a.book (client c n) id ≡ is_image_id_taken b.book (client 1 n) id
        taken = taken_same Same SameScreen c window a.book b.book like.books like.counted n few id

        by : (is : Bool) → is_image_id_taken b.book (client 1 n) id ≡ is
            → SameOutcome Like (allocate (client c n) a id screenid refresh chan repl r clipr color) (allocate (client 1 n) b id screenid refresh chan repl r clipr color)
        by true is = rw (taken, is) refl
        by false is =
            equal_alike Like (refuse_if (is_image_id_taken a.book (client c n) id) 6) (refuse_if (is_image_id_taken b.book (client 1 n) id) 6) _ _ (ap (λ (x : Bool). refuse_if x 6) taken) (λ _.
            check_alike Like (refuse_if (nat_lt 2 refresh) 23) _ _ (λ _ _.
            check_alike Like (refuse_if (not (is_descriptor chan)) 8) _ _ (λ _ _.
            check_alike Like (refuse_if (is_empty r || not (is_near_rect farthest r)) 9) _ _ (λ _ _.
            equal_alike Like (refuse_if (is_too_large (client_of a (client c n)) (rows_len chan r)) 10) (refuse_if (is_too_large (client_of b (client 1 n)) (rows_len chan r)) 10) _ _
            (ap (λ (x : Client). refuse_if (is_too_large x (rows_len chan r)) 10) (client_same Same SameScreen c window a b like n few)) (λ _.
            bind_alike (SameOption SameScreen) Like (screen_named a (client c n) screenid) (screen_named b (client 1 n) screenid) _ _ (named_same screenid) (λ s t on.
            equal_alike Like (refuse_if (option_map_or (clashes a chan repl) s false) 11) (refuse_if (option_map_or (clashes b chan repl) t false) 11) _ _
            (ap (λ (x : Bool). refuse_if x 11) (clash_same chan repl s t on)) (λ _.
            rw (add_ok a.book (client c n) id p s (taken ∙ is), add_ok b.book (client 1 n) id q t is)
            (with_client_like More SameScreen c window _ _
            (made_like id is s t on _ _ (new_same s t on r chan (fill_raw chan color) repl clipr)
            (new_keeps a s r chan (fill_raw chan color) repl clipr zero_left) (new_keeps b t r chan (fill_raw chan color) repl clipr zero_right))
            n few _ _ (ap (λ (x : Client). with_size x id (rows_len chan r)) (client_same Same SameScreen c window a b like n few))))))))))
