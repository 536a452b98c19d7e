-- The session's window comes on two devices that are like.
use Rattle.std.proofs.Common.{◌≡◌, ◌≢◌, ◌&&◌, ℕ, Bool, true, false, List, ◌∷◌, Option, Some, None, inl, inr, refl, sym, ap, subst, ◌∙◌}
use Rattle.std.specs.Prelude.{◌==◌, All, get_or, is_none, option_map, unwrap_or}
use Rattle.std.specs.Str.{bytes_eq}
use Rattle.std.proofs.lemmas.Bool.{eqb-true, false_from_ne_true}
use Rattle.r9_geom.specs.declared.Rect.{Rect}
use Rattle.r9_geom.specs.Geometry.{at_min}
use Rattle.r9_event.specs.declared.event.rio.Order.TheVariants.{Make}
use Rattle.model_text.specs.text.Map.{lookup}
use Rattle.model_forest.specs.World.{Image as ImageState, World as Images, IsLive, image_at, no_image}
use Rattle.model_forest.specs.Stack.{after_window}
use Rattle.model_forest.specs.Steps.{clamped_rect, outside}
use Rattle.model_forest.proofs.Changes.{live-apart}
use Rattle.model_draw_parts.specs.declared.images.ImageId.{ImageId}
use Rattle.model_draw_parts.specs.declared.images.Tie.{Tie}
use Rattle.model_draw_parts.specs.images.Book.{Book, fill_of, image_id, image_of, tie_of}
use Rattle.model_draw_parts.specs.images.Release.{is_tied_by}
use Rattle.model_draw_parts.specs.images.Ties.{HasTies, shown_by}
use Rattle.model_draw.specs.draw.World.{Client, World, at_number, next_image}
use Rattle.model_draw.specs.draw.Making.{farthest, is_near_rect}
use Rattle.model_draw.specs.draw.Orders.{border_pixel, bordered, fits, has_rio, is_window_rect, make_window, manager, new_white, on_border, rio_screen, white}
use Rattle.model_world.specs.Whole.{client}
use Rattle.law_likeness.specs.renamed.Renamed.{And, AreRenamed}
use Rattle.law_likeness.proofs.renamed.Changes.{renamed_kept}
use Rattle.law_likeness.proofs.renamed.Drawing.{renamed_canvas}
use Rattle.law_likeness.proofs.renamed.Making.{renamed_outer_window}
use Rattle.law_shown.proofs.shown.Tests.{both, not-true, not_both, split}
use Rattle.law_likeness.proofs.likeness.Shapes.{Keeps, keeps_origin, keeps_then, keeps_window, look_kept}
use Rattle.law_likeness.specs.making.Likes.{Came, IsLike, Matched}
use Rattle.law_likeness.proofs.making.Fresh.{IsFresh, fresh_next}
use Rattle.law_likeness.proofs.freeing.Pairs.{none_found}
use Rattle.law_likeness.specs.whole.Steady.{IsSteady}
use Rattle.law_devices.specs.beside.Rooted.{IsRootedWindow, IsTiedWindow}
use Rattle.law_devices.specs.grounded.Grounded.{IsGrounded}
use Rattle.law_devices.proofs.grounded.Messages.{root_is}
use Rattle.law_devices.proofs.granted.Granting.{granted, granted_like, nowhere}
use Rattle.law_devices.proofs.granted.Images.{hidden_alike, near_rect, new_at}
use Rattle.law_devices.proofs.granted.Naming.{named_given}
use Rattle.law_devices.proofs.renewed.Standing.{stands_live}
use Rattle.law_devices.proofs.renewed.Holding.{granted_rooted, granted_tied}
use Rattle.law_devices.proofs.renewed.Renewing.{Becomes, bordered_clip, bordered_keeps, next_other}

-- ---- one book

-- an id that is not there made no tie
pub none_tied : (book : Book) (serial : ℕ) → HasTies book → image_id book manager serial ≡ None → All (λ u. is_tied_by manager serial u ≡ false) book.ties
none_tied book serial has none k d lt =
    let u : Tie = get_or book.ties k d in
    not-true (is_tied_by manager serial u) (λ at.
    let parts = split (u.client == manager) (u.id == serial) at in
    let shown : shown_by book manager serial ≡ Some u.image =
    subst (λ (client : ℕ). shown_by book client serial ≡ Some u.image) (eqb-true u.client manager parts.0) (subst (λ (id : ℕ). shown_by book u.client id ≡ Some u.image) (eqb-true u.id serial parts.1) (has.shown k d lt)) in
    let no : ◌≡◌ {A = Option ℕ} None (Some u.image) = sym (ap (λ (o : Option ImageId). option_map (λ e. e.image) o) none) ∙ shown in
    cc)

pub none_named : (book : Book) (serial : ℕ) (name : List ℕ) → All (λ u. is_tied_by manager serial u ≡ false) book.ties → All (λ t. bytes_eq t.name name ≡ true → is_tied_by manager serial t ≡ true) book.ties → tie_of book name ≡ None
none_named book serial name untied free =
    none_found (λ (t : Tie). bytes_eq t.name name) book.ties
    (λ k d lt. not-true (bytes_eq (get_or book.ties k d).name name) (λ at. not_both (is_tied_by manager serial (get_or book.ties k d)) (free k d lt at) (untied k d lt)))

-- ---- one device

none_is : (o : Option ImageId) → is_none o ≡ true → o ≡ None
none_is None none = refl
none_is (Some e) none = absurd cc

module _ (w : World) (steady : IsSteady w) (ground : IsGrounded w) (live : IsLive w.images 0) (serial : ℕ) (r : Rect) (near : clamped_rect r ≡ r) (name : List ℕ) (hide : Bool) (none : image_id w.book manager serial ≡ None) (plain : tie_of w.book name ≡ None) where
  abbrev pub m : ℕ
  m = next_image w

  abbrev pub s : ℕ
  s = rio_screen w 0

  abbrev pub p : ℕ
  p = image_of w.book s

  abbrev pub f : ℕ
  f = fill_of w.book s

  abbrev pub raw : ℕ
  raw = white (at_number w p).chan

  abbrev pub new : Images
  new = new_white w s r hide

  pub becomes : Becomes (make_window w serial 0 r name hide) (bordered new m) (granted w.book serial m s name) w.clients
  unfolding make_window
  becomes = record { images_are = refl; book_is = named_given w.book serial m s name none plain; clients_are = refl }

  pub display_other : 0 ≢ m
  display_other = next_other w steady.whole steady.orderly live

  pub new_apart : m ≢ p
  new_apart at = display_other (sym (at ∙ ground.ground))

  -- hidden or not
  pub new_alike : (k : ℕ) → k ≢ p → new k ≡ after_window w.images m p f r raw k
  new_alike k other = by hide
    where
      by : (b : Bool) → new_white w s r b k ≡ after_window w.images m p f r raw k
      by false = refl
      by true = hidden_alike w.images m p f r raw near new_apart k other

  pub new_keeps : Keeps w.images (bordered new m) 0
  new_keeps = keeps_then w.images new (bordered new m) 0 (by hide) (bordered_keeps new m display_other)
    where
      by : (b : Bool) → Keeps w.images (new_white w s r b) 0
      by false = keeps_window w.images m p f r raw 0 display_other
      by true =
          keeps_then w.images (after_window w.images m p f (at_min r outside) raw) _ 0 (keeps_window w.images m p f (at_min r outside) raw 0 display_other)
          (keeps_origin (after_window w.images m p f (at_min r outside) raw) m r.min outside 0 display_other)

  new_clip : (image_at (bordered new m) m).clipr ≡ r
  new_clip =
      bordered_clip new m
      ∙ ap (λ (o : Option ImageState). (unwrap_or o no_image).clipr) (new_alike m new_apart ∙ new_at w.images m p f r raw near new_apart r)

  pub fresh : IsFresh nowhere w.book m
  fresh =
      let old = fresh_next w steady.whole steady.orderly in
      record { free = refl; unused = old.unused; nowhere = old.nowhere }

  -- ---- what it has then

  clip_near : clamped_rect (at_number (make_window w serial 0 r name hide) m).clipr ≡ (at_number (make_window w serial 0 r name hide) m).clipr
  clip_near = subst (λ (q : Rect). clamped_rect q ≡ q) (sym (ap (λ (z : Images). (image_at z m).clipr) becomes.images_are ∙ new_clip)) near

  pub made_tied : IsTiedWindow (Some (serial, name)) (make_window w serial 0 r name hide).book
  made_tied = granted_tied (make_window w serial 0 r name hide) w.book serial m s name becomes.book_is none plain fresh (root_is w ground.rio) clip_near

  pub made_rooted : IsRootedWindow (Some (serial, name)) (make_window w serial 0 r name hide)
  made_rooted = granted_rooted (make_window w serial 0 r name hide) w.book serial m s name becomes.book_is none plain fresh (root_is w ground.rio) clip_near

-- ---- both devices

module _ (c serial : ℕ) (a b : World) (is : IsLike c None a b) (steady_a : IsSteady a) (steady_b : IsSteady b) (ground_a : IsGrounded a) (ground_b : IsGrounded b) (counted : (serial == 0) ≡ false) (r : Rect) (name : List ℕ) (hide : Bool) (depth : ℕ)
    (fit : fits a (Make serial 0 r name hide depth) ≡ true) (none_right : image_id b.book manager serial ≡ None) (untied_right : All (λ u. is_tied_by manager serial u ≡ false) b.book.ties)
    (free_a : All (λ t. bytes_eq t.name name ≡ true → is_tied_by manager serial t ≡ true) a.book.ties) (free_b : All (λ t. bytes_eq t.name name ≡ true → is_tied_by manager serial t ≡ true) b.book.ties) where
  abbrev S : ℕ → ℕ → Type 0
  S i j = Matched is.images i j

  abbrev T : ℕ → ℕ → Type 0
  T s t = Matched is.screens s t

  fit_parts : ((has_rio a 0 && is_none (image_id a.book manager serial)) ≡ true) × (is_window_rect r ≡ true)
  fit_parts = split (has_rio a 0 && is_none (image_id a.book manager serial)) (is_window_rect r) fit

  pub none_left : image_id a.book manager serial ≡ None
  none_left = none_is (image_id a.book manager serial) (split (has_rio a 0) (is_none (image_id a.book manager serial)) fit_parts.0).1

  pub near : clamped_rect r ≡ r
  near = near_rect r (split (is_near_rect farthest r) _ fit_parts.1).0

  untied_left : All (λ u. is_tied_by manager serial u ≡ false) a.book.ties
  untied_left = none_tied a.book serial steady_a.orderly.ties none_left

  pub plain_left : tie_of a.book name ≡ None
  plain_left = none_named a.book serial name untied_left free_a

  pub plain_right : tie_of b.book name ≡ None
  plain_right = none_named b.book serial name untied_right free_b

  pub fits_right : fits b (Make serial 0 r name false depth) ≡ true
  fits_right =
      both (has_rio b 0 && is_none (image_id b.book manager serial)) (is_window_rect r) (both (has_rio b 0) (is_none (image_id b.book manager serial)) ground_b.rio (ap (λ (o : Option ImageId). is_none o) none_right)) fit_parts.1

  abbrev m_left : ℕ
  m_left = next_image a

  abbrev m_right : ℕ
  m_right = next_image b

  abbrev Both : ℕ → ℕ → Type 0
  Both k l = And S m_left m_right k l

  abbrev p_left : ℕ
  p_left = image_of a.book (rio_screen a 0)

  abbrev p_right : ℕ
  p_right = image_of b.book (rio_screen b 0)

  free_left : a.images m_left ≡ None
  free_left = (fresh_next a steady_a.whole steady_a.orderly).free

  free_right : b.images m_right ≡ None
  free_right = (fresh_next b steady_b.whole steady_b.orderly).free

  ground_chan : (image_at a.images p_left).chan ≡ (image_at b.images p_right).chan
  ground_chan = ap (λ (n : ℕ). (at_number a n).chan) ground_a.ground ∙ is.like.display.look.chan ∙ ap (λ (n : ℕ). (at_number b n).chan) (sym ground_b.ground)

  ground_depth : (image_at a.images p_left).depth ≡ (image_at b.images p_right).depth
  ground_depth = ap (λ (n : ℕ). (at_number a n).depth) ground_a.ground ∙ ground_a.depth ∙ sym (ap (λ (n : ℕ). (at_number b n).depth) ground_b.ground ∙ ground_b.depth)

  outer_left : (k l : ℕ) → S k l → k ≢ p_left
  outer_left k l pair at = is.like.display.left k l pair (at ∙ ground_a.ground)

  outer_right : (k l : ℕ) → S k l → l ≢ p_right
  outer_right k l pair at = is.like.display.right k l pair (at ∙ ground_b.ground)

  abbrev raw_left : ℕ
  raw_left = white (at_number a p_left).chan

  abbrev raw_right : ℕ
  raw_right = white (at_number b p_right).chan

  abbrev f_left : ℕ
  f_left = fill_of a.book (rio_screen a 0)

  abbrev f_right : ℕ
  f_right = fill_of b.book (rio_screen b 0)

  abbrev plain_images : Images
  plain_images = after_window a.images m_left p_left f_left r raw_left

  abbrev alone_images : Images
  alone_images = after_window b.images m_right p_right f_right r raw_right

  start : AreRenamed Both plain_images alone_images
  start =
      subst (λ (chan : ℕ). AreRenamed Both plain_images (after_window b.images m_right p_right f_right r (white chan))) ground_chan
      (renamed_outer_window S a.images b.images is.like.images m_left m_right free_left free_right (stands_live a steady_a.whole.standing) (stands_live b steady_b.whole.standing) p_left p_right f_left f_right r raw_left ground_chan ground_depth
      (subst (λ (n : ℕ). IsLive a.images n) (sym ground_a.ground) is.like.display.live_left) (subst (λ (n : ℕ). IsLive b.images n) (sym ground_b.ground) is.like.display.live_right)
      (λ l pair. outer_left p_left l pair refl) (λ k pair. outer_right k p_right pair refl))

  abbrev new_left : Images
  new_left = new_white a (rio_screen a 0) r hide

  abbrev new_right : Images
  new_right = new_white b (rio_screen b 0) r false

  both_outer : (k l : ℕ) → Both k l → k ≢ p_left
  both_outer k l (inl pair) = outer_left k l pair
  both_outer k l (inr new) = λ at. new_apart a steady_a ground_a is.like.display.live_left serial r near name hide none_left plain_left (sym new.0 ∙ at)

  white_both : AreRenamed Both new_left new_right
  white_both =
      renamed_kept Both plain_images alone_images new_left new_right start
      (λ k l pair. new_alike a steady_a ground_a is.like.display.live_left serial r near name hide none_left plain_left k (both_outer k l pair)) (λ k l pair. refl)

  bordered_both : AreRenamed Both (bordered new_left m_left) (bordered new_right m_right)
  unfolding bordered
  bordered_both =
      let face = white_both.faces m_left m_right (inr (refl, refl)) in
      renamed_canvas Both new_left new_right white_both m_left m_right (inr (refl, refl)) (on_border (image_at new_left m_left).r) (on_border (image_at new_right m_right).r)
      (λ _. border_pixel (image_at new_left m_left).chan) (λ _. border_pixel (image_at new_right m_right).chan) (λ q. ap (λ (rect : Rect). on_border rect q) face.r) (λ q. ap (λ (chan : ℕ). border_pixel chan) face.chan)

  both_left : (k l : ℕ) → Both k l → k ≢ 0
  both_left k l (inl pair) = is.like.display.left k l pair
  both_left k l (inr new) = λ zero. next_other a steady_a.whole steady_a.orderly is.like.display.live_left (sym zero ∙ new.0)

  both_right : (k l : ℕ) → Both k l → l ≢ 0
  both_right k l (inl pair) = is.like.display.right k l pair
  both_right k l (inr new) = λ zero. next_other b steady_b.whole steady_b.orderly is.like.display.live_right (sym zero ∙ new.1)

  abbrev after_left : World
  after_left = make_window a serial 0 r name hide

  abbrev after_right : World
  after_right = make_window b serial 0 r name false

  pub made_like : IsLike c (Some (serial, name)) after_left after_right
  made_like =
      let one = becomes a steady_a ground_a is.like.display.live_left serial r near name hide none_left plain_left in
      let two = becomes b steady_b ground_b is.like.display.live_right serial r near name false none_right plain_right in
      let keeps_one : Keeps a.images after_left.images 0 = subst (λ (z : Images). Keeps a.images z 0) (sym one.images_are) (new_keeps a steady_a ground_a is.like.display.live_left serial r near name hide none_left plain_left) in
      let keeps_two : Keeps b.images after_right.images 0 = subst (λ (z : Images). Keeps b.images z 0) (sym two.images_are) (new_keeps b steady_b ground_b is.like.display.live_right serial r near name false none_right plain_right) in
      record {
        images = Came m_left m_right ∷ is.images;
        screens = is.screens;
        like =
            granted_like S T c serial name a.book b.book is.like.books is.like.counted m_left m_right (rio_screen a 0) (rio_screen b 0)
            (λ k l pair. false_from_ne_true (m_left == k) (λ at. live-apart a.images m_left k free_left (is.like.images.left k l pair) (sym (eqb-true m_left k at))))
            (λ k l pair. false_from_ne_true (m_right == l) (λ at. live-apart b.images m_right l free_right (is.like.images.right k l pair) (sym (eqb-true m_right l at))))
            (fresh a steady_a ground_a is.like.display.live_left serial r near name hide none_left plain_left) (fresh b steady_b ground_b is.like.display.live_right serial r near name false none_right plain_right)
            (root_is a ground_a.rio) (root_is b ground_b.rio) none_left none_right plain_left plain_right untied_left untied_right after_left after_right one.book_is two.book_is
            (subst (λ (z : Images). AreRenamed Both z after_right.images) (sym one.images_are) (subst (λ (z : Images). AreRenamed Both (bordered new_left m_left) z) (sym two.images_are) bordered_both))
            (look_kept _ _ _ _ keeps_one.shape is.like.display.look keeps_two.shape) (keeps_one.live is.like.display.live_left) (keeps_two.live is.like.display.live_right)
            counted is.like.display.named is.like.display.named_alone both_left both_right
            (λ k few. ap (λ (cs : List (ℕ × Client)). lookup cs (client c k)) one.clients_are ∙ is.like.clients k few ∙ ap (λ (cs : List (ℕ × Client)). lookup cs (client 1 k)) (sym two.clients_are));
      }
