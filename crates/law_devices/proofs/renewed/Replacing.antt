-- The session's window gets another image on two devices that are like.
use Rattle.std.proofs.Common.{◌≡◌, ◌≢◌, ◌<◌, ◌^◌, ◌||◌, ◌&&◌, ℕ, Bool, true, false, List, ◌∷◌, Option, Some, None, inl, inr, refl, sym, ap, subst, ◌∙◌}
use Rattle.std.specs.Prelude.{◌==◌, ◌-ℤ◌, unwrap_or, All, not, if◌then◌else◌}
use Rattle.std.specs.Ordering.{int_eq}
use Rattle.std.specs.Option.{option_map_or}
use Rattle.std.specs.Str.{bytes_eq}
use Rattle.std.proofs.lemmas.Bool.{eqb-true, false_from_ne_true}
use Rattle.r9_geom.specs.declared.Rect.{Rect}
use Rattle.r9_geom.specs.Geometry.{is_empty}
use Rattle.r9_event.specs.declared.event.rio.Order.TheVariants.{Replace}
use Rattle.model_text.specs.text.Map.{lookup}
use Rattle.model_forest.specs.World.{Image as ImageState, World as Images, IsLive, image_at, no_image}
use Rattle.model_forest.specs.Steps.{after_release, after_replace, clamped_rect}
use Rattle.model_forest.proofs.Changes.{live-apart, with_image-at}
use Rattle.model_draw_parts.specs.declared.images.ImageId.{ImageId}
use Rattle.model_draw_parts.specs.declared.images.Thing.TheVariants.{Image}
use Rattle.model_draw_parts.specs.images.Book.{Book, image_of, screen_of}
use Rattle.model_draw_parts.specs.images.Release.{is_tied_by, is_used, without}
use Rattle.model_draw.specs.draw.World.{Client, World, at_number, next_image, with_book}
use Rattle.model_draw.specs.draw.Making.{farthest, is_near_rect}
use Rattle.model_draw.specs.draw.Orders.{border_pixel, bordered, can_keep, inside_border, corner, fits, has_rio, has_window, image_shown, is_window_rect, manager, on_border, ordered, replace_window, rio_screen, white}
use Rattle.model_world.specs.Whole.{client}
use Rattle.law_likeness.specs.renamed.Renamed.{And, AreRenamed, But, IsApartLeft, IsApartRight, IsLoose}
use Rattle.law_likeness.proofs.renamed.Changes.{renamed_kept}
use Rattle.law_likeness.proofs.renamed.Drawing.{renamed_canvas}
use Rattle.law_likeness.proofs.renamed.Going.{renamed_release, renamed_replace}
use Rattle.law_shown.proofs.shown.Tests.{both, split}
use Rattle.law_likeness.specs.likeness.Likeness.{AreLikeBooks, SameLook}
use Rattle.law_likeness.proofs.likeness.Shapes.{Keeps, keeps_release, keeps_then, look_kept}
use Rattle.law_likeness.specs.making.Likes.{Came, IsLike, Matched, Went}
use Rattle.law_likeness.specs.making.Standing.{IsStanding}
use Rattle.law_likeness.proofs.making.Fresh.{fresh_next}
use Rattle.law_likeness.proofs.losing.Losing.{image_lost}
use Rattle.law_likeness.proofs.losing.Used.{used_same}
use Rattle.law_likeness.specs.whole.Steady.{IsSteady}
use Rattle.law_devices.specs.beside.Rooted.{IsRooted, IsRootedWindow, IsTiedWindow}
use Rattle.law_others.proofs.managed.Ordering.{IsThere, window_there}
use Rattle.law_others.proofs.managed.Carrying.{ordered_steady}
use Rattle.law_devices.specs.grounded.Grounded.{IsGrounded}
use Rattle.law_devices.proofs.granted.Untying.{bereft, kept_display, none_bereft, ties_bereft, window_lost}
use Rattle.law_devices.proofs.granted.Freed.{AreKnown, standing_bereft}
use Rattle.law_devices.proofs.granted.Dropping.{has_right, known}
use Rattle.law_devices.proofs.granted.Granting.{granted, granted_like}
use Rattle.law_devices.proofs.granted.Naming.{none_named, root_there}
use Rattle.law_devices.proofs.granted.Images.{IsBelow, near_rect, renamed_alike, replaced_alike, replaced_at}
use Rattle.law_devices.proofs.renewed.Standing.{OnRoot, on_root_too, stands_live, window_apart_left, window_apart_right}
use Rattle.law_devices.proofs.renewed.Holding.{granted_rooted, granted_tied}
use Rattle.law_devices.proofs.renewed.Renewing.{bordered_keeps, fresh_gone, fresh_left, images, loose_gone, new_is, next_other, others_tied, released_gone, replace_keeps, unused_becomes, used_becomes, bordered_clip}

module _ (c serial : ℕ) (old : List ℕ) (a b : World) (is : IsLike c (Some (serial, old)) a b) (steady_a : IsSteady a) (steady_b : IsSteady b) (rooted : IsRootedWindow (Some (serial, old)) a)
    (r : Rect) (name : List ℕ) (keep hidden : Bool) (fit : fits a (Replace serial 0 r name keep hidden) ≡ true)
    (free_a : All (λ t. bytes_eq t.name name ≡ true → is_tied_by manager serial t ≡ true) a.book.ties) (free_b : All (λ t. bytes_eq t.name name ≡ true → is_tied_by manager serial t ≡ true) b.book.ties) where
  abbrev S : ℕ → ℕ → Type 0
  S i j = Matched is.images i j

  abbrev T : ℕ → ℕ → Type 0
  T s t = Matched is.screens s t

  -- ---- the window and its place

  all_fit : ((has_window a serial && has_rio a 0 && is_window_rect r) ≡ true) × ((not keep || can_keep a serial (rio_screen a 0) r) ≡ true)
  all_fit = split (has_window a serial && has_rio a 0 && is_window_rect r) (not keep || can_keep a serial (rio_screen a 0) r) fit

  has_both : ((has_window a serial && has_rio a 0) ≡ true) × (is_window_rect r ≡ true)
  has_both = split (has_window a serial && has_rio a 0) (is_window_rect r) all_fit.0

  has : has_window a serial ≡ true
  has = (split (has_window a serial) (has_rio a 0) has_both.0).0

  there : IsThere a serial
  there = window_there a serial has

  ids : AreKnown S a.book b.book serial
  ids = known c serial old a b is has

  abbrev i : ℕ
  i = ids.left.image

  abbrev j : ℕ
  j = ids.right.image

  shown_a : image_shown a serial ≡ i
  shown_a = ap (λ (o : Option ImageId). option_map_or (λ e. e.image) o 0) ids.found

  shown_b : image_shown b serial ≡ j
  shown_b = ap (λ (o : Option ImageId). option_map_or (λ e. e.image) o 0) ids.there

  place : IsRooted a (image_shown a serial)
  place = rooted serial old refl

  abbrev s : ℕ
  s = place.screen

  on_left : screen_of a.book i ≡ Some s
  on_left = ap (λ (n : ℕ). screen_of a.book n) (sym shown_a) ∙ place.on

  right : OnRoot b.book j
  right = on_root_too S T c (Some (serial, old)) a.book b.book is.like.books i j s ids.same on_left place.root

  -- ---- it fits the other device too

  rio_right : has_rio b 0 ≡ true
  rio_right = root_there b right.screen right.root

  module _ (ground_a : IsGrounded a) (ground_b : IsGrounded b) where
    face_chan : (at_number a i).chan ≡ (at_number b j).chan
    face_chan = (is.like.images.faces i j ids.same).chan

    ground_chan : (at_number a (image_of a.book (rio_screen a 0))).chan ≡ (at_number b (image_of b.book (rio_screen b 0))).chan
    ground_chan = ap (λ (n : ℕ). (at_number a n).chan) ground_a.ground ∙ is.like.display.look.chan ∙ ap (λ (n : ℕ). (at_number b n).chan) (sym ground_b.ground)

    keep_same : can_keep a serial (rio_screen a 0) r ≡ can_keep b serial (rio_screen b 0) r
    keep_same =
        let rect : (at_number a (image_shown a serial)).r ≡ (at_number b (image_shown b serial)).r =
        ap (λ (n : ℕ). (at_number a n).r) shown_a ∙ (is.like.images.faces i j ids.same).r ∙ ap (λ (n : ℕ). (at_number b n).r) (sym shown_b) in
        let chan : (at_number a (image_shown a serial)).chan ≡ (at_number b (image_shown b serial)).chan =
        ap (λ (n : ℕ). (at_number a n).chan) shown_a ∙ face_chan ∙ ap (λ (n : ℕ). (at_number b n).chan) (sym shown_b) in
        λ k.
        int_eq (r.max.x -ℤ r.min.x) ((rect k).max.x -ℤ (rect k).min.x) && int_eq (r.max.y -ℤ r.min.y) ((rect k).max.y -ℤ (rect k).min.y) && (chan k == ground_chan k)

    pub fits_right : fits b (Replace serial 0 r name keep false) ≡ true
    fits_right =
        both (has_window b serial && has_rio b 0 && is_window_rect r) (not keep || can_keep b serial (rio_screen b 0) r)
        (both (has_window b serial && has_rio b 0) (is_window_rect r) (both (has_window b serial) (has_rio b 0) (has_right c serial old a b is has) rio_right) has_both.1)
        (ap (λ (x : Bool). not keep || x) (sym keep_same) ∙ all_fit.1)

  -- ---- the images

  abbrev m : ℕ
  m = next_image a

  abbrev n : ℕ
  n = next_image b

  abbrev Both : ℕ → ℕ → Type 0
  Both k l = And S m n k l

  free_left : a.images m ≡ None
  free_left = (fresh_next a steady_a.whole steady_a.orderly).free

  free_right : b.images n ≡ None
  free_right = (fresh_next b steady_b.whole steady_b.orderly).free

  live_left : IsLive a.images i
  live_left = is.like.images.left i j ids.same

  live_right : IsLive b.images j
  live_right = is.like.images.right i j ids.same

  apart_left : IsApartLeft S a.images i
  apart_left = window_apart_left S T c (Some (serial, old)) a b is.like steady_a.whole.standing steady_b.whole.standing i j s ids.same on_left place.root

  apart_right : IsApartRight S b.images j
  apart_right = window_apart_right S T c (Some (serial, old)) a b is.like steady_a.whole.standing steady_b.whole.standing i j right.screen ids.same right.on right.root

  abbrev raw_left : ℕ
  raw_left = white (at_number a i).chan

  abbrev raw_right : ℕ
  raw_right = white (at_number b j).chan

  abbrev first_left : Images
  first_left = after_replace a.images m i r (corner r hidden) raw_left keep

  abbrev first_right : Images
  first_right = after_replace b.images n j r (corner r false) raw_right keep

  below : (k l : ℕ) → Both k l → IsBelow a.images i k
  below k l (inl pair) p stands at = apart_left p l stands (subst (λ (q : ℕ). S q l) at pair)
  below k l (inr new) p stands at =
      live-apart a.images m p free_left (stands_live a steady_a.whole.standing i p live_left stands) (sym at ∙ new.0)

  first : AreRenamed Both first_left first_right
  first =
      let start = renamed_replace S a.images b.images is.like.images m n free_left free_right (stands_live a steady_a.whole.standing) (stands_live b steady_b.whole.standing) i j ids.same apart_left apart_right r r.min raw_left keep in
      let other : AreRenamed Both (after_replace a.images m i r r.min raw_left keep) first_right =
      subst (λ (chan : ℕ). AreRenamed Both (after_replace a.images m i r r.min raw_left keep) (after_replace b.images n j r r.min (white chan) keep)) (is.like.images.faces i j ids.same).chan start in
      renamed_kept Both (after_replace a.images m i r r.min raw_left keep) first_right first_left first_right other
      (λ k l pair. replaced_alike a.images m i (live-apart a.images m i free_left live_left) r raw_left keep (corner r hidden) r.min k (below k l pair)) (λ k l pair. refl)

  with_border : (kept : Bool) (x y : Images) → AreRenamed Both x y → AreRenamed Both (if kept then x else bordered x m) (if kept then y else bordered y n)
  unfolding bordered
  with_border true x y same = same
  with_border false x y same =
      let face = same.faces m n (inr (refl, refl)) in
      renamed_canvas Both x y same m n (inr (refl, refl)) (on_border (image_at x m).r) (on_border (image_at y n).r) (λ _. border_pixel (image_at x m).chan) (λ _. border_pixel (image_at y n).chan)
      (λ p. ap (λ (rect : Rect). on_border rect p) face.r) (λ p. ap (λ (chan : ℕ). border_pixel chan) face.chan)

  abbrev new_left : Images
  new_left = images a steady_a serial there.counted ids.left ids.found s on_left place.root r name free_a keep hidden

  abbrev new_right : Images
  new_right = images b steady_b serial there.counted ids.right ids.there right.screen right.on right.root r name free_b keep false

  renewed : AreRenamed Both new_left new_right
  renewed =
      subst (λ (x : Images). AreRenamed Both (if keep then x else bordered x m) new_right) (sym (new_is a steady_a serial there.counted ids.left ids.found s on_left place.root r name free_a keep hidden))
      (subst (λ (y : Images). AreRenamed Both (if keep then first_left else bordered first_left m) (if keep then y else bordered y n)) (sym (new_is b steady_b serial there.counted ids.right ids.there right.screen right.on right.root r name free_b keep false))
      (with_border keep first_left first_right first))

  -- ---- the display

  left_other : 0 ≢ m
  left_other = next_other a steady_a.whole steady_a.orderly is.like.display.live_left

  right_other : 0 ≢ n
  right_other = next_other b steady_b.whole steady_b.orderly is.like.display.live_right

  border_keeps : (kept : Bool) (old x : Images) (k : ℕ) → 0 ≢ k → Keeps old x 0 → Keeps old (if kept then x else bordered x k) 0
  border_keeps true old x k other keeps = keeps
  border_keeps false old x k other keeps = keeps_then old x (bordered x k) 0 keeps (bordered_keeps x k other)

  keeps_left : Keeps a.images new_left 0
  keeps_left =
      subst (λ (x : Images). Keeps a.images (if keep then x else bordered x m) 0) (sym (new_is a steady_a serial there.counted ids.left ids.found s on_left place.root r name free_a keep hidden))
      (border_keeps keep a.images first_left m left_other (replace_keeps a.images m i r (corner r hidden) raw_left keep left_other))

  keeps_right : Keeps b.images new_right 0
  keeps_right =
      subst (λ (x : Images). Keeps b.images (if keep then x else bordered x n) 0) (sym (new_is b steady_b serial there.counted ids.right ids.there right.screen right.on right.root r name free_b keep false))
      (border_keeps keep b.images first_right n right_other (replace_keeps b.images n j r (corner r false) raw_right keep right_other))

  -- ---- all of it

  abbrev x : Book
  x = bereft a.book serial

  abbrev y : Book
  y = bereft b.book serial

  books : AreLikeBooks S T c None x y
  books = window_lost S T c serial old a.book b.book is.like.books is.like.counted there.counted steady_a.orderly.ties steady_b.orderly.ties

  abbrev after_left : World
  after_left = replace_window a serial 0 r name keep hidden

  abbrev after_right : World
  after_right = replace_window b serial 0 r name keep false

  m_apart : (k l : ℕ) → S k l → (m == k) ≡ false
  m_apart k l pair = false_from_ne_true (m == k) (λ at. live-apart a.images m k free_left (is.like.images.left k l pair) (sym (eqb-true m k at)))

  n_apart : (k l : ℕ) → S k l → (n == l) ≡ false
  n_apart k l pair = false_from_ne_true (n == l) (λ at. live-apart b.images n l free_right (is.like.images.right k l pair) (sym (eqb-true n l at)))

  look_after : (v w : World) → Keeps a.images v.images 0 → Keeps b.images w.images 0 → SameLook (at_number v 0) (at_number w 0)
  look_after v w one other = look_kept _ _ _ _ one.shape is.like.display.look other.shape

  both_left : (k l : ℕ) → Both k l → k ≢ 0
  both_left k l (inl pair) = is.like.display.left k l pair
  both_left k l (inr new) = λ zero. left_other (sym zero ∙ new.0)

  both_right : (k l : ℕ) → Both k l → l ≢ 0
  both_right k l (inl pair) = is.like.display.right k l pair
  both_right k l (inr new) = λ zero. right_other (sym zero ∙ new.1)

  clients_after : (v w : World) → v.clients ≡ a.clients → w.clients ≡ b.clients → (k : ℕ) → k < 2 ^ 26 → lookup v.clients (client c k) ≡ lookup w.clients (client 1 k)
  clients_after v w one other k few = ap (λ (cs : List (ℕ × Client)). lookup cs (client c k)) one ∙ is.like.clients k few ∙ ap (λ (cs : List (ℕ × Client)). lookup cs (client 1 k)) (sym other)

  -- something refers to the old image still
  still_used : is_used x (Image i) ≡ true → is_used y (Image j) ≡ true → IsLike c (Some (serial, name)) after_left after_right
  still_used used other =
      let one = used_becomes a steady_a serial there.counted ids.left ids.found s on_left place.root r name free_a keep hidden used in
      let two = used_becomes b steady_b serial there.counted ids.right ids.there right.screen right.on right.root r name free_b keep false other in
      let keeps_one : Keeps a.images after_left.images 0 = subst (λ (z : Images). Keeps a.images z 0) (sym one.images_are) keeps_left in
      let keeps_two : Keeps b.images after_right.images 0 = subst (λ (z : Images). Keeps b.images z 0) (sym two.images_are) keeps_right in
      record {
        images = Came m n ∷ is.images;
        screens = is.screens;
        like =
            granted_like S T c serial name x y books is.like.counted m n s right.screen m_apart n_apart
            (fresh_left a steady_a serial there.counted ids.left ids.found s on_left place.root r name free_a keep hidden) (fresh_left b steady_b serial there.counted ids.right ids.there right.screen right.on right.root r name free_b keep false)
            place.root right.root (none_bereft a.book serial there.counted) (none_bereft b.book serial there.counted) (none_named a serial there.counted ids.left ids.found name free_a) (none_named b serial there.counted ids.right ids.there name free_b)
            (others_tied a steady_a serial there.counted ids.left ids.found s on_left place.root r name free_a keep hidden) (others_tied b steady_b serial there.counted ids.right ids.there right.screen right.on right.root r name free_b keep false)
            after_left after_right one.book_is two.book_is
            (subst (λ (z : Images). AreRenamed Both z after_right.images) (sym one.images_are) (subst (λ (z : Images). AreRenamed Both new_left z) (sym two.images_are) renewed))
            (look_after after_left after_right keeps_one keeps_two) (keeps_one.live is.like.display.live_left) (keeps_two.live is.like.display.live_right) there.counted
            (kept_display a.book serial there.counted ∙ is.like.display.named) (kept_display b.book serial there.counted ∙ is.like.display.named_alone) both_left both_right
            (clients_after after_left after_right one.clients_are two.clients_are);
      }

  -- nothing does, and it goes
  m_other : m ≢ i
  m_other at = live-apart a.images m i free_left live_left (sym at)

  n_other : n ≢ j
  n_other at = live-apart b.images n j free_right live_right (sym at)

  abbrev Less : ℕ → ℕ → Type 0
  Less k l = But S i k l

  to_less : (k l : ℕ) → But Both i k l → And Less m n k l
  to_less k l (inl pair, other) = inl (pair, other)
  to_less k l (inr new, other) = inr new

  from_less : (k l : ℕ) → And Less m n k l → But Both i k l
  from_less k l (inl pair) = (inl pair.0, pair.1)
  from_less k l (inr new) = (inr new, λ at. m_other (sym new.0 ∙ at))

  left_steady : IsSteady after_left
  left_steady = subst IsSteady after_is (ordered_steady a (Replace serial 0 r name keep hidden) tt steady_a)
    where
      after_is : ordered a (Replace serial 0 r name keep hidden) ≡ after_left
      after_is = rw fit refl

  unused : is_used x (Image i) ≡ false → is_used y (Image j) ≡ false → IsLike c (Some (serial, name)) after_left after_right
  unused none other =
      let one = unused_becomes a steady_a serial there.counted ids.left ids.found s on_left place.root r name free_a keep hidden none in
      let two = unused_becomes b steady_b serial there.counted ids.right ids.there right.screen right.on right.root r name free_b keep false other in
      let loose : IsLoose (after_release new_left i) i =
      subst (λ (z : Images). IsLoose z i) one.images_are (loose_gone after_left left_steady.whole.standing i (ap (λ (z : Images). z i) one.images_are ∙ released_gone new_left i)) in
      let gone = renamed_alike (But Both i) (And Less m n) (after_release new_left i) (after_release new_right j) to_less from_less (renamed_release Both new_left new_right renewed i j (inl ids.same) loose) in
      let keeps_one : Keeps a.images after_left.images 0 =
      subst (λ (z : Images). Keeps a.images z 0) (sym one.images_are) (keeps_then a.images new_left (after_release new_left i) 0 keeps_left (keeps_release new_left i 0 (λ zero. is.like.display.left i j ids.same (sym zero)))) in
      let keeps_two : Keeps b.images after_right.images 0 =
      subst (λ (z : Images). Keeps b.images z 0) (sym two.images_are) (keeps_then b.images new_right (after_release new_right j) 0 keeps_right (keeps_release new_right j 0 (λ zero. is.like.display.right i j ids.same (sym zero)))) in
      record {
        images = Came m n ∷ Went i ∷ is.images;
        screens = is.screens;
        like =
            granted_like Less T c serial name (without x (Image i)) (without y (Image j))
            (image_lost S T c None x y books is.like.images.once is.like.images.alone i j ids.same none other (ties_bereft a.book serial there.counted steady_a.orderly.ties) (ties_bereft b.book serial there.counted steady_b.orderly.ties))
            is.like.counted m n s right.screen (λ k l pair. m_apart k l pair.0) (λ k l pair. n_apart k l pair.0)
            (fresh_gone a steady_a serial there.counted ids.left ids.found s on_left place.root r name free_a keep hidden m_other) (fresh_gone b steady_b serial there.counted ids.right ids.there right.screen right.on right.root r name free_b keep false n_other)
            place.root right.root (none_bereft a.book serial there.counted) (none_bereft b.book serial there.counted) (none_named a serial there.counted ids.left ids.found name free_a) (none_named b serial there.counted ids.right ids.there name free_b)
            (others_tied a steady_a serial there.counted ids.left ids.found s on_left place.root r name free_a keep hidden) (others_tied b steady_b serial there.counted ids.right ids.there right.screen right.on right.root r name free_b keep false)
            after_left after_right one.book_is two.book_is
            (subst (λ (z : Images). AreRenamed (And Less m n) z after_right.images) (sym one.images_are) (subst (λ (z : Images). AreRenamed (And Less m n) (after_release new_left i) z) (sym two.images_are) gone))
            (look_after after_left after_right keeps_one keeps_two) (keeps_one.live is.like.display.live_left) (keeps_two.live is.like.display.live_right) there.counted
            (kept_display a.book serial there.counted ∙ is.like.display.named) (kept_display b.book serial there.counted ∙ is.like.display.named_alone)
            (λ k l pair. both_left k l (from_less k l pair).0) (λ k l pair. both_right k l (from_less k l pair).0) (clients_after after_left after_right one.clients_are two.clients_are);
      }

  used_alike : is_used x (Image i) ≡ is_used y (Image j)
  used_alike =
      let finds_left : IsStanding (with_book a x) = standing_bereft a serial steady_a.whole in
      let finds_right : IsStanding (with_book b y) = standing_bereft b serial steady_b.whole in
      used_same S T c None x y books finds_left.finds finds_right.finds a.images b.images is.like.images i j ids.same

  pub replaced_like : IsLike c (Some (serial, name)) after_left after_right
  replaced_like = by (is_used x (Image i)) refl
    where
      by : (used : Bool) → is_used x (Image i) ≡ used → IsLike c (Some (serial, name)) after_left after_right
      by true at = still_used at (sym used_alike ∙ at)
      by false at = unused at (sym used_alike ∙ at)

  -- ---- what it has then

  near : clamped_rect r ≡ r
  near = near_rect r (split (is_near_rect farthest r) (not (is_empty (inside_border r))) has_both.1).0

  first_clip : (image_at first_left m).clipr ≡ r
  first_clip =
      let apart = live-apart a.images m i free_left live_left in
      ap (λ (o : Option ImageState). (unwrap_or o no_image).clipr) (replaced_at a.images m i apart r raw_left keep (corner r hidden) m (below m n (inr (refl, refl))) ∙ with_image-at a.images m _)

  border_clip : (kept : Bool) (z : Images) → (image_at (if kept then z else bordered z m) m).clipr ≡ (image_at z m).clipr
  border_clip true z = refl
  border_clip false z = bordered_clip z m

  new_clip : (image_at new_left m).clipr ≡ r
  new_clip =
      ap (λ (z : Images). (image_at (if keep then z else bordered z m) m).clipr) (new_is a steady_a serial there.counted ids.left ids.found s on_left place.root r name free_a keep hidden)
      ∙ border_clip keep first_left ∙ first_clip

  clip_near : (z : Images) → (image_at z m).clipr ≡ r → after_left.images ≡ z → clamped_rect (at_number after_left m).clipr ≡ (at_number after_left m).clipr
  clip_near z clip is = subst (λ (q : Rect). clamped_rect q ≡ q) (sym (ap (λ (x : Images). (image_at x m).clipr) is ∙ clip)) near

  pub replaced_holds : IsTiedWindow (Some (serial, name)) after_left.book × IsRootedWindow (Some (serial, name)) after_left
  replaced_holds = by (is_used x (Image i)) refl
    where
      by : (used : Bool) → is_used x (Image i) ≡ used → IsTiedWindow (Some (serial, name)) after_left.book × IsRootedWindow (Some (serial, name)) after_left
      by true at =
          let one = used_becomes a steady_a serial there.counted ids.left ids.found s on_left place.root r name free_a keep hidden at in
          let fresh = fresh_left a steady_a serial there.counted ids.left ids.found s on_left place.root r name free_a keep hidden in
          let none = none_bereft a.book serial there.counted in
          let plain = none_named a serial there.counted ids.left ids.found name free_a in
          let clip = clip_near new_left new_clip one.images_are in
          (granted_tied after_left x serial m s name one.book_is none plain fresh place.root clip, granted_rooted after_left x serial m s name one.book_is none plain fresh place.root clip)
      by false at =
          let one = unused_becomes a steady_a serial there.counted ids.left ids.found s on_left place.root r name free_a keep hidden at in
          let fresh = fresh_gone a steady_a serial there.counted ids.left ids.found s on_left place.root r name free_a keep hidden m_other in
          let none = none_bereft a.book serial there.counted in
          let plain = none_named a serial there.counted ids.left ids.found name free_a in
          let kept : Keeps new_left (after_release new_left i) m = keeps_release new_left i m m_other in
          let clip = clip_near (after_release new_left i) (kept.shape.clipr ∙ new_clip) one.images_are in (
            granted_tied after_left (without x (Image i)) serial m s name one.book_is none plain fresh place.root clip,
            granted_rooted after_left (without x (Image i)) serial m s name one.book_is none plain fresh place.root clip,
          )

  -- the other device's book, which has lost the old id, and perhaps the old image
  pub right_book : (P : Book → Type 0) → ((k t : ℕ) → P (granted (bereft b.book serial) serial k t name)) → ((k l t : ℕ) → P (granted (without (bereft b.book serial) (Image l)) serial k t name)) → P after_right.book
  right_book P stays goes = by (is_used y (Image j)) refl
    where
      by : (used : Bool) → is_used y (Image j) ≡ used → P after_right.book
      by true at = (let two = used_becomes b steady_b serial there.counted ids.right ids.there right.screen right.on right.root r name free_b keep false at in subst P (sym two.book_is) (stays n right.screen))
      by false at = (let two = unused_becomes b steady_b serial there.counted ids.right ids.there right.screen right.on right.root r name free_b keep false at in subst P (sym two.book_is) (goes n j right.screen))
