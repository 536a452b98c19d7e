-- Both devices when they start, and what a session's window looks like on both.
use Rattle.std.proofs.Common.{◌≡◌, ◌≤◌, ◌&&◌, ℕ, Bool, true, false, cond, List, [], Option, Some, None, refl, ap, ◌∙◌, arith}
use Rattle.std.specs.Prelude.{◌==◌, All, is_some}
use Rattle.std.proofs.lemmas.List.Elements.{All-nil}
use Rattle.r9_geom.specs.declared.Point.{Point}
use Rattle.model_pixel.specs.Channels.{depth}
use Rattle.model_pixel.specs.Rows.{rows_of}
use Rattle.model_draw.specs.imgfile.ImageFile.{image_file}
use Rattle.model_forest.specs.Paint.{paint}
use Rattle.model_forest.specs.Steps.{after_image, after_set}
use Rattle.model_forest.specs.World.{IsLive, origin_point}
use Rattle.model_exchanged.specs.resize.Resize.{sized}
use Rattle.model_draw_parts.specs.declared.images.Tie.{Tie}
use Rattle.model_text.specs.text.Map.{lookup}
use Rattle.model_draw_parts.specs.images.Book.{add_id, image_id, new_screen, owner, screen_id}
use Rattle.model_draw.specs.draw.World.{Opening, World, started}
use Rattle.model_draw.specs.draw.Orders.{image_shown, manager, picture_of, with_root_rio}
use Rattle.model_world.specs.Whole.{client}
use Rattle.law_shown.proofs.shown.Tests.{turned}
use Rattle.law_shown.proofs.fitting.Opening.{first_orderly}
use Rattle.law_likeness.specs.agreement.Agreement.{SameOption}
use Rattle.model_alone.specs.alone.Lone.{started_alone}
use Rattle.law_likeness.specs.likeness.Likeness.{AreLike, AreLikeBooks, IsNamed, IsOfSession, display_id}
use Rattle.law_likeness.proofs.likeness.Ids.{no_manager}
use Rattle.law_likeness.specs.renamed.Renamed.{AreRenamed}
use Rattle.law_likeness.proofs.renamed.Views.{paint_same}
use Rattle.law_likeness.specs.making.Likes.{Matched}
use Rattle.law_likeness.specs.making.Standing.{IsWhole}
use Rattle.law_others.proofs.others.Display.{first_furnished}
use Rattle.law_others.proofs.managed.Starting.{first_whole}
use Rattle.law_devices.proofs.grounded.Keeping.{first_grounded}
use Rattle.law_devices.proofs.holding.Rooting.{window_known}
use Rattle.law_devices.proofs.granted.Freed.{are_known, both_shown}
use Rattle.law_devices.specs.assembled.Assembled.{AreAlike, HasSize, IsAlone, IsSettled}
use Rattle.law_devices.proofs.assembled.Writing.{holds_nothing}

abbrev first : Opening → World
first opening = with_root_rio (started opening)

-- ---- the start

none_of : {X : Type 0} (a b : Bool) (x : X) → b ≡ false → cond (a && b) (Some x) None ≡ None
none_of true b x is = ap (λ (c : Bool). cond c (Some x) None) is
none_of false b x is = refl

none_first : {X : Type 0} (a b : Bool) (x : X) → a ≡ false → cond (a && b) (Some x) None ≡ None
none_first a b x is = rw is refl

module _ (opening : Opening) (corner : opening.r.min ≡ origin_point) where
  none_image : (k id : ℕ) → (id == 0) ≡ false → image_id (first opening).book k id ≡ None
  unfolding started with_root_rio add_id new_screen
  none_image k id other = none_of (0 == owner k id) (0 == id) display_id (turned 0 id ∙ other)

  none_screen : (id : ℕ) → (id == 0) ≡ false → screen_id (first opening).book manager id ≡ None
  unfolding started with_root_rio add_id new_screen
  none_screen id other = none_of (0 == manager) (0 == id) (record { client = 0; id = 0; screen = 0; public = false }) (turned 0 id ∙ other)

  none_session : (k id : ℕ) → (k == manager) ≡ false → screen_id (first opening).book k id ≡ None
  unfolding started with_root_rio add_id new_screen
  none_session k id other = none_first (0 == k) (0 == id) (record { client = 0; id = 0; screen = 0; public = false }) (turned 0 k ∙ other)

  live : IsLive (first opening).images 0
  unfolding started with_root_rio add_id new_screen
  live = (let whole : IsWhole (first opening) = first_whole opening in whole.standing.live 0 refl)

  settled : IsSettled (first opening)
  unfolding started with_root_rio add_id new_screen
  settled = record {
    steady = record { whole = first_whole opening; orderly = first_orderly opening };
    furnished = first_furnished opening corner;
    grounded = first_grounded opening;
  }

  has_size : (columns rows : ℕ) → opening.r ≡ sized columns rows → HasSize (Some (columns, rows)) (first opening)
  unfolding started with_root_rio add_id new_screen after_image after_set
  has_size columns rows is = (is, is)

  alone : IsAlone None (first opening)
  unfolding started with_root_rio add_id new_screen
  alone = record { ids = λ id other apart. none_image manager id other; screens = none_screen; ties = All-nil _ }

  untied : (d : ℕ) → All (λ t. IsOfSession d t.client → ⊥) (first opening).book.ties
  unfolding started with_root_rio add_id new_screen
  untied d = All-nil (λ (t : Tie). IsOfSession d t.client → ⊥)

  named : All (IsNamed None) (first opening).book.ties
  unfolding started with_root_rio add_id new_screen
  named = All-nil (IsNamed None)

  no_client : (c n : ℕ) → lookup (first opening).clients (client c n) ≡ lookup (first opening).clients (client 1 n)
  unfolding started with_root_rio
  no_client c n = refl

  module _ (c : ℕ) (counted : 1 ≤ c) where
    abbrev Nothing : ℕ → ℕ → Type 0
    Nothing i j = Matched [] i j

    same_none : {X Y : Type 0} (P : X → Y → Type 0) (o : Option X) (q : Option Y) → o ≡ None → q ≡ None → SameOption P o q
    same_none P o q left right = rw (left, right) tt

    books : AreLikeBooks Nothing Nothing c None (first opening).book (first opening).book
    books = record {
      ids = λ n id few other. same_none _ _ _ (none_image (client c n) id other) (none_image (client 1 n) id other);
      screen_ids = λ n id few. same_none _ _ _ (none_session (client c n) id (no_manager c n counted)) (none_session (client 1 n) id (no_manager 1 n (omega arith)));
      hold = λ serial name is. absurd cc;
      once = λ s t u is other. absurd is;
      alone = λ s t u is other. absurd is;
      screens = λ s t is. absurd is;
      there = λ s t is. absurd is;
      not_root = λ s t is. absurd is;
      windows = λ i j is. absurd is;
      hosts = λ i j is. absurd is;
      closed_left = λ i j s is refers. absurd is;
      closed_right = λ i j t is refers. absurd is;
      owned_left = λ k d lt j is. absurd is;
      owned_right = λ k d lt i is. absurd is;
      made_left = λ k d lt t is. absurd is;
      made_right = λ k d lt s is. absurd is;
      stand_left = λ k d lt t is. absurd is;
      stand_right = λ k d lt s is. absurd is;
      untied_left = untied c;
      untied_right = untied 1;
      names_left = named;
      names_right = named;
      numbers_left = settled.furnished.numbers;
      numbers_right = settled.furnished.numbers;
    }

    renamed : AreRenamed Nothing (first opening).images (first opening).images
    renamed = record {
      once = λ i j k is other. absurd is;
      alone = λ i j k is other. absurd is;
      left = λ i j is. absurd is;
      right = λ i j is. absurd is;
      faces = λ i j is. absurd is;
      windows = λ i j is. absurd is;
      parents = λ i j is. absurd is;
    }

    like : AreLike Nothing Nothing c None (first opening) (first opening)
    like = record {
      counted = counted;
      images = renamed;
      books = books;
      display = record {
        named = settled.furnished.named;
        named_alone = settled.furnished.named;
        look = record { repl = refl; chan = refl };
        live_left = live;
        live_right = live;
        left = λ i j is. absurd is;
        right = λ i j is. absurd is;
      };
      clients = λ n few. no_client c n;
    }

    pub start_alike : (columns rows : ℕ) → opening.r ≡ sized columns rows → AreAlike c (Some (columns, rows)) None (with_root_rio (started opening)) (started_alone opening)
    unfolding started_alone
    start_alike columns rows is = record {
      is = record { images = []; screens = []; like = like };
      left = settled;
      right = settled;
      name = λ serial name is. absurd cc;
      holds = holds_nothing (first opening);
      alone = alone;
      size_left = has_size columns rows is;
      size_right = has_size columns rows is;
    }

-- ---- what the window shows

module _ (c : ℕ) (size : Option (ℕ × ℕ)) (serial : ℕ) (name : List ℕ) (a b : World) (alike : AreAlike c size (Some (serial, name)) a b) where
  abbrev S : ℕ → ℕ → Type 0
  S i j = Matched alike.is.images i j

  -- the window's image is the same
  same : S (image_shown a serial) (image_shown b serial)
  same =
      let mine = window_known (Some (serial, name)) a alike.left.furnished alike.holds.tied alike.holds.rooted serial name refl in
      both_shown S a b serial (are_known S a.book b.book serial name (alike.is.like.books.hold serial name refl) (ap is_some mine.1))

  pub picture_alike : picture_of a serial ≡ picture_of b serial
  unfolding picture_of
  picture_alike =
      let i = image_shown a serial in
      let j = image_shown b serial in
      let face = alike.is.like.images.faces i j same in
      let painted : ◌≡◌ {A = Point → ℕ} (paint a.images i) (paint b.images j) = (λ k p. paint_same S a.images b.images alike.is.like.images i j p same k) in
      λ k. image_file (face.chan k) (face.r k) (rows_of (face.r k) (depth (face.chan k)) (painted k))
