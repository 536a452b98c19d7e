-- Things go one after the other from two devices that are like.
use Rattle.std.proofs.Common.{◌≡◌, ◌⊎◌, ◌&&◌, ◌||◌, ℕ, Bool, true, false, List, [], ◌∷◌, ◌++◌, Option, Some, None, inl, inr, refl, sym, ap, subst, ◌∙◌, eq-eqb}
use Rattle.std.specs.Prelude.{◌==◌}
use Rattle.std.specs.List.{AllZip, fold}
use Rattle.std.specs.Option.{option_map_or}
use Rattle.std.proofs.lemmas.Bool.{eqb-true, eqb-false, or_parts}
use Rattle.std.proofs.lemmas.List.Sums.{fold-append}
use Rattle.model_draw_parts.specs.declared.images.ScreenId.{ScreenId}
use Rattle.model_draw_parts.specs.declared.images.Thing.{Thing}
use Rattle.model_draw_parts.specs.declared.images.Thing.TheVariants.{Image, Screen}
use Rattle.model_draw_parts.specs.images.Book.{Book, fill_of, image_of, screen_id, screen_of}
use Rattle.model_draw_parts.specs.images.Release.{Freed, Releases, none_left, stays, goes, has_gone, is_used, references, same_thing, with_gone, without}
use Rattle.model_draw_parts.specs.images.Ties.{HasTies}
use Rattle.model_draw_parts.proofs.images.Freed.{gone_more}
use Rattle.model_draw_parts.proofs.images.Ties.{HasTies-same}
use Rattle.model_draw.specs.draw.World.{World, after_freed, with_book, without_thing}
use Rattle.model_draw.specs.draw.Orders.{manager}
use Rattle.law_likeness.specs.renamed.Renamed.{But}
use Rattle.law_likeness.proofs.renamed.Going.{renamed_release}
use Rattle.law_likeness.specs.agreement.Agreement.{SameOption}
use Rattle.law_shown.proofs.shown.Tests.{find-any, first_false, first_true, not_both, second_false, second_true}
use Rattle.law_likeness.specs.likeness.Likeness.{AreLike, SamePlace, is_root}
use Rattle.law_likeness.proofs.likeness.Shapes.{keeps_release, look_kept}
use Rattle.law_likeness.specs.making.Likes.{Change, IsLike, Matched}
use Rattle.law_likeness.specs.making.Standing.{IsStanding}
use Rattle.law_likeness.proofs.making.Allocating.{ground}
use Rattle.law_likeness.proofs.losing.Used.{used_same, used_screens_same}
use Rattle.law_likeness.proofs.losing.Losing.{image_lost, screen_lost}
use Rattle.law_likeness.proofs.losing.Standing.{image_loose, image_standing, screen_standing}

-- ---- a device while things go

-- the device from which these things have gone, with this book
abbrev pub staged : World → Freed → World
staged world freed = with_book (fold without_thing world freed.gone) freed.book

abbrev next : World → Thing → World
next world thing = with_book (without_thing world thing) (without world.book thing)

pub staged_more : (world : World) (freed : Freed) (thing : Thing) → staged world (with_gone freed thing) ≡ next (staged world freed) thing
staged_more world freed (Image i) = ap (λ (w : World). with_book w (without freed.book (Image i))) (fold-append without_thing world freed.gone (Image i ∷ []))
staged_more world freed (Screen s) = ap (λ (w : World). with_book w (without freed.book (Screen s))) (fold-append without_thing world freed.gone (Screen s ∷ []))

booked : (things : List Thing) (world : World) (book : Book) → fold without_thing (with_book world book) things ≡ with_book (fold without_thing world things) book
booked [] world book = refl
booked (Image i ∷ things) world book = booked things (without_thing world (Image i)) book
booked (Screen s ∷ things) world book = booked things world book

pub after_staged : (world : World) (freed : Freed) → after_freed world freed ≡ staged world freed
after_staged world freed = booked freed.gone world freed.book

-- ---- one thing goes from both

module _ (Same SameScreen : ℕ → ℕ → Type 0) (c : ℕ) (window : Option (ℕ × List ℕ)) (a b : World) (like : AreLike Same SameScreen c window a b)
    (left : IsStanding a) (right : IsStanding b) (ties_a : HasTies a.book) (ties_b : HasTies b.book) where
  pub image_gone : (m n : ℕ) → Same m n → is_used a.book (Image m) ≡ false → is_used b.book (Image n) ≡ false → AreLike (But Same m) SameScreen c window (next a (Image m)) (next b (Image n))
  image_gone m n both unused_a unused_b = record {
    counted = like.counted;
    images = renamed_release Same a.images b.images like.images m n both (image_loose a left m (like.images.left m n both) unused_a);
    books = image_lost Same SameScreen c window a.book b.book like.books like.images.once like.images.alone m n both unused_a unused_b ties_a ties_b;
    display =
        (let keeps_left = keeps_release a.images m 0 (λ at. like.display.left m n both (sym at)) in
        let keeps_right = keeps_release b.images n 0 (λ at. like.display.right m n both (sym at)) in
        record {
          named = like.display.named;
          named_alone = like.display.named_alone;
          look = look_kept _ _ _ _ keeps_left.shape like.display.look keeps_right.shape;
          live_left = keeps_left.live like.display.live_left;
          live_right = keeps_right.live like.display.live_right;
          left = λ i j is. like.display.left i j is.0;
          right = λ i j is. like.display.right i j is.0;
        });
    clients = like.clients;
  }

  pub screen_gone : (s t : ℕ) → SameScreen s t → is_used a.book (Screen s) ≡ false → is_used b.book (Screen t) ≡ false → AreLike Same (But SameScreen s) c window (next a (Screen s)) (next b (Screen t))
  screen_gone s t both unused_a unused_b = record {
    counted = like.counted;
    images = like.images;
    books = screen_lost Same SameScreen c window a.book b.book like.books like.images.once like.images.alone s t both unused_a unused_b;
    display = record {
      named = like.display.named;
      named_alone = like.display.named_alone;
      look = like.display.look;
      live_left = like.display.live_left;
      live_right = like.display.live_right;
      left = like.display.left;
      right = like.display.right;
    };
    clients = like.clients;
  }

-- the root rio's screen is used
root_used : (book : Book) (s : ℕ) → is_root book s ≡ true → is_used book (Screen s) ≡ true
root_used book s is = by (screen_id book manager 0) refl is
  where
    by : (o : Option ScreenId) → screen_id book manager 0 ≡ o → option_map_or (λ e. e.screen == s) o false ≡ true → is_used book (Screen s) ≡ true
    by None found at = absurd cc
    by (Some e) found at = first_true _ _ (find-any (λ e. (e.client == manager) && (e.id == 0)) (λ e. e.screen == s) book.screen_ids e found at)

-- ---- all that goes

-- Before anything went these images and screens were the same. The devices are like then by those that have not gone.
pub record IsAt (Same SameScreen : ℕ → ℕ → Type 0) (c : ℕ) (window : Option (ℕ × List ℕ)) (a b : World) (root_a root_b : ℕ → Bool) (f g : Freed) : Type 0 where
  pub is : IsLike c window (staged a f) (staged b g)
  pub left : IsStanding (staged a f)
  pub right : IsStanding (staged b g)
  pub ties_left : HasTies f.book
  pub ties_right : HasTies g.book
  pub images : (i j : ℕ) → Same i j → has_gone f (Image i) ≡ has_gone g (Image j)
  pub screens : (s t : ℕ) → SameScreen s t → has_gone f (Screen s) ≡ has_gone g (Screen t)
  pub still : (i j : ℕ) → Same i j → has_gone f (Image i) ≡ false → Matched is.images i j
  pub still_screens : (s t : ℕ) → SameScreen s t → has_gone f (Screen s) ≡ false → Matched is.screens s t
  pub first : (i j : ℕ) → Matched is.images i j → Same i j
  pub first_screens : (s t : ℕ) → Matched is.screens s t → SameScreen s t
  pub root_left : (s : ℕ) → is_root f.book s ≡ root_a s
  pub root_right : (s : ℕ) → is_root g.book s ≡ root_b s

module _ (Same SameScreen : ℕ → ℕ → Type 0) (c : ℕ) (window : Option (ℕ × List ℕ)) (a b : World) (root_a root_b : ℕ → Bool)
    (once : (i j k : ℕ) → Same i j → Same i k → j ≡ k) (alone : (i j k : ℕ) → Same i k → Same j k → i ≡ j)
    (once_screen : (s t u : ℕ) → SameScreen s t → SameScreen s u → t ≡ u) (alone_screen : (s t u : ℕ) → SameScreen s u → SameScreen t u → s ≡ t) where
  abbrev At : Freed → Freed → Type 0
  At f g = IsAt Same SameScreen c window a b root_a root_b f g

  -- the same thing, or on both sides the root rio's screen
  abbrev SameThing : Thing → Thing → Type 0
  SameThing (Image i) (Image j) = Same i j
  SameThing (Screen s) (Screen t) = SameScreen s t ⊎ ((root_a s ≡ true) × (root_b t ≡ true))
  SameThing (Image i) (Screen t) = ⊥
  SameThing (Screen s) (Image j) = ⊥

  abbrev stays_at : Freed → Thing → Bool
  stays_at f t = is_used f.book t || has_gone f t

  both_stay : (u v x y : Bool) → u ≡ v → x ≡ y → (u || x) ≡ (v || y)
  both_stay u v x y one other = rw (one, other) refl

  stay_same : (f g : Freed) → At f g → (t u : Thing) → SameThing t u → stays_at f t ≡ stays_at g u
  stay_same f g at (Image i) (Image j) is = by (has_gone f (Image i)) refl
    where
      by : (gone : Bool) → has_gone f (Image i) ≡ gone → stays_at f (Image i) ≡ stays_at g (Image j)
      by true has =
          second_true (is_used f.book (Image i)) _ has ∙ sym (second_true (is_used g.book (Image j)) _ (sym (at.images i j is) ∙ has))
      by false has =
          both_stay _ _ _ _
          (used_same (Matched at.is.images) (Matched at.is.screens) c window f.book g.book at.is.like.books at.left.finds at.right.finds (staged a f).images (staged b g).images at.is.like.images i j (at.still i j is has))
          (at.images i j is)
  stay_same f g at (Screen s) (Screen t) (inl is) = by (has_gone f (Screen s)) refl
    where
      by : (gone : Bool) → has_gone f (Screen s) ≡ gone → stays_at f (Screen s) ≡ stays_at g (Screen t)
      by true has =
          second_true (is_used f.book (Screen s)) _ has ∙ sym (second_true (is_used g.book (Screen t)) _ (sym (at.screens s t is) ∙ has))
      by false has =
          both_stay _ _ _ _
          (used_screens_same (Matched at.is.images) (Matched at.is.screens) c window f.book g.book at.is.like.books at.left.finds at.right.finds s t (at.still_screens s t is has))
          (at.screens s t is)
  stay_same f g at (Screen s) (Screen t) (inr is) =
      first_true _ _ (root_used f.book s (at.root_left s ∙ is.0)) ∙ sym (first_true _ _ (root_used g.book t (at.root_right t ∙ is.1)))
  stay_same f g at (Image i) (Screen t) is = absurd is
  stay_same f g at (Screen s) (Image j) is = absurd is

  -- ---- what loses a reference then

  refer_same : (f g : Freed) → At f g → (t u : Thing) → SameThing t u → stays_at f t ≡ false → AllZip SameThing (references f.book t) (references g.book u)
  refer_same f g at (Image i) (Image j) is none =
      by (screen_of f.book i) (screen_of g.book j) (at.is.like.books.windows i j (at.still i j is (second_false (is_used f.book (Image i)) _ none)))
    where
      place : (s t : ℕ) → SamePlace (Matched at.is.screens) f.book g.book s t → SameThing (Screen s) (Screen t)
      place s t (SamePlace.on_own own) = inl (at.first_screens s t own)
      place s t (SamePlace.on_root left right) = inr (sym (at.root_left s) ∙ left, sym (at.root_right t) ∙ right)

      by : (o q : Option ℕ) → SameOption (SamePlace (Matched at.is.screens) f.book g.book) o q
          → AllZip SameThing (option_map_or (λ s. Screen s ∷ []) o []) (option_map_or (λ t. Screen t ∷ []) q [])
      by (Some s) (Some t) both = (place s t both, tt)
      by None None both = tt
      by (Some s) None both = absurd both
      by None (Some t) both = absurd both
  refer_same f g at (Screen s) (Screen t) (inl is) none =
      let same = ground (Matched at.is.images) (Matched at.is.screens) c window (staged a f) (staged b g) at.is.like s t (at.still_screens s t is (second_false (is_used f.book (Screen s)) _ none)) in
      (at.first (image_of f.book s) (image_of g.book t) same.image, (at.first (fill_of f.book s) (fill_of g.book t) same.fill, tt))
  refer_same f g at (Screen s) (Screen t) (inr is) none =
      absurd (not_both (stays_at f (Screen s)) (first_true _ _ (root_used f.book s (at.root_left s ∙ is.0))) none)
  refer_same f g at (Image i) (Screen t) is none = absurd is
  refer_same f g at (Screen s) (Image j) is none = absurd is

  -- ---- it goes

  number_is : (i j k l : ℕ) → Same i j → Same k l → (k == i) ≡ (l == j)
  number_is i j k l is other = by (k == i) (l == j) refl refl
    where
      by : (x y : Bool) → (k == i) ≡ x → (l == j) ≡ y → x ≡ y
      by true true one two = refl
      by false false one two = refl
      by true false one two = absurd (not_both (l == j) (eq-eqb l j (once i l j (subst (λ (n : ℕ). Same n l) (eqb-true k i one) other) is)) two)
      by false true one two = absurd (not_both (k == i) (eq-eqb k i (alone k i j (subst (λ (n : ℕ). Same k n) (eqb-true l j two) other) is)) one)

  screen_is : (s t u v : ℕ) → SameScreen s t → SameScreen u v → (u == s) ≡ (v == t)
  screen_is s t u v is other = by (u == s) (v == t) refl refl
    where
      by : (x y : Bool) → (u == s) ≡ x → (v == t) ≡ y → x ≡ y
      by true true one two = refl
      by false false one two = refl
      by true false one two = absurd (not_both (v == t) (eq-eqb v t (once_screen s v t (subst (λ (n : ℕ). SameScreen n v) (eqb-true u s one) other) is)) two)
      by false true one two = absurd (not_both (u == s) (eq-eqb u s (alone_screen u s t (subst (λ (n : ℕ). SameScreen u n) (eqb-true v t two) other) is)) one)

  -- whether a thing has gone, where one more has
  more_same : (f g : Freed) (t u x y : Thing) → has_gone f x ≡ has_gone g y → same_thing x t ≡ same_thing y u → has_gone (with_gone f t) x ≡ has_gone (with_gone g u) y
  more_same f g t u x y old one = gone_more f t x ∙ both_stay _ _ _ _ old one ∙ sym (gone_more g u y)

  image_at : (f g : Freed) → At f g → (i j : ℕ) → Same i j → stays_at f (Image i) ≡ false → At (with_gone f (Image i)) (with_gone g (Image j))
  image_at f g at i j is none =
      let other : stays_at g (Image j) ≡ false = sym (stay_same f g at (Image i) (Image j) is) ∙ none in
      let unused_f = first_false (is_used f.book (Image i)) _ none in
      let unused_g = first_false (is_used g.book (Image j)) _ other in
      let matched = at.still i j is (second_false (is_used f.book (Image i)) _ none) in
      record {
        is = record {
          images = Change.Went i ∷ at.is.images;
          screens = at.is.screens;
          like = subst (λ (w : World). AreLike (But (Matched at.is.images) i) (Matched at.is.screens) c window w (staged b (with_gone g (Image j)))) (sym (staged_more a f (Image i)))
              (subst (λ (w : World). AreLike (But (Matched at.is.images) i) (Matched at.is.screens) c window (next (staged a f) (Image i)) w) (sym (staged_more b g (Image j)))
              (image_gone (Matched at.is.images) (Matched at.is.screens) c window (staged a f) (staged b g) at.is.like at.left at.right at.ties_left at.ties_right i j matched unused_f unused_g));
        };
        left = subst IsStanding (sym (staged_more a f (Image i))) (image_standing (staged a f) at.left i (at.is.like.images.left i j matched) unused_f);
        right = subst IsStanding (sym (staged_more b g (Image j))) (image_standing (staged b g) at.right j (at.is.like.images.right i j matched) unused_g);
        ties_left = HasTies-same f.book (without f.book (Image i)) refl refl at.ties_left;
        ties_right = HasTies-same g.book (without g.book (Image j)) refl refl at.ties_right;
        images = λ k l same. more_same f g (Image i) (Image j) (Image k) (Image l) (at.images k l same) (number_is i j k l is same);
        screens = λ s t same. more_same f g (Image i) (Image j) (Screen s) (Screen t) (at.screens s t same) refl;
        still = λ k l same kept.
            let parts = or_parts (has_gone f (Image k)) (k == i) (sym (gone_more f (Image i) (Image k)) ∙ kept) in
            (at.still k l same parts.0, eqb-false k i parts.1);
        still_screens = λ s t same kept. at.still_screens s t same (first_false (has_gone f (Screen s)) false (sym (gone_more f (Image i) (Screen s)) ∙ kept));
        first = λ k l same. at.first k l same.0;
        first_screens = at.first_screens;
        root_left = at.root_left;
        root_right = at.root_right;
      }

  screen_at : (f g : Freed) → At f g → (s t : ℕ) → SameScreen s t → stays_at f (Screen s) ≡ false → At (with_gone f (Screen s)) (with_gone g (Screen t))
  screen_at f g at s t is none =
      let other : stays_at g (Screen t) ≡ false = sym (stay_same f g at (Screen s) (Screen t) (inl is)) ∙ none in
      let unused_f = first_false (is_used f.book (Screen s)) _ none in
      let unused_g = first_false (is_used g.book (Screen t)) _ other in
      let matched = at.still_screens s t is (second_false (is_used f.book (Screen s)) _ none) in
      record {
        is = record {
          images = at.is.images;
          screens = Change.Went s ∷ at.is.screens;
          like = subst (λ (w : World). AreLike (Matched at.is.images) (But (Matched at.is.screens) s) c window w (staged b (with_gone g (Screen t)))) (sym (staged_more a f (Screen s)))
              (subst (λ (w : World). AreLike (Matched at.is.images) (But (Matched at.is.screens) s) c window (next (staged a f) (Screen s)) w) (sym (staged_more b g (Screen t)))
              (screen_gone (Matched at.is.images) (Matched at.is.screens) c window (staged a f) (staged b g) at.is.like at.left at.right at.ties_left at.ties_right s t matched unused_f unused_g));
        };
        left = subst IsStanding (sym (staged_more a f (Screen s))) (screen_standing (staged a f) at.left s unused_f);
        right = subst IsStanding (sym (staged_more b g (Screen t))) (screen_standing (staged b g) at.right t unused_g);
        ties_left = HasTies-same f.book (without f.book (Screen s)) refl refl at.ties_left;
        ties_right = HasTies-same g.book (without g.book (Screen t)) refl refl at.ties_right;
        images = λ k l same. more_same f g (Screen s) (Screen t) (Image k) (Image l) (at.images k l same) refl;
        screens = λ u v same. more_same f g (Screen s) (Screen t) (Screen u) (Screen v) (at.screens u v same) (screen_is s t u v is same);
        still = λ k l same kept. at.still k l same (first_false (has_gone f (Image k)) false (sym (gone_more f (Screen s) (Image k)) ∙ kept));
        still_screens = λ u v same kept.
            let parts = or_parts (has_gone f (Screen u)) (u == s) (sym (gone_more f (Screen s) (Screen u)) ∙ kept) in
            (at.still_screens u v same parts.0, eqb-false u s parts.1);
        first = at.first;
        first_screens = λ u v same. at.first_screens u v same.0;
        root_left = at.root_left;
        root_right = at.root_right;
      }

  thing_at : (f g : Freed) → At f g → (t u : Thing) → SameThing t u → stays_at f t ≡ false → At (with_gone f t) (with_gone g u)
  thing_at f g at (Image i) (Image j) is none = image_at f g at i j is none
  thing_at f g at (Screen s) (Screen t) (inl is) none = screen_at f g at s t is none
  thing_at f g at (Screen s) (Screen t) (inr is) none =
      absurd (not_both (stays_at f (Screen s)) (first_true _ _ (root_used f.book s (at.root_left s ∙ is.0))) none)
  thing_at f g at (Image i) (Screen t) is none = absurd is
  thing_at f g at (Screen s) (Image j) is none = absurd is

  zip_append : (ts us vs ws : List Thing) → AllZip SameThing ts us → AllZip SameThing vs ws → AllZip SameThing (ts ++ vs) (us ++ ws)
  zip_append [] [] vs ws zip more = more
  zip_append [] (u ∷ us) vs ws zip more = absurd zip
  zip_append (t ∷ ts) [] vs ws zip more = absurd zip
  zip_append (t ∷ ts) (u ∷ us) vs ws zip more = (zip.0, zip_append ts us vs ws zip.1 more)

  pub releases_at : (p q f g : Freed) (ts us : List Thing) → Releases p f ts → Releases q g us → At f g → AllZip SameThing ts us → At p q
  releases_at p q f g ts us none_left none_left at zip = at
  releases_at p q f g ts us none_left (stays h u rest test more) at zip = absurd zip
  releases_at p q f g ts us none_left (goes h u rest test more) at zip = absurd zip
  releases_at p q f g ts us (stays h t rest test more) none_left at zip = absurd zip
  releases_at p q f g ts us (goes h t rest test more) none_left at zip = absurd zip
  releases_at p q f g ts us (stays h t rest test more) (stays k u others same further) at zip = releases_at p q h k rest others more further at zip.1
  releases_at p q f g ts us (stays h t rest test more) (goes k u others same further) at zip =
      absurd (not_both (stays_at k u) (sym (stay_same h k at t u zip.0) ∙ test) same)
  releases_at p q f g ts us (goes h t rest test more) (stays k u others same further) at zip =
      absurd (not_both (stays_at h t) (stay_same h k at t u zip.0 ∙ same) test)
  releases_at p q f g ts us (goes h t rest test more) (goes k u others same further) at zip =
      releases_at p q (with_gone h t) (with_gone k u) (references h.book t ++ rest) (references k.book u ++ others) more further (thing_at h k at t u zip.0 test)
      (zip_append (references h.book t) (references k.book u) rest others (refer_same h k at t u zip.0 test) zip.1)
