-- An image or a screen goes from the books of two devices that are like, or an id.
use Rattle.std.proofs.Common.{◌≡◌, ◌≢◌, ℕ, zero, suc, Bool, true, false, List, [], ◌∷◌, Option, Some, None, refl, sym, ap, subst, ◌∙◌, eq-eqb}
use Rattle.std.specs.Prelude.{◌==◌, All, filter, find, get_or, is_some, not, slice_index_or, slice_set}
use Rattle.std.specs.List.{list_any}
use Rattle.std.proofs.lemmas.Bool.{eqb-true, eqb-false, false_from_ne_true, or_parts}
use Rattle.std.proofs.lemmas.List.Elements.{All-filter, filter_passes}
use Rattle.model_draw_parts.specs.declared.images.ImageId.{ImageId}
use Rattle.model_draw_parts.specs.declared.images.OnScreen.{OnScreen}
use Rattle.model_draw_parts.specs.declared.images.Screen.{Screen as Filled}
use Rattle.model_draw_parts.specs.declared.images.Tie.{Tie}
use Rattle.model_draw_parts.specs.declared.images.Thing.TheVariants.{Image, Screen}
use Rattle.model_draw_parts.specs.images.Book.{Book, has_screen, image_id, is_on, screen_id, screen_numbered, screen_of, tie_of}
use Rattle.model_draw_parts.specs.images.Release.{is_used, refers_to, without}
use Rattle.model_draw_parts.specs.images.Ties.{HasTies}
use Rattle.model_draw_parts.proofs.images.Freed.{any-at, other_screen}
use Rattle.model_draw_parts.proofs.images.Ties.{tie_of-shown}
use Rattle.model_draw.specs.draw.Orders.{manager}
use Rattle.law_likeness.specs.renamed.Renamed.{But}
use Rattle.model_world.specs.Whole.{client}
use Rattle.law_likeness.specs.agreement.Agreement.{SameOption}
use Rattle.law_shown.proofs.shown.Tests.{find-any, find-filter, first_true, not_both, second_true}
use Rattle.law_likeness.specs.likeness.Likeness.{AreLikeBooks, AreNumbered, SameHold, SameId, SamePlace, SameScreenId, SameScreens, SameTie}
use Rattle.law_likeness.proofs.likeness.Ids.{each_option}
use Rattle.law_likeness.proofs.making.Screens.{both_ways}
use Rattle.law_likeness.proofs.making.Standing.{stands_used}
use Rattle.law_likeness.proofs.losing.Used.{found_at}

-- ---- what is found

pub each_found : {A B : Type 0} (P Q : A → B → Type 0) (o : Option A) (q : Option B) → ((x : A) (y : B) → o ≡ Some x → q ≡ Some y → P x y → Q x y) → SameOption P o q → SameOption Q o q
each_found P Q (Some x) (Some y) each both = each x y refl refl both
each_found P Q None None each both = tt
each_found P Q (Some x) None each both = absurd both
each_found P Q None (Some y) each both = absurd both

-- what is found is none that fails a test which all fail
found_apart : {X : Type 0} (p : X → Bool) (number : X → ℕ) (xs : List X) (x : X) (m : ℕ) → find p xs ≡ Some x → list_any (λ y. number y == m) xs ≡ false → number x ≢ m
found_apart p number xs x m found none at = not_both (list_any (λ y. number y == m) xs) (find-any p (λ y. number y == m) xs x found (eq-eqb (number x) m at)) none

pub not_one : (v m : ℕ) → not (v == m) ≡ true → v ≢ m
not_one v m passes at = not_both (not (v == m)) passes (ap not (eq-eqb v m at))

pub is_not : (v m : ℕ) → v ≢ m → not (v == m) ≡ true
is_not v m apart = ap not (false_from_ne_true (v == m) (λ at. apart (eqb-true v m at)))

-- ---- images that have screens

module _ (Same SameScreen : ℕ → ℕ → Type 0) (a b : Book) (once : (i j k : ℕ) → Same i j → Same i k → j ≡ k)
    (screens : (s t : ℕ) → SameScreen s t → SameOption (λ u v. Same u.image v.image) (screen_numbered a s) (screen_numbered b t))
    (closed : (i j s : ℕ) → Same i j → refers_to i (screen_numbered a s) ≡ true → (t : ℕ) × SameScreen s t) where
  is_there : (i j : ℕ) → Same i j → (o q : Option Filled) → SameOption (λ u v. Same u.image v.image) o q → is_on i o ≡ true → is_on j q ≡ true
  is_there i j is (Some u) (Some v) both on = eq-eqb v.image j (once i v.image j (subst (λ (k : ℕ). Same k v.image) (eqb-true u.image i on) both) is)
  is_there i j is None q both on = absurd cc
  is_there i j is (Some u) None both on = absurd both

  refers : (i : ℕ) (o : Option Filled) → is_on i o ≡ true → refers_to i o ≡ true
  refers i (Some u) on = first_true (u.image == i) (u.fill == i) on
  refers i None on = absurd cc

  hosts_way : (i j : ℕ) → Same i j → has_screen a i ≡ true → has_screen b j ≡ true
  hosts_way i j is has =
      let at = found_at (is_on i) a.screens None has in
      let other = closed i j at.0 is (refers i (screen_numbered a at.0) at.1) in
      any-at (is_on j) b.screens other.0 None refl (is_there i j is (screen_numbered a at.0) (screen_numbered b other.0) (screens at.0 other.0 other.1) at.1)

pub flipped : {A B : Type 0} (P : A → B → Type 0) (o : Option A) (q : Option B) → SameOption P o q → SameOption (λ y x. P x y) q o
flipped P (Some x) (Some y) both = both
flipped P None None both = tt
flipped P (Some x) None both = absurd both
flipped P None (Some y) both = absurd both

-- a book with the same ids and ties as another
pub numbers_again : (book next : Book) → next.image_ids ≡ book.image_ids → next.ties ≡ book.ties → next.next_tie ≡ book.next_tie → AreNumbered book → AreNumbered next
numbers_again book next ids ties count old = record {
  given = rw (ties, count) old.given;
  once = rw ties old.once;
  known = rw (ids, count) old.known;
  shown = rw (ids, ties) old.shown;
}

module _ (Same SameScreen : ℕ → ℕ → Type 0) (c : ℕ) (window : Option (ℕ × List ℕ)) (a b : Book) (like : AreLikeBooks Same SameScreen c window a b)
    (once : (i j k : ℕ) → Same i j → Same i k → j ≡ k) (alone : (i j k : ℕ) → Same i k → Same j k → i ≡ j) where
  -- ---- an image goes

  module _ (m n : ℕ) (both : Same m n) (unused_a : is_used a (Image m) ≡ false) (unused_b : is_used b (Image n) ≡ false) (ties_a : HasTies a) (ties_b : HasTies b) where
    abbrev Less : ℕ → ℕ → Type 0
    Less i j = But Same m i j

    abbrev x : Book
    x = without a (Image m)

    abbrev y : Book
    y = without b (Image n)

    no_ids : list_any (λ e. e.image == m) a.image_ids ≡ false
    no_ids = (or_parts (list_any (λ e. e.image == m) a.image_ids) (list_any (refers_to m) a.screens) unused_a).0

    no_screens : list_any (refers_to m) a.screens ≡ false
    no_screens = (or_parts (list_any (λ e. e.image == m) a.image_ids) (list_any (refers_to m) a.screens) unused_a).1

    other_right : (i j : ℕ) → Less i j → j ≢ n
    other_right i j is at = is.1 (alone i m n (subst (λ (k : ℕ). Same i k) at is.0) both)

    id_less : (e f : ImageId) → e.image ≢ m → SameId Same a b e f → SameId Less x y e f
    id_less e f apart one = record { image = (one.image, apart); tied = one.tied; stale = one.stale }

    ids_less : (k other : ℕ) (l : ℕ) → SameOption (SameId Same a b) (image_id a k other) (image_id b l other) → SameOption (SameId Less x y) (image_id x k other) (image_id y l other)
    ids_less k other l old =
        each_found (SameId Same a b) (SameId Less x y) (image_id a k other) (image_id b l other)
        (λ e f found there one. id_less e f (found_apart _ (λ e. e.image) a.image_ids e m found no_ids) one) old

    tie_apart : (name : List ℕ) (s : Tie) → tie_of a name ≡ Some s → s.image ≢ m
    tie_apart name s found at =
        not_both (is_used a (Image m)) (subst (λ (k : ℕ). is_used a (Image k) ≡ true) at (tie_of-shown a name s ties_a found)) unused_a

    hold_less : (serial : ℕ) (name : List ℕ) → window ≡ Some (serial, name) → SameHold Less x y serial name
    hold_less serial name is =
        let old = like.hold serial name is in
        record {
          id = ids_less manager serial manager old.id;
          tie =
              each_found (SameTie Same serial) (SameTie Less serial) (tie_of a name) (tie_of b name)
              (λ s t found there one. record { image = (one.image, tie_apart name s found); left = one.left; right = one.right }) old.tie;
        }

    ground_apart : (s : ℕ) (u : Filled) → screen_numbered a s ≡ Some u → (u.image ≢ m) × (u.fill ≢ m)
    ground_apart s u found = (
      λ at. none (first_true (u.image == m) (u.fill == m) (eq-eqb u.image m at)),
      λ at. none (second_true (u.image == m) (u.fill == m) (eq-eqb u.fill m at)),
    )
      where
        none : refers_to m (Some u) ≡ true → ⊥
        none refers = not_both (list_any (refers_to m) a.screens) (any-at (refers_to m) a.screens s None refl (ap (refers_to m) found ∙ refers)) no_screens

    screens_less : (s t : ℕ) → SameScreen s t → SameOption (SameScreens Less) (screen_numbered x s) (screen_numbered y t)
    screens_less s t is =
        each_found (SameScreens Same) (SameScreens Less) (screen_numbered a s) (screen_numbered b t)
        (λ u v found there one. let apart = ground_apart s u found in record { image = (one.image, apart.0); fill = (one.fill, apart.1) }) (like.screens s t is)

    stays_on : (ws : List OnScreen) (gone i : ℕ) → i ≢ gone → find (λ w. w.image == i) (filter (λ w. not (w.image == gone)) ws) ≡ find (λ w. w.image == i) ws
    stays_on ws gone i apart =
        find-filter (λ w. w.image == i) (λ w. not (w.image == gone)) ws (λ w at. is_not w.image gone (λ is. apart (sym (eqb-true w.image i at) ∙ is)))

    place_less : (s t : ℕ) → SamePlace SameScreen a b s t → SamePlace SameScreen x y s t
    place_less s t (SamePlace.on_own own) = SamePlace.on_own own
    place_less s t (SamePlace.on_root left right) = SamePlace.on_root left right

    windows_less : (i j : ℕ) → Less i j → SameOption (SamePlace SameScreen x y) (screen_of x i) (screen_of y j)
    windows_less i j is =
        rw (stays_on a.windows m i is.1, stays_on b.windows n j (other_right i j is))
        (each_option (SamePlace SameScreen a b) (SamePlace SameScreen x y) place_less (screen_of a i) (screen_of b j) (like.windows i j is.0))

    stand_less_left : All (λ w. (t : ℕ) → SameScreen w.screen t → (j : ℕ) × Less w.image j) x.windows
    stand_less_left =
        let old = All-filter (λ w. not (w.image == m)) (λ w. (t : ℕ) → SameScreen w.screen t → (j : ℕ) × Same w.image j) a.windows like.stand_left in
        let passes = filter_passes (λ (w : OnScreen). not (w.image == m)) a.windows in
        λ k d lt t is. let on = old k d lt t is in (on.0, (on.1, not_one (get_or x.windows k d).image m (passes k d lt)))

    stand_less_right : All (λ w. (s : ℕ) → SameScreen s w.screen → (i : ℕ) × Less i w.image) y.windows
    stand_less_right =
        let old = All-filter (λ w. not (w.image == n)) (λ w. (s : ℕ) → SameScreen s w.screen → (i : ℕ) × Same i w.image) b.windows like.stand_right in
        let passes = filter_passes (λ (w : OnScreen). not (w.image == n)) b.windows in
        λ k d lt s is.
        let on = old k d lt s is in
        let image : ℕ = (get_or y.windows k d).image in
        (on.0, (on.1, λ at. not_one image n (passes k d lt) (once m image n (subst (λ (l : ℕ). Same l image) at on.1) both)))

    pub image_lost : AreLikeBooks Less SameScreen c window x y
    image_lost = record {
      ids = λ k other few nonzero. ids_less (client c k) other (client 1 k) (like.ids k other few nonzero);
      screen_ids = like.screen_ids;
      hold = hold_less;
      once = like.once;
      alone = like.alone;
      screens = screens_less;
      there = like.there;
      not_root = like.not_root;
      windows = windows_less;
      hosts = λ i j is. like.hosts i j is.0;
      closed_left = λ i j s is refers. like.closed_left i j s is.0 refers;
      closed_right = λ i j t is refers. like.closed_right i j t is.0 refers;
      owned_left = λ k d lt j is. like.owned_left k d lt j is.0;
      owned_right = λ k d lt i is. like.owned_right k d lt i is.0;
      made_left = like.made_left;
      made_right = like.made_right;
      stand_left = stand_less_left;
      stand_right = stand_less_right;
      untied_left = like.untied_left;
      untied_right = like.untied_right;
      names_left = like.names_left;
      names_right = like.names_right;
      numbers_left = numbers_again a x refl refl refl like.numbers_left;
      numbers_right = numbers_again b y refl refl refl like.numbers_right;
    }

  -- ---- a screen goes

  set_none : (xs : List (Option Filled)) (s : ℕ) → slice_index_or (slice_set xs s None) s None ≡ None
  set_none [] s = refl
  set_none (x ∷ xs) zero = refl
  set_none (x ∷ xs) (suc s) = set_none xs s

  module _ (s t : ℕ) (both : SameScreen s t) (unused_a : is_used a (Screen s) ≡ false) (unused_b : is_used b (Screen t) ≡ false) where
    abbrev LessScreen : ℕ → ℕ → Type 0
    LessScreen u v = But SameScreen s u v

    abbrev left : Book
    left = without a (Screen s)

    abbrev right : Book
    right = without b (Screen t)

    no_screen_ids : list_any (λ e. e.screen == s) a.screen_ids ≡ false
    no_screen_ids = (or_parts (list_any (λ e. e.screen == s) a.screen_ids) (list_any (λ w. w.screen == s) a.windows) unused_a).0

    screen_right : (u v : ℕ) → LessScreen u v → v ≢ t
    screen_right u v is at = is.1 (like.alone u s t (subst (λ (k : ℕ). SameScreen u k) at is.0) both)

    others_left : (u : ℕ) → u ≢ s → screen_numbered left u ≡ screen_numbered a u
    others_left u apart = other_screen a (Screen s) u (false_from_ne_true (u == s) (λ at. apart (eqb-true u s at)))

    others_right : (v : ℕ) → v ≢ t → screen_numbered right v ≡ screen_numbered b v
    others_right v apart = other_screen b (Screen t) v (false_from_ne_true (v == t) (λ at. apart (eqb-true v t at)))

    id_same : (e f : ImageId) → SameId Same a b e f → SameId Same left right e f
    id_same e f one = record { image = one.image; tied = one.tied; stale = one.stale }

    place_found : (i : ℕ) (u v : ℕ) → screen_of a i ≡ Some u → SamePlace SameScreen a b u v → SamePlace LessScreen left right u v
    place_found i u v on (SamePlace.on_own own) =
        SamePlace.on_own (own, λ at. not_both (is_used a (Screen s)) (subst (λ (k : ℕ). is_used a (Screen k) ≡ true) at (stands_used a i u on)) unused_a)
    place_found i u v on (SamePlace.on_root one other) = SamePlace.on_root one other

    screens_fewer : (u v : ℕ) → LessScreen u v → SameOption (SameScreens Same) (screen_numbered left u) (screen_numbered right v)
    screens_fewer u v is = rw (others_left u is.1, others_right v (screen_right u v is)) (like.screens u v is.0)

    closed_fewer_left : (i j u : ℕ) → Same i j → refers_to i (screen_numbered left u) ≡ true → (v : ℕ) × LessScreen u v
    closed_fewer_left i j u is refers = by (u == s) refl
      where
        by : (gone : Bool) → (u == s) ≡ gone → (v : ℕ) × LessScreen u v
        by true at =
            let none : refers_to i None ≡ true = ap (refers_to i) (sym (set_none a.screens s)) ∙ ap (λ (k : ℕ). refers_to i (screen_numbered left k)) (sym (eqb-true u s at)) ∙ refers in
            absurd cc
        by false at =
            let apart : u ≢ s = eqb-false u s at in
            let old = like.closed_left i j u is (ap (refers_to i) (sym (others_left u apart)) ∙ refers) in
            (old.0, (old.1, apart))

    closed_fewer_right : (i j v : ℕ) → Same i j → refers_to j (screen_numbered right v) ≡ true → (u : ℕ) × LessScreen u v
    closed_fewer_right i j v is refers = by (v == t) refl
      where
        by : (gone : Bool) → (v == t) ≡ gone → (u : ℕ) × LessScreen u v
        by true at =
            let none : refers_to j None ≡ true = ap (refers_to j) (sym (set_none b.screens t)) ∙ ap (λ (k : ℕ). refers_to j (screen_numbered right k)) (sym (eqb-true v t at)) ∙ refers in
            absurd cc
        by false at =
            let apart : v ≢ t = eqb-false v t at in
            let old = like.closed_right i j v is (ap (refers_to j) (sym (others_right v apart)) ∙ refers) in
            (old.0, (old.1, λ is. apart (like.once s v t (subst (λ (k : ℕ). SameScreen k v) is old.1) both)))

    images_on : (u v : ℕ) → LessScreen u v → SameOption (λ f g. Same f.image g.image) (screen_numbered left u) (screen_numbered right v)
    images_on u v is = each_option (SameScreens Same) (λ f g. Same f.image g.image) (λ f g one. one.image) _ _ (screens_fewer u v is)

    hosts_fewer : (i j : ℕ) → Same i j → has_screen left i ≡ has_screen right j
    hosts_fewer i j is =
        both_ways (has_screen left i) (has_screen right j)
        (hosts_way Same LessScreen left right once images_on closed_fewer_left i j is)
        (hosts_way (λ j i. Same i j) (λ v u. LessScreen u v) right left (λ j i k one other. alone i k j one other)
        (λ v u is. flipped (λ f g. Same f.image g.image) _ _ (images_on u v is)) (λ j i v one refers. closed_fewer_right i j v one refers) j i is)

    pub screen_lost : AreLikeBooks Same LessScreen c window left right
    screen_lost = record {
      ids = λ k other few nonzero. each_option (SameId Same a b) (SameId Same left right) id_same _ _ (like.ids k other few nonzero);
      screen_ids = λ k other few.
          each_found (SameScreenId SameScreen) (SameScreenId LessScreen) (screen_id a (client c k) other) (screen_id b (client 1 k) other)
          (λ e f found there one. record { screen = (one.screen, found_apart _ (λ e. e.screen) a.screen_ids e s found no_screen_ids); left = one.left; right = one.right }) (like.screen_ids k other few);
      hold = λ serial name is. let old = like.hold serial name is in record { id = each_option (SameId Same a b) (SameId Same left right) id_same _ _ old.id; tie = old.tie };
      once = λ u v w is other. like.once u v w is.0 other.0;
      alone = λ u v w is other. like.alone u v w is.0 other.0;
      screens = screens_fewer;
      there = λ u v is. ap is_some (others_left u is.1) ∙ like.there u v is.0;
      not_root = λ u v is. like.not_root u v is.0;
      windows = λ i j is.
          each_found (SamePlace SameScreen a b) (SamePlace LessScreen left right) (screen_of a i) (screen_of b j) (λ u v on there place. place_found i u v on place) (like.windows i j is);
      hosts = hosts_fewer;
      closed_left = closed_fewer_left;
      closed_right = closed_fewer_right;
      owned_left = like.owned_left;
      owned_right = like.owned_right;
      made_left = λ k d lt v is. like.made_left k d lt v is.0;
      made_right = λ k d lt u is. like.made_right k d lt u is.0;
      stand_left = λ k d lt v is. like.stand_left k d lt v is.0;
      stand_right = λ k d lt u is. like.stand_right k d lt u is.0;
      untied_left = like.untied_left;
      untied_right = like.untied_right;
      names_left = like.names_left;
      names_right = like.names_right;
      numbers_left = numbers_again a left refl refl refl like.numbers_left;
      numbers_right = numbers_again b right refl refl refl like.numbers_right;
    }
