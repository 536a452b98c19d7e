-- Images stand where the book has them after one has gone, or a screen.
use Rattle.std.proofs.Common.{◌≡◌, ◌≢◌, ℕ, zero, suc, Bool, true, false, List, [], ◌∷◌, Option, Some, None, inl, inr, refl, sym, ap, subst, ◌∙◌, eq-eqb}
use Rattle.std.specs.Prelude.{◌==◌, All, find, get_or, is_some, not, option_map, slice_set}
use Rattle.std.specs.List.{list_any}
use Rattle.std.specs.Option.{option_map_or}
use Rattle.std.proofs.lemmas.Bool.{eqb-true, eqb-false, false_from_ne_true}
use Rattle.std.proofs.lemmas.List.Elements.{All-filter, filter_passes}
use Rattle.model_forest.specs.declared.Standing.{Standing as Stood}
use Rattle.model_forest.specs.declared.Window.{Window}
use Rattle.model_forest.specs.World.{Image as ImageState, World as Images, IsLive, fill_of as fill_at, image_at, parent_of}
use Rattle.model_forest.specs.Stack.{with_windows, without as without_window}
use Rattle.model_forest.specs.Steps.{after_list, after_release}
use Rattle.model_forest.proofs.Releasing.{released-frame, released-live, released-none}
use Rattle.model_draw_parts.specs.declared.images.OnScreen.{OnScreen}
use Rattle.model_draw_parts.specs.declared.images.Screen.{Screen as Filled}
use Rattle.model_draw_parts.specs.declared.images.Thing.TheVariants.{Image, Screen}
use Rattle.model_draw_parts.specs.images.Book.{screen_numbered, screen_of}
use Rattle.model_draw_parts.specs.images.Release.{is_used, refers_to, without}
use Rattle.model_draw_parts.proofs.images.Freed.{other_screen}
use Rattle.model_draw.specs.draw.World.{World, at_number, with_book, without_thing}
use Rattle.law_likeness.specs.renamed.Renamed.{IsLoose}
use Rattle.law_likeness.proofs.renamed.Changes.{at_changed, at_others}
use Rattle.law_shown.proofs.shown.Tests.{either_true, find-filter, first_true, not_both, same_Some, second_true}
use Rattle.law_likeness.specs.making.Standing.{IsStanding, standing_on}
use Rattle.law_likeness.proofs.making.Standing.{fill_used, parent_lives, parent_used, stands_used}
use Rattle.law_likeness.proofs.losing.Losing.{is_not, not_one}
use Rattle.law_likeness.proofs.losing.Forgetting.{any_filtered}

-- ---- lists of windows

-- what is in a list after a release was in it before, and the image that went is not in it
windows_after : (world : Images) (m i : ℕ) → i ≢ m → (Q : Window → Type 0) → ((w : Window) → Q w → parent_of world w.image ≡ Some i) → All Q (image_at world i).windows
    → All (λ w. Q w × (w.image ≢ m)) (image_at (after_release world m) i).windows
unfolding after_release
windows_after world m i apart Q on all =
    subst (λ (x : ImageState). All (λ w. Q w × (w.image ≢ m)) x.windows) (sym (at_others (after_list world m (without_window m)) m i None apart)) (by (parent_of world m) refl)
  where
    -- where it did not stand
    elsewhere : (parent_of world m ≡ Some i → ⊥) → All (λ w. Q w × (w.image ≢ m)) (image_at world i).windows
    elsewhere other k d lt =
        let w : Window = get_or (image_at world i).windows k d in
        (all k d lt, λ at. other (ap (parent_of world) (sym at) ∙ on w (all k d lt)))

    here : All (λ w. Q w × (w.image ≢ m)) (without_window m (image_at world i).windows)
    here =
        let old = All-filter (λ w. not (w.image == m)) Q (image_at world i).windows all in
        let passes = filter_passes (λ (w : Window). not (w.image == m)) (image_at world i).windows in
        λ k d lt. (old k d lt, not_one (get_or (without_window m (image_at world i).windows) k d).image m (passes k d lt))

    by : (o : Option ℕ) → parent_of world m ≡ o
        → All (λ w. Q w × (w.image ≢ m)) (image_at (option_map_or (λ p. with_windows world p (without_window m (image_at world p).windows)) o world) i).windows
    by None at = elsewhere (λ is. let none = sym at ∙ is in absurd cc)
    by (Some p) at = on_parent (i == p) refl
      where
        on_parent : (is : Bool) → (i == p) ≡ is → All (λ w. Q w × (w.image ≢ m)) (image_at (with_windows world p (without_window m (image_at world p).windows)) i).windows
        on_parent true is =
            let P : ℕ → Type 0 = λ q. All (λ w. Q w × (w.image ≢ m)) (image_at (with_windows world q (without_window m (image_at world q).windows)) i).windows in
            subst P (eqb-true i p is)
            (subst (λ (x : ImageState). All (λ w. Q w × (w.image ≢ m)) x.windows) (sym (at_changed world i _)) here)
        on_parent false is =
            subst (λ (x : ImageState). All (λ w. Q w × (w.image ≢ m)) x.windows) (sym (at_others world p i _ (eqb-false i p is)))
            (elsewhere (λ stood. eqb-false i p is (same_Some i p (sym stood ∙ at))))

-- ---- an image goes

module _ (w : World) (standing : IsStanding w) (m : ℕ) (live : IsLive w.images m) (unused : is_used w.book (Image m) ≡ false) where
  abbrev next : World
  next = with_book (without_thing w (Image m)) (without w.book (Image m))

  other : (n : ℕ) → n ≢ m → is_some (next.images n) ≡ is_some (w.images n)
  other n apart = released-live w.images m n (λ p stands. parent_lives w standing m p live stands) (false_from_ne_true (n == m) (λ at. apart (eqb-true n m at)))

  -- what lives is another, and did
  lives_other : (n : ℕ) → IsLive next.images n → n ≢ m
  lives_other n lives at = not_both (is_some (next.images n)) lives (ap is_some (released-none w.images m n (eq-eqb n m at)))

  lived : (n : ℕ) → IsLive next.images n → IsLive w.images n
  lived n lives = sym (other n (lives_other n lives)) ∙ lives

  lives : (n : ℕ) → n ≢ m → IsLive w.images n → IsLive next.images n
  lives n apart was = other n apart ∙ was

  not_used : (n : ℕ) → is_used w.book (Image n) ≡ true → n ≢ m
  not_used n used at = not_both (is_used w.book (Image m)) (ap (λ (k : ℕ). is_used w.book (Image k)) (sym at) ∙ used) unused

  stood : (n : ℕ) → n ≢ m → (at_number next n).standing ≡ (at_number w n).standing
  stood n apart = (released-frame w.images m n (false_from_ne_true (n == m) (λ at. apart (eqb-true n m at)))).standing

  on_screen : (n : ℕ) → n ≢ m → screen_of next.book n ≡ screen_of w.book n
  on_screen n apart =
      ap (λ (o : Option OnScreen). option_map (λ v. v.screen) o)
      (find-filter (λ v. v.image == n) (λ v. not (v.image == m)) w.book.windows (λ v at. is_not v.image m (λ is. apart (sym (eqb-true v.image n at) ∙ is))))

  image_windows : (i : ℕ) → IsLive next.images i → All (λ v. (IsLive w.images v.image × (parent_of w.images v.image ≡ Some i)) × (v.image ≢ m)) (at_number next i).windows
  image_windows i lives =
      windows_after w.images m i (lives_other i lives) (λ v. IsLive w.images v.image × (parent_of w.images v.image ≡ Some i)) (λ v one. one.1) (standing.windows i (lived i lives))

  pub image_standing : IsStanding next
  image_standing = record {
    live = λ i used. lives i (not_used i used) (standing.live i used);
    screens = λ s used. standing.screens s (used_before s used);
    stands = λ n alive. let apart = lives_other n alive in stood n apart ∙ standing.stands n (lived n alive) ∙ ap (option_map (standing_on w.book)) (sym (on_screen n apart));
    windows = λ i alive k d lt.
        let v : Window = get_or (at_number next i).windows k d in
        let one = image_windows i alive k d lt in
        (lives v.image one.1 one.0.0, ap (option_map (λ (s : Stood). s.parent)) (stood v.image one.1) ∙ one.0.1);
    placed =
        (let old = All-filter (λ v. not (v.image == m)) (λ v. IsLive w.images v.image) w.book.windows standing.placed in
        let passes = filter_passes (λ (v : OnScreen). not (v.image == m)) w.book.windows in
        λ k d lt. lives (get_or next.book.windows k d).image (not_one (get_or next.book.windows k d).image m (passes k d lt)) (old k d lt));
    finds = record {
      image_ids = standing.finds.image_ids;
      screen_ids = standing.finds.screen_ids;
      windows =
          (let old = All-filter (λ v. not (v.image == m)) (λ v. find (λ u. u.image == v.image) w.book.windows ≡ Some v) w.book.windows standing.finds.windows in
          let passes = filter_passes (λ (v : OnScreen). not (v.image == m)) w.book.windows in
          λ k d lt.
          let v : OnScreen = get_or next.book.windows k d in
          find-filter (λ u. u.image == v.image) (λ u. not (u.image == m)) w.book.windows
          (λ u at. is_not u.image m (λ is. not_one v.image m (passes k d lt) (sym (eqb-true u.image v.image at) ∙ is))) ∙ old k d lt);
    };
  }
    where
      used_before : (s : ℕ) → is_used next.book (Screen s) ≡ true → is_used w.book (Screen s) ≡ true
      used_before s used = elim (either_true (list_any (λ e. e.screen == s) w.book.screen_ids) _ used) [
        | inl ids ↦ first_true _ _ ids
        | inr windows ↦ second_true (list_any (λ e. e.screen == s) w.book.screen_ids) _ (any_filtered (λ (v : OnScreen). v.screen == s) (λ v. not (v.image == m)) w.book.windows windows)
      ]

  -- nothing stands on it or is uncovered with it
  pub image_loose : IsLoose next.images m
  image_loose = record {
    parents = λ i p alive stands.
        not_used p (parent_used w standing i p (lived i alive) (sym (ap (option_map (λ (s : Stood). s.parent)) (stood i (lives_other i alive))) ∙ stands));
    windows = λ i alive k d lt.
        let v : Window = get_or (at_number next i).windows k d in
        let one = image_windows i alive k d lt in (
          one.1,
          subst (λ (o : Option Stood). option_map_or (λ s. s.fill) o 0 ≢ m) (sym (stood v.image one.1)) (not_used (fill_at w.images v.image) (fill_used w standing v.image i one.0.0 one.0.1)),
        );
  }

-- ---- a screen goes

module _ (w : World) (standing : IsStanding w) (s : ℕ) (unused : is_used w.book (Screen s) ≡ false) where
  abbrev less : World
  less = with_book (without_thing w (Screen s)) (without w.book (Screen s))

  any_set : (p : Option Filled → Bool) (xs : List (Option Filled)) (n : ℕ) → p None ≡ false → list_any p (slice_set xs n None) ≡ true → list_any p xs ≡ true
  any_set p [] n none some = some
  any_set p (x ∷ xs) zero none some = elim (either_true (p None) _ some) [
    | inl here ↦ absurd (not_both (p None) here none)
    | inr there ↦ second_true (p x) _ there
  ]
  any_set p (x ∷ xs) (suc n) none some = elim (either_true (p x) _ some) [
    | inl here ↦ first_true (p x) _ here
    | inr there ↦ second_true (p x) _ (any_set p xs n none there)
  ]

  used_before : (i : ℕ) → is_used less.book (Image i) ≡ true → is_used w.book (Image i) ≡ true
  used_before i used = elim (either_true (list_any (λ e. e.image == i) w.book.image_ids) _ used) [
    | inl ids ↦ first_true _ _ ids
    | inr screens ↦ second_true (list_any (λ e. e.image == i) w.book.image_ids) _ (any_set (refers_to i) w.book.screens s refl screens)
  ]

  apart : (u : ℕ) → is_used w.book (Screen u) ≡ true → (u == s) ≡ false
  apart u used = false_from_ne_true (u == s) (λ at. not_both (is_used w.book (Screen s)) (ap (λ (k : ℕ). is_used w.book (Screen k)) (sym (eqb-true u s at)) ∙ used) unused)

  stays : (u : ℕ) → is_used w.book (Screen u) ≡ true → screen_numbered less.book u ≡ screen_numbered w.book u
  stays u used = other_screen w.book (Screen s) u (apart u used)

  ground : (n : ℕ) (o : Option ℕ) → screen_of w.book n ≡ o → option_map (standing_on w.book) o ≡ option_map (standing_on less.book) o
  ground n None on = refl
  ground n (Some u) on =
      ap (λ (x : Option Filled). Some (record { parent = option_map_or (λ (e : Filled). e.image) x 0; fill = option_map_or (λ (e : Filled). e.fill) x 0 })) (sym (stays u (stands_used w.book n u on)))

  pub screen_standing : IsStanding less
  screen_standing = record {
    live = λ i used. standing.live i (used_before i used);
    screens = λ u used. ap is_some (stays u used) ∙ standing.screens u used;
    stands = λ n alive. standing.stands n alive ∙ ground n (screen_of w.book n) refl;
    windows = standing.windows;
    placed = standing.placed;
    finds = record { image_ids = standing.finds.image_ids; screen_ids = standing.finds.screen_ids; windows = standing.finds.windows };
  }
