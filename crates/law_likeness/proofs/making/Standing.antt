-- Images that stand where the book has them: what they stand on is used, and lives.
use Rattle.std.proofs.Common.{◌≡◌, ℕ, true, Option, Some, None, refl, sym, subst, ◌∙◌, eq-eqb}
use Rattle.std.specs.Prelude.{◌==◌, find, is_some, option_map}
use Rattle.std.specs.List.{list_any}
use Rattle.std.specs.Option.{option_map_or}
use Rattle.model_forest.specs.declared.Standing.{Standing}
use Rattle.model_forest.specs.World.{IsLive, fill_of as fill_at, parent_of}
use Rattle.model_draw_parts.specs.declared.images.OnScreen.{OnScreen}
use Rattle.model_draw_parts.specs.declared.images.Screen.{Screen as Filled}
use Rattle.model_draw_parts.specs.declared.images.Thing.TheVariants.{Image, Screen}
use Rattle.model_draw_parts.specs.images.Book.{Book, fill_of, image_of, screen_numbered, screen_of}
use Rattle.model_draw_parts.specs.images.Release.{is_used, refers_to}
use Rattle.model_draw_parts.proofs.images.Freed.{any-at}
use Rattle.model_draw.specs.draw.World.{World, at_number}
use Rattle.law_shown.proofs.shown.Tests.{find-any, first_true, second_true}
use Rattle.law_likeness.specs.making.Standing.{IsStanding, standing_on}

-- a window uses its screen
pub stands_used : (book : Book) (n s : ℕ) → screen_of book n ≡ Some s → is_used book (Screen s) ≡ true
stands_used book n s on = second_true (list_any (λ e. e.screen == s) book.screen_ids) _ (by (find (λ w. w.image == n) book.windows) refl on)
  where
    by : (o : Option OnScreen) → find (λ w. w.image == n) book.windows ≡ o → option_map (λ w. w.screen) o ≡ Some s → list_any (λ w. w.screen == s) book.windows ≡ true
    by None found on = absurd cc
    by (Some w) found on =
        let same : w.screen ≡ s = cc in
        find-any (λ w. w.image == n) (λ w. w.screen == s) book.windows w found (eq-eqb w.screen s same)

-- a screen that is there uses its image and its fill
pub record GroundUsed (book : Book) (s : ℕ) : Type 0 where
  pub image : is_used book (Image (image_of book s)) ≡ true
  pub fill : is_used book (Image (fill_of book s)) ≡ true

pub ground_used : (book : Book) (s : ℕ) → is_some (screen_numbered book s) ≡ true → GroundUsed book s
ground_used book s there = record {
  image = referred (image_of book s) (by_image (screen_numbered book s) there);
  fill = referred (fill_of book s) (by_fill (screen_numbered book s) there);
}
  where
    referred : (i : ℕ) → refers_to i (screen_numbered book s) ≡ true → is_used book (Image i) ≡ true
    referred i is = second_true (list_any (λ e. e.image == i) book.image_ids) _ (any-at (refers_to i) book.screens s None refl is)

    by_image : (o : Option Filled) → is_some o ≡ true → refers_to (option_map_or (λ (e : Filled). e.image) o 0) o ≡ true
    by_image (Some f) there = first_true (f.image == f.image) _ (eq-eqb f.image f.image refl)
    by_image None there = absurd cc

    by_fill : (o : Option Filled) → is_some o ≡ true → refers_to (option_map_or (λ (e : Filled). e.fill) o 0) o ≡ true
    by_fill (Some f) there = second_true (f.image == f.fill) (f.fill == f.fill) (eq-eqb f.fill f.fill refl)
    by_fill None there = absurd cc

module _ (w : World) (standing : IsStanding w) where
  -- what an image stands on, and what uncovers it, is used
  pub stood_used : (n : ℕ) (at : Standing) → IsLive w.images n → (at_number w n).standing ≡ Some at
      → (is_used w.book (Image at.parent) ≡ true) × (is_used w.book (Image at.fill) ≡ true)
  stood_used n at live stands = by (screen_of w.book n) refl (sym (standing.stands n live) ∙ stands)
    where
      by : (o : Option ℕ) → screen_of w.book n ≡ o → option_map (standing_on w.book) o ≡ Some at
          → (is_used w.book (Image at.parent) ≡ true) × (is_used w.book (Image at.fill) ≡ true)
      by None on is = absurd cc
      by (Some s) on is =
          let same : standing_on w.book s ≡ at = cc in
          let ground = ground_used w.book s (standing.screens s (stands_used w.book n s on)) in
          subst (λ (x : Standing). (is_used w.book (Image x.parent) ≡ true) × (is_used w.book (Image x.fill) ≡ true)) same (ground.image, ground.fill)

  pub parent_used : (n p : ℕ) → IsLive w.images n → parent_of w.images n ≡ Some p → is_used w.book (Image p) ≡ true
  parent_used n p live stands = by (at_number w n).standing refl stands
    where
      by : (o : Option Standing) → (at_number w n).standing ≡ o → option_map (λ s. s.parent) o ≡ Some p → is_used w.book (Image p) ≡ true
      by None at is = absurd cc
      by (Some s) at is =
          let same : s.parent ≡ p = cc in
          subst (λ (k : ℕ). is_used w.book (Image k) ≡ true) same (stood_used n s live at).0

  -- of a window, which stands somewhere
  pub fill_used : (n p : ℕ) → IsLive w.images n → parent_of w.images n ≡ Some p → is_used w.book (Image (fill_at w.images n)) ≡ true
  fill_used n p live stands = by (at_number w n).standing refl stands
    where
      by : (o : Option Standing) → (at_number w n).standing ≡ o → option_map (λ s. s.parent) o ≡ Some p → is_used w.book (Image (option_map_or (λ s. s.fill) (at_number w n).standing 0)) ≡ true
      by None at is = absurd cc
      by (Some s) at is =
          subst (λ (x : Option Standing). is_used w.book (Image (option_map_or (λ s. s.fill) x 0)) ≡ true) (sym at) (stood_used n s live at).1

  pub parent_lives : (n p : ℕ) → IsLive w.images n → parent_of w.images n ≡ Some p → IsLive w.images p
  parent_lives n p live stands = standing.live p (parent_used n p live stands)
