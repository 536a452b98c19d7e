-- What stands on the root rio's screen stands on an image that is the same as none.
use Rattle.std.proofs.Common.{◌≡◌, ℕ, true, List, Option, Some, None, refl, sym, ap, subst, ◌∙◌, eq-eqb}
use Rattle.std.specs.Prelude.{◌==◌, is_some, option_map}
use Rattle.std.specs.Option.{option_map_or}
use Rattle.model_forest.specs.declared.Standing.{Standing as Stood}
use Rattle.model_forest.specs.World.{IsLive, parent_of}
use Rattle.model_draw_parts.specs.declared.images.Screen.{Screen as Filled}
use Rattle.model_draw_parts.specs.images.Book.{Book, image_of, screen_numbered, screen_of}
use Rattle.model_draw_parts.specs.images.Release.{refers_to}
use Rattle.model_draw.specs.draw.World.{World}
use Rattle.law_likeness.specs.agreement.Agreement.{SameOption}
use Rattle.law_likeness.specs.renamed.Renamed.{IsApartLeft, IsApartRight}
use Rattle.law_likeness.proofs.renamed.Making.{StandsLive}
use Rattle.law_shown.proofs.shown.Tests.{first_true, not_both}
use Rattle.law_likeness.specs.likeness.Likeness.{AreLike, AreLikeBooks, SamePlace, is_root}
use Rattle.law_likeness.specs.making.Standing.{IsStanding, standing_on}
use Rattle.law_likeness.proofs.making.Standing.{parent_lives, stands_used}

-- ---- one device

pub stands_live : (w : World) → IsStanding w → StandsLive w.images
stands_live w standing i p live stands = parent_lives w standing i p live stands

-- the image of a screen that is there has the screen
pub ground_refers : (book : Book) (s : ℕ) → is_some (screen_numbered book s) ≡ true → refers_to (image_of book s) (screen_numbered book s) ≡ true
ground_refers book s there = by (screen_numbered book s) there
  where
    by : (o : Option Filled) → is_some o ≡ true → refers_to (option_map_or (λ (e : Filled). e.image) o 0) o ≡ true
    by None some = absurd cc
    by (Some e) some = first_true (e.image == e.image) (e.fill == e.image) (eq-eqb e.image e.image refl)

module _ (w : World) (standing : IsStanding w) (i s : ℕ) (live : IsLive w.images i) (on : screen_of w.book i ≡ Some s) where
  parent_is : parent_of w.images i ≡ Some (image_of w.book s)
  parent_is = ap (λ (o : Option Stood). option_map (λ x. x.parent) o) (standing.stands i live ∙ ap (λ (o : Option ℕ). option_map (standing_on w.book) o) on)

  pub parent_refers : (p : ℕ) → parent_of w.images i ≡ Some p → refers_to p (screen_numbered w.book s) ≡ true
  parent_refers p stands =
      let same : image_of w.book s ≡ p = some_is (image_of w.book s) p (sym parent_is ∙ stands) in
      subst (λ (n : ℕ). refers_to n (screen_numbered w.book s) ≡ true) same (ground_refers w.book s (standing.screens s (stands_used w.book i s on)))
    where
      some_is : (a b : ℕ) → ◌≡◌ {A = Option ℕ} (Some a) (Some b) → a ≡ b
      some_is a b at = cc

-- ---- both devices

-- what stands on the root rio's screen does so in both
pub record OnRoot (b : Book) (j : ℕ) : Type 0 where
  pub screen : ℕ
  pub on : screen_of b j ≡ Some screen
  pub root : is_root b screen ≡ true

module _ (Same SameScreen : ℕ → ℕ → Type 0) (c : ℕ) (window : Option (ℕ × List ℕ)) (a b : Book) (like : AreLikeBooks Same SameScreen c window a b) where
  pub root_apart_left : (s : ℕ) → is_root a s ≡ true → (p n : ℕ) → refers_to p (screen_numbered a s) ≡ true → Same p n → ⊥
  root_apart_left s root p n refers same =
      let own = like.closed_left p n s same refers in
      not_both (is_root a s) root (like.not_root s own.0 own.1).0

  pub root_apart_right : (t : ℕ) → is_root b t ≡ true → (q n : ℕ) → refers_to q (screen_numbered b t) ≡ true → Same n q → ⊥
  root_apart_right t root q n refers same =
      let own = like.closed_right n q t same refers in
      not_both (is_root b t) root (like.not_root own.0 t own.1).1

  pub on_root_too : (i j s : ℕ) → Same i j → screen_of a i ≡ Some s → is_root a s ≡ true → OnRoot b j
  on_root_too i j s same on root = by (screen_of a i) (screen_of b j) on refl (like.windows i j same)
    where
      place : (t u : ℕ) → screen_of b j ≡ Some t → u ≡ s → SamePlace SameScreen a b u t → OnRoot b j
      place t u at is (SamePlace.on_own own) = absurd (not_both (is_root a u) (ap (is_root a) is ∙ root) (like.not_root u t own).0)
      place t u at is (SamePlace.on_root left right) = record { screen = t; on = at; root = right }

      by : (o q : Option ℕ) → o ≡ Some s → screen_of b j ≡ q → SameOption (SamePlace SameScreen a b) o q → OnRoot b j
      by (Some u) (Some t) at there both = place t u there (some_is u s at) both
        where
          some_is : (x y : ℕ) → ◌≡◌ {A = Option ℕ} (Some x) (Some y) → x ≡ y
          some_is x y is = cc
      by None q at there both = absurd cc
      by (Some u) None at there both = absurd both

module _ (Same SameScreen : ℕ → ℕ → Type 0) (c : ℕ) (window : Option (ℕ × List ℕ)) (a b : World) (like : AreLike Same SameScreen c window a b) (left : IsStanding a) (right : IsStanding b) where
  pub window_apart_left : (i j s : ℕ) → Same i j → screen_of a.book i ≡ Some s → is_root a.book s ≡ true → IsApartLeft Same a.images i
  window_apart_left i j s same on root p n stands pair =
      root_apart_left Same SameScreen c window a.book b.book like.books s root p n (parent_refers a left i s (like.images.left i j same) on p stands) pair

  pub window_apart_right : (i j t : ℕ) → Same i j → screen_of b.book j ≡ Some t → is_root b.book t ≡ true → IsApartRight Same b.images j
  window_apart_right i j t same on root q n stands pair =
      root_apart_right Same SameScreen c window a.book b.book like.books t root q n (parent_refers b right j t (like.images.right i j same) on q stands) pair
