-- What an order that fits is about: windows whose images live, and rios whose screens do.
use Rattle.std.proofs.Common.{◌≡◌, ℕ, Bool, true, false, Option, Some, None, Result, Ok, Err, OnOk, OnErr, refl, sym, subst, arith}
use Rattle.std.specs.Prelude.{◌==◌, ◌&&◌, ◌^◌, is_some, not, option_map}
use Rattle.std.specs.Option.{option_map_or}
use Rattle.std.proofs.lemmas.Bool.Decides.{nat_tests}
use Rattle.std.proofs.lemmas.Int.{ints}
use Rattle.r9_geom.specs.declared.Rect.{Rect}
use Rattle.r9_geom.specs.Geometry.{HasPoints, IsRectNearBy, is_empty}
use Rattle.model_draw_parts.specs.declared.images.ImageId.{ImageId}
use Rattle.model_draw_parts.specs.declared.images.ScreenId.{ScreenId}
use Rattle.model_draw_parts.specs.declared.images.Thing.TheVariants.{Screen}
use Rattle.model_draw_parts.specs.images.Book.{Book, fill_of, image_id, new_screen, screen, screen_id, screen_numbered}
use Rattle.model_text.specs.text.Outcome.{value_or_refuse}
use Rattle.model_forest.specs.World.{World as Images}
use Rattle.model_draw_parts.specs.images.Release.{is_used}
use Rattle.model_draw.specs.draw.World.{World}
use Rattle.model_draw.specs.draw.Making.{farthest, is_near_rect, is_window}
use Rattle.model_draw.specs.draw.Orders.{has_rio, has_window, image_shown, inside_border, is_window_rect, rio_screen}
use Rattle.r9_device.specs.device.Kept.{IsKept}
use Rattle.r9_device.specs.device.Spare.{AreSpare}
use Rattle.r9_device.proofs.device.Screens.{kept-screened, spare-screened}
use Rattle.r9_device.proofs.device.Lookups.{fill-of-used, find-any, first_true, shown-used}
use Rattle.r9_device.proofs.device.Rects.{near-of, points-of}

-- ---- windows

window-tests : (a b c : Bool) → (not a && b && c) ≡ true → (a ≡ false) × (b ≡ true) × (c ≡ true)
window-tests false true true h = (refl, refl, refl)
window-tests false true false h = absurd cc
window-tests false false c h = absurd cc
window-tests true b c h = absurd cc

pub window-some : (w : World) (window : ℕ) → has_window w window ≡ true → (window == 0) ≡ false
window-some w window h = (window-tests (window == 0) (is_some (image_id w.book 0 window)) (is_window w (image_shown w window)) h).0

pub window-known : (w : World) (window : ℕ) → has_window w window ≡ true → is_some (image_id w.book 0 window) ≡ true
window-known w window h = (window-tests (window == 0) (is_some (image_id w.book 0 window)) (is_window w (image_shown w window)) h).1

pub window-stands : (w : World) (window : ℕ) → has_window w window ≡ true → is_window w (image_shown w window) ≡ true
window-stands w window h = (window-tests (window == 0) (is_some (image_id w.book 0 window)) (is_window w (image_shown w window)) h).2

-- the image that is shown of an id that is known
pub shown-of : (w : World) (window : ℕ) → is_some (image_id w.book 0 window) ≡ true → option_map (λ e. e.image) (image_id w.book 0 window) ≡ Some (image_shown w window)
shown-of w window h = by (image_id w.book 0 window) h
  where
    by : (o : Option ImageId) → is_some o ≡ true → option_map (λ e. e.image) o ≡ Some (option_map_or (λ e. e.image) o 0)
    by (Some x) h = refl
    by None h = absurd cc

pub shown-lives : (w : World) (window : ℕ) → IsKept w.images w.book → is_some (image_id w.book 0 window) ≡ true → is_some (w.images (image_shown w window)) ≡ true
shown-lives w window kept h = kept.live (image_shown w window) (shown-used w.book 0 window (image_shown w window) (shown-of w window h))

pub window-lives : (w : World) (window : ℕ) → IsKept w.images w.book → has_window w window ≡ true → is_some (w.images (image_shown w window)) ≡ true
window-lives w window kept h = shown-lives w window kept (window-known w window h)

-- ---- rectangles

left-of : (a b : Bool) → (a && b) ≡ true → a ≡ true
left-of true b h = refl
left-of false b h = absurd cc

right-of : (a b : Bool) → (a && not b) ≡ true → b ≡ false
right-of true true h = absurd cc
right-of true false h = refl
right-of false b h = absurd cc

pub window-rect-near : (r : Rect) → is_window_rect r ≡ true → IsRectNearBy (2 ^ 32) r
window-rect-near r h = near-of r (left-of (is_near_rect farthest r) (not (is_empty (inside_border r))) h)

pub window-rect-points : (r : Rect) → is_window_rect r ≡ true → HasPoints r
window-rect-points r h =
    let inside : HasPoints (inside_border r) = points-of (inside_border r) (right-of (is_near_rect farthest r) (is_empty (inside_border r)) h) in
    let across = inside.across in
    let down = inside.down in
    record { across = omega (arith, ints); down = omega (arith, ints) }

-- ---- rios

pub rio-used : (w : World) (host : ℕ) → has_rio w host ≡ true → is_used w.book (Screen (rio_screen w host)) ≡ true
rio-used w host h = by (screen_id w.book 0 host) refl h
  where
    by : (o : Option ScreenId) → screen_id w.book 0 host ≡ o → is_some o ≡ true → is_used w.book (Screen (option_map_or (λ e. e.screen) o 0)) ≡ true
    by (Some x) e h = first_true _ _ (find-any _ (λ y. y.screen == x.screen) w.book.screen_ids x e (grind (arith, nat_tests)))
    by None e h = absurd cc

pub rio-there : (w : World) (host : ℕ) → IsKept w.images w.book → has_rio w host ≡ true → is_some (screen_numbered w.book (rio_screen w host)) ≡ true
rio-there w host kept h = kept.screens (rio_screen w host) (rio-used w host h)

pub rio-fill : (w : World) (host : ℕ) → IsKept w.images w.book → has_rio w host ≡ true → is_some (w.images (fill_of w.book (rio_screen w host))) ≡ true
rio-fill w host kept h = kept.live _ (fill-of-used w.book (rio_screen w host) (rio-there w host kept h))

-- the screen that is found
pub rio-screen : (w : World) (host s : ℕ) → screen w.book 0 host ≡ Ok s → s ≡ rio_screen w host
unfolding screen
rio-screen w host s e = by (screen_id w.book 0 host) e
  where
    by : (o : Option ScreenId) → value_or_refuse (option_map (λ e. e.screen) o) 5 ≡ Ok s → s ≡ option_map_or (λ e. e.screen) o 0
    by (Some x) e = cc
    by None e = absurd cc

-- is found
pub rio-found : (w : World) (host n : ℕ) → has_rio w host ≡ true → screen w.book 0 host ≡ Err n → ⊥
unfolding screen
rio-found w host n h e = by (screen_id w.book 0 host) h e
  where
    by : (o : Option ScreenId) → is_some o ≡ true → value_or_refuse (option_map (λ e. e.screen) o) 5 ≡ Err n → ⊥
    by (Some x) h e = cc
    by None h e = cc

-- where none is found there is no rio
pub no-rio : (w : World) (host n : ℕ) → screen w.book 0 host ≡ Err n → has_rio w host ≡ false
unfolding screen
no-rio w host n e = by (screen_id w.book 0 host) e
  where
    by : (o : Option ScreenId) → value_or_refuse (option_map (λ e. e.screen) o) 5 ≡ Err n → is_some o ≡ false
    by (Some x) e = absurd cc
    by None e = refl

pub rio-is : (w : World) (host s : ℕ) → screen w.book 0 host ≡ Ok s → has_rio w host ≡ true
unfolding screen
rio-is w host s e = by (screen_id w.book 0 host) e
  where
    by : (o : Option ScreenId) → value_or_refuse (option_map (λ e. e.screen) o) 5 ≡ Ok s → is_some o ≡ true
    by (Some x) e = refl
    by None e = absurd cc

-- ---- a screen on a window, or none where its id is taken

pub kept-tried : {A E : Type 0} (o : Result A E) (images : Images) (book made : Book) (window image fill : ℕ) → IsKept images book → AreSpare book → is_some (images image) ≡ true → is_some (images fill) ≡ true
    → OnOk o (new_screen book 0 window false image fill ≡ Ok made) → OnErr o (made ≡ book) → IsKept images made
kept-tried (Ok x) images book made window image fill kept spare live fill_live e err = kept-screened images book made 0 window false image fill kept spare e live fill_live
kept-tried (Err x) images book made window image fill kept spare live fill_live e err = subst (IsKept images) (sym err) kept

pub spare-tried : {A E : Type 0} (o : Result A E) (book made : Book) (window image fill : ℕ) → AreSpare book → OnOk o (new_screen book 0 window false image fill ≡ Ok made) → OnErr o (made ≡ book) → AreSpare made
spare-tried (Ok x) book made window image fill spare e err = spare-screened book made 0 window false image fill spare e
spare-tried (Err x) book made window image fill spare e err = subst AreSpare (sym err) spare
