-- A window that gets the place that it has.
use Rattle.std.proofs.Common.{◌≡◌, ◌∙◌, ℕ, suc, Bool, true, false, List, [], ◌∷◌, Option, Some, None, refl, sym, ap, arith}
use Rattle.std.specs.Prelude.{◌&&◌, ◌==◌, All, is_none, is_some, option_map, unwrap_or, if◌then◌else◌}
use Rattle.std.specs.Option.{option_map_or}
use Rattle.std.proofs.lemmas.Bool.{and_parts, false≢true}
use Rattle.std.proofs.lemmas.Bool.Decides.{Decides-eqb}
use Rattle.r9_geom.specs.declared.Point.{Point}
use Rattle.r9_geom.specs.declared.Rect.{Rect}
use Rattle.r9_geom.specs.Geometry.{is_point}
use Rattle.r9_geom.proofs.GeometryLemmas.{is_point_true, true_is_point}
use Rattle.model_forest.specs.declared.Window.{Window}
use Rattle.model_forest.specs.Stack.{filled, moved, seen, with_windows}
use Rattle.model_forest.specs.View.{top_window}
use Rattle.model_forest.specs.World.{Image, World, image_at, no_image, IsForest, IsLive}
use Rattle.model_forest.proofs.Changes.{World-changed}
use Rattle.model_kept.specs.Keeping.{keeping, place_among, with_kept, Place}
use Rattle.model_kept.proofs.Once.{places-forest}
use Rattle.model_kept.proofs.Worlds.{pictured, seen-same}

-- the test of two rectangles
abbrev pub is_rect : Rect → Rect → Bool
is_rect a b = is_point a.min b.min && is_point a.max b.max

pub is_rect_true : (a b : Rect) → is_rect a b ≡ true → a ≡ b
is_rect_true a b h =
    let parts = and_parts (is_point a.min b.min) (is_point a.max b.max) h in
    λ j. record { min = is_point_true a.min b.min parts.0 j; max = is_point_true a.max b.max parts.1 j }

pub true_is_rect : (a b : Rect) → a ≡ b → is_rect a b ≡ true
true_is_rect a b e = λ j. true_is_point a.min b.min (λ k. (e k).min) j && true_is_point a.max b.max (λ k. (e k).max) j

stays : (i : ℕ) (place : Rect) (ws : List Window) → All (λ (w : Window). (w.image == i) ≡ true → w.place ≡ place) ws → moved i place ws ≡ ws
stays i place [] same = refl
stays i place (w ∷ ws) same = λ j. by_image (w.image == i) refl j ∷ stays i place ws (λ k d below. same (suc k) d (omega arith)) j
  where
    there : Window
    there = record { image = i; place = place }

    by_image : (b : Bool) → (w.image == i) ≡ b → (if b then there else w) ≡ w
    by_image true e = λ j. record { image = sym ((Decides-eqb w.image i).0 e) j; place = sym (same 0 w (omega arith) e) j }
    by_image false e = refl

-- the list in which it gets that place is the list
pub placed-still : (world : World) (i p : ℕ) (place : Rect) → IsForest world → IsLive world p → place_among (image_at world p).windows i ≡ place → moved i place (image_at world p).windows ≡ (image_at world p).windows
placed-still world i p place ok live is =
    let ws = (image_at world p).windows in
    stays i place ws (λ k d below here. sym (places-forest world ok p live k d below) ∙ ap (place_among ws) ((Decides-eqb _ i).0 here) ∙ is)

-- and an image that gets the list that it has shows what it showed
pub list-still : (shape : World) (kept : Place → ℕ) (p : ℕ) → IsLive (with_kept shape kept) p → with_windows (with_kept shape kept) p (image_at (with_kept shape kept) p).windows ≡ with_kept shape kept
list-still shape kept p live = sym (World-changed world world p _ (again (shape p) live) (λ n other. refl))
  where
    world : World
    world = with_kept shape kept

    shown : Option Image → Option Image
    shown o = option_map {T = Image} (pictured shape kept p) o

    uncovered_of : Image → Point → ℕ
    uncovered_of image q = option_map_or (λ v. filled world image.chan v q) (top_window image.windows q) (image.canvas q)

    listed : Image → Image
    listed image = record image { canvas = seen image.r image.windows (uncovered_of image) }

    by_top : (chan : ℕ) (q : Point) (top : Option Window) (n : ℕ) → is_none top ≡ true → option_map_or (λ v. filled world chan v q) top n ≡ n
    by_top chan q None n none = refl
    by_top chan q (Some v) n none = absurd (false≢true none)

    again : (o : Option Image) → is_some (shown o) ≡ true → shown o ≡ Some (listed (unwrap_or (shown o) no_image))
    again None some = absurd (false≢true some)
    again (Some image) some =
        let raw : Point → ℕ = λ q. kept (keeping shape p q) in
        ap (λ (canvas : Point → ℕ). Some (record image { canvas = canvas }))
        (seen-same image.r image.windows raw (uncovered_of (pictured shape kept p image))
        (λ q inside bare.
        sym
        (by_top image.chan q (top_window image.windows q) (seen image.r image.windows raw q) bare
        ∙ (λ j. if inside j && bare j then raw q else 0))))
