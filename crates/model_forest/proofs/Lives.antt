-- The numbers that have images after each step.
use Rattle.std.proofs.Common.{◌≡◌, ℕ, Bool, true, false, Option, Some, None, List, [], ◌∷◌, refl, sym, ap, ◌∙◌}
use Rattle.std.specs.Prelude.{◌==◌, ◌&&◌, ◌||◌, not, is_some, option_map, unwrap_or, All, IsSome, if◌then◌else◌}
use Rattle.std.specs.Option.{option_map_or}
use Rattle.std.proofs.lemmas.Bool.{or_right, true≢false}
use Rattle.r9_geom.specs.declared.Point.{Point}
use Rattle.r9_geom.specs.declared.Rect.{Rect}
use Rattle.r9_geom.specs.Geometry.{carried}
use Rattle.model_forest.specs.declared.Window.{Window}
use Rattle.model_forest.specs.World.{Image, World, image_at, no_image, parent_of, with_image, IsForest, IsLive}
use Rattle.model_forest.specs.View.{is_bare, view}
use Rattle.model_forest.specs.Draw.{with_canvas}
use Rattle.model_forest.specs.Steps.{after_image, after_list, after_origin, after_release, after_replace, after_replace_on, after_set, carried_rect, new_image, outside, put_above, shifted_image}
use Rattle.model_forest.specs.Stack.{after_lower, after_raise, after_window, lowered, moved, raised, with_windows, without}
use Rattle.model_forest.proofs.Changes.{live-standing, with_image-each, with_image-free}
use Rattle.model_forest.proofs.Stacks.{made, made_on, on_top}
use Rattle.model_forest.proofs.Steps.{standing-on_top}
use Rattle.model_forest.proofs.Windows.{lives-with_windows, parent_of-with_windows}
use Rattle.model_forest.proofs.Listed.{group_parent}

-- the numbers that have images after one more
lives-new : (world : World) (i : ℕ) (image : Image) (n : ℕ) → is_some (with_image world i (Some image) n) ≡ (n == i || is_some (world n))
lives-new world i image n = by_cases (n == i)
  where
    by_cases : (b : Bool) → is_some (if b then Some image else world n) ≡ (b || is_some (world n))
    by_cases true = refl
    by_cases false = refl

-- after one less
lives-gone : (world : World) (i n : ℕ) → is_some (with_image world i None n) ≡ (not (n == i) && is_some (world n))
lives-gone world i n = by_cases (n == i)
  where
    by_cases : (b : Bool) → is_some (if b then None else world n) ≡ (not b && is_some (world n))
    by_cases true = refl
    by_cases false = refl

-- and after one changed
lives-with_image : (world : World) (i : ℕ) (image : Image) (n : ℕ) → IsLive world i → is_some (with_image world i (Some image) n) ≡ is_some (world n)
lives-with_image world i image n live = with_image-each world i (Some image) (λ n slot. is_some slot ≡ is_some (world n)) (sym live) (λ n other. refl) n

pub lives-after_image : (world : World) (i : ℕ) (r : Rect) (chan raw n : ℕ) → is_some (after_image world i r chan raw n) ≡ (n == i || is_some (world n))
unfolding after_image
lives-after_image world i r chan raw n = lives-new world i (new_image r chan raw) n

pub lives-after_set : (world : World) (i : ℕ) (repl : Bool) (clipr : Rect) (n : ℕ) → IsLive world i → is_some (after_set world i repl clipr n) ≡ is_some (world n)
unfolding after_set
lives-after_set world i repl clipr n live = lives-with_image world i (record (image_at world i) { repl = repl; clipr = clipr }) n live

pub lives-with_canvas : (world : World) (i : ℕ) (area : Point → Bool) (new : Point → ℕ) (n : ℕ) → IsLive world i → is_some (with_canvas world i area new n) ≡ is_some (world n)
lives-with_canvas world i area new n live =
    let image : Image = record (image_at world i) { canvas = λ p. if area p && is_bare (image_at world i).windows p then new p else (image_at world i).canvas p } in
    lives-with_image world i image n live

-- after a window came, topmost
lives-on_top : (world : World) (i parent fill : ℕ) (r place : Rect) (canvas : Point → ℕ) (n : ℕ) → IsLive world parent → is_some (on_top world i parent fill r place canvas n) ≡ (n == i || is_some (world n))
lives-on_top world i parent fill r place canvas n live =
    let image : Image = made_on world parent fill r canvas in
    let new : World = with_image world i (Some image) in
    let windows : List Window = record { image = i; place = place } ∷ (image_at world parent).windows in
    let there : IsLive new parent = lives-new world i image parent ∙ or_right (parent == i) _ live in
    lives-with_windows new parent windows n there ∙ lives-new world i image n

pub lives-after_window : (world : World) (i parent fill : ℕ) (r : Rect) (raw n : ℕ) → IsLive world parent → is_some (after_window world i parent fill r raw n) ≡ (n == i || is_some (world n))
unfolding after_window
lives-after_window world i parent fill r raw n live = lives-on_top world i parent fill r r (λ _. raw) n live

pub lives-after_raise : (world : World) (group : List ℕ) (n : ℕ) → All (λ n. IsSome (parent_of world n)) group → IsForest world → is_some (after_raise world group n) ≡ is_some (world n)
unfolding after_raise
lives-after_raise world [] n are ok = refl
lives-after_raise world (i ∷ rest) n are ok =
    let p : ℕ = unwrap_or (parent_of world i) 0 in
    lives-with_windows world p (raised (i ∷ rest) (image_at world p).windows) n (group_parent world i rest are ok)

pub lives-after_lower : (world : World) (group : List ℕ) (n : ℕ) → All (λ n. IsSome (parent_of world n)) group → IsForest world → is_some (after_lower world group n) ≡ is_some (world n)
unfolding after_lower
lives-after_lower world [] n are ok = refl
lives-after_lower world (i ∷ rest) n are ok =
    let p : ℕ = unwrap_or (parent_of world i) 0 in
    lives-with_windows world p (lowered (i ∷ rest) (image_at world p).windows) n (group_parent world i rest are ok)

-- the list of the image on which another stands changes
lives-after_list : (world : World) (i : ℕ) (change : List Window → List Window) (n : ℕ) → ((p : ℕ) → parent_of world i ≡ Some p → IsLive world p) → is_some (after_list world i change n) ≡ is_some (world n)
lives-after_list world i change n live = by_parent (parent_of world i) refl
  where
    by_parent : (parent : Option ℕ) → parent_of world i ≡ parent → is_some (option_map_or (λ p. with_windows world p (change (image_at world p).windows)) parent world n) ≡ is_some (world n)
    by_parent None e = refl
    by_parent (Some p) e = lives-with_windows world p (change (image_at world p).windows) n (live p e)

parent_of-after_list : (world : World) (i : ℕ) (change : List Window → List Window) (n : ℕ) → ((p : ℕ) → parent_of world i ≡ Some p → IsLive world p) → parent_of (after_list world i change) n ≡ parent_of world n
parent_of-after_list world i change n live = by_parent (parent_of world i) refl
  where
    by_parent : (parent : Option ℕ) → parent_of world i ≡ parent → parent_of (option_map_or (λ p. with_windows world p (change (image_at world p).windows)) parent world) n ≡ parent_of world n
    by_parent None e = refl
    by_parent (Some p) e = parent_of-with_windows world p (change (image_at world p).windows) n (live p e)

-- and changes again
lives-after_two : (world : World) (i : ℕ) (change again : List Window → List Window) (n : ℕ) → ((p : ℕ) → parent_of world i ≡ Some p → IsLive world p) → is_some (after_list (after_list world i change) i again n) ≡ is_some (world n)
lives-after_two world i change again n live =
    lives-after_list (after_list world i change) i again n
    (λ p stands. lives-after_list world i change p live ∙ live p (sym (parent_of-after_list world i change i live) ∙ stands))
    ∙ lives-after_list world i change n live

pub lives-after_release : (world : World) (i n : ℕ) → IsLive world i → IsForest world → is_some (after_release world i n) ≡ (not (n == i) && is_some (world n))
unfolding after_release
lives-after_release world i n live ok =
    lives-gone (after_list world i (without i)) i n
    ∙ ap (λ b. not (n == i) && b) (lives-after_list world i (without i) n (λ p. ok.parents i p live))

pub lives-after_origin : (world : World) (i : ℕ) (min corner : Point) (n : ℕ) → IsLive world i → IsForest world → is_some (after_origin world i min corner n) ≡ is_some (world n)
unfolding after_origin
lives-after_origin world i min corner n live ok =
    let image = image_at world i in
    let change : List Window → List Window = moved i (carried_rect image.r image.r.min corner) in
    let same : (k : ℕ) → is_some (after_list world i change k) ≡ is_some (world k) = λ k. lives-after_list world i change k (λ p. ok.parents i p live) in
    lives-with_image (after_list world i change) i (shifted_image image min) n (same i ∙ live) ∙ same n

pub lives-after_replace : (world : World) (i old : ℕ) (r : Rect) (corner : Point) (raw : ℕ) (keep : Bool) (n : ℕ) → world i ≡ None → IsSome (parent_of world old) → IsForest world → is_some (after_replace world i old r corner raw keep n) ≡ (n == i || is_some (world n))
unfolding after_replace
lives-after_replace world i old r corner raw keep n free window ok = by_parent (parent_of world old) refl window
  where
    by_parent : (parent : Option ℕ) → parent_of world old ≡ parent → IsSome parent → is_some (after_replace world i old r corner raw keep n) ≡ (n == i || is_some (world n))
    by_parent None e some = absurd (true≢false (sym some))
    by_parent (Some p) e some =
        let image = image_at world old in
        let live : IsLive world old = live-standing world old p e in
        let below : IsLive world p = ok.parents old p live e in
        let pixel : Point → ℕ = λ q. if keep then view world old (carried q r.min image.r.min) else raw in
        let fresh : Image = made r image.chan image.standing image.depth pixel in
        let first : Window = record { image = i; place = carried_rect r r.min corner } in
        let one : World = with_image world i (Some fresh) in
        let at_old : one old ≡ world old = with_image-free world i old (Some fresh) free live in
        let there : (q : ℕ) → parent_of one old ≡ Some q → IsLive one q = λ q stands.
        let stood : parent_of world old ≡ Some q = sym (ap (λ (slot : Option Image). option_map (λ s. s.parent) (unwrap_or slot no_image).standing) at_old) ∙ stands in
        lives-new world i fresh q ∙ or_right (q == i) _ (ok.parents old q live stood) in
        lives-after_two one old (put_above first old) (moved old (carried_rect image.r image.r.min outside)) n there ∙ lives-new world i fresh n

pub lives-after_replace_on : (world : World) (i old parent fill : ℕ) (r : Rect) (corner : Point) (raw : ℕ) (keep : Bool) (n : ℕ) → world i ≡ None → IsLive world old → IsLive world parent → IsForest world → is_some (after_replace_on world i old parent fill r corner raw keep n) ≡ (n == i || is_some (world n))
unfolding after_replace_on
lives-after_replace_on world i old parent fill r corner raw keep n free live below ok =
    let image = image_at world old in
    let place = carried_rect r r.min corner in
    let canvas : Point → ℕ = λ q. if keep then view world old (carried q r.min image.r.min) else raw in
    let two : World = on_top world i parent fill r place canvas in
    let there : (q : ℕ) → parent_of two old ≡ Some q → IsLive two q = λ q stands.
    let stood : parent_of world old ≡ Some q = sym (ap (option_map (λ s. s.parent)) (standing-on_top world i parent fill r place canvas old free below live)) ∙ stands in
    lives-on_top world i parent fill r place canvas q below ∙ or_right (q == i) _ (ok.parents old q live stood) in
    lives-after_list two old (moved old (carried_rect image.r image.r.min outside)) n there ∙ lives-on_top world i parent fill r place canvas n below
