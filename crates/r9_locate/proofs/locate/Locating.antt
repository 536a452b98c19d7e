-- Where points side by side are kept, one level up at a time.
use Rattle.std.proofs.Common.{◌≡◌, ◌∙◌, ℕ, suc, zero, ◌+◌, ◌<◌, Bool, true, false, List, [], ◌∷◌, Some, None, cond, refl, sym, ap, arith}
use Rattle.std.specs.Prelude.{◌==◌, ◌&&◌, not, All, find, option_map, if◌then◌else◌}
use Rattle.std.specs.Option.{option_map_or}
use Rattle.std.specs.List.{AllByRecursion}
use Rattle.std.proofs.lemmas.Int.{ints}
use Rattle.std.proofs.lemmas.Bool.{and_parts}
use Rattle.std.proofs.lemmas.List.Elements.{recursion_from_All}
use Rattle.r9_geom.specs.declared.Point.{Point}
use Rattle.r9_geom.specs.Geometry.{carried, distance, holds, strip, IsNearBy, IsRectNearBy}
use Rattle.r9_geom.proofs.GeometryLemmas.{bounds_of, distance_is, same_point}
use Rattle.r9_plane.specs.Pixels.{along}
use Rattle.model_forest.specs.declared.Standing.{Standing}
use Rattle.model_forest.specs.declared.Window.{Window}
use Rattle.model_forest.specs.World.{Image, World, image_at, no_rect, parent_of, IsLive}
use Rattle.model_kept.specs.Keeping.{own, outward, is_top, is_shown, keeping, keeping_within, place_among, Place, IsStanding}
use Rattle.r9_locate.specs.declared.locate.lists.Frame.{Frame}
use Rattle.r9_locate.specs.locate.Lists.{frame_image, shows}

-- what stands nowhere keeps its pixels itself
pub keeping-root : (world : World) (i : ℕ) (p : Point) → parent_of world i ≡ None → keeping world i p ≡ own i p
keeping-root world i p none = within (image_at world i).depth
  where
    within : (depth : ℕ) → keeping_within depth world i p ≡ own i p
    within zero = refl
    within (suc depth) = ap (λ o. option_map_or (λ parent. if is_shown world parent i (outward world parent i p) then keeping_within depth world parent (outward world parent i p) else own i p) o (own i p)) none

-- and a window does where its parent does not show it
pub keeping-up : (world : World) → IsStanding world → (i parent : ℕ) (p : Point) → IsLive world i → parent_of world i ≡ Some parent → keeping world i p ≡ (if is_shown world parent i (outward world parent i p) then keeping world parent (outward world parent i p) else own i p)
keeping-up world ok i parent p live stands =
    let up : ℕ → ℕ → Place = λ depth parent. if is_shown world parent i (outward world parent i p) then keeping_within depth world parent (outward world parent i p) else own i p in
    ap (λ n. keeping_within n world i p) (ok.above i parent live stands)
    ∙ ap (λ o. option_map_or (up (image_at world parent).depth) o (own i p)) stands

pub along-carried : (p from to : Point) (k : ℕ) → carried (along p k) from to ≡ along (carried p from to) k
along-carried p from to k = same_point (carried (along p k) from to) (along (carried p from to) k) (omega (arith, ints)) refl

pub located-step : (world : World) → IsStanding world → (i parent : ℕ) (at q : Point) (frame : Frame) (k : ℕ) (shown : Bool) → IsLive world i → parent_of world i ≡ Some parent → image_at world parent ≡ frame_image frame → q ≡ outward world parent i at → shows frame i (along q k) ≡ shown → keeping world i (along at k) ≡ (if shown then keeping world parent (along q k) else own i (along at k))
located-step world ok i parent at q frame k shown live stands is q_is seen =
    let out : outward world parent i (along at k) ≡ along q k =
    along-carried at (image_at world i).r.min (place_among (image_at world parent).windows i).min k ∙ ap (λ p. along p k) (sym q_is) in
    let told : is_shown world parent i (along q k) ≡ shown = ap (λ (im : Image). holds im.r (along q k) && is_top im.windows i (along q k)) is ∙ seen in
    keeping-up world ok i parent (along at k) live stands
    ∙ ap (λ p. if is_shown world parent i p then keeping world parent p else own i (along at k)) out
    ∙ ap (λ b. if b then keeping world parent (along q k) else own i (along at k)) told

-- the place of an image in a list is near where all places are
pub place_near : (n : ℕ) (ws : List Window) (i : ℕ) → All (λ w. IsRectNearBy n w.place) ws → IsNearBy n no_rect.min → IsNearBy n (place_among ws i).min
place_near n ws i all none = by_recursion ws (recursion_from_All (λ w. IsRectNearBy n w.place) ws all)
  where
    by_recursion : (ws : List Window) → AllByRecursion (λ w. IsRectNearBy n w.place) ws → IsNearBy n (place_among ws i).min
    by_recursion [] all = none
    by_recursion (w ∷ ws) all =
        elim (w.image == i) as (λ b. IsNearBy n (option_map_or (λ (v : Window). v.place) (cond b (Some w) (find (λ (v : Window). v.image == i) ws)) no_rect).min) [
          | true ↦ all.0.min
          | false ↦ by_recursion ws all.1
        ]

pub no_rect_near : (n : ℕ) → IsNearBy n no_rect.min
no_rect_near n = record { left = omega (arith, ints); right = omega (arith, ints); top = omega (arith, ints); bottom = omega (arith, ints) }

-- where the image of a frame stands
pub stands_where : (world : World) (i : ℕ) (frame : Frame) (s : Standing) → image_at world i ≡ frame_image frame → frame.standing ≡ Some s → parent_of world i ≡ Some s.parent
stands_where world i frame s is e = ap (λ (im : Image). option_map (λ (s : Standing). s.parent) im.standing) is ∙ ap (option_map (λ (s : Standing). s.parent)) e

pub stands_nowhere : (world : World) (i : ℕ) (frame : Frame) → image_at world i ≡ frame_image frame → frame.standing ≡ None → parent_of world i ≡ None
stands_nowhere world i frame is e = ap (λ (im : Image). option_map (λ (s : Standing). s.parent) im.standing) is ∙ ap (option_map (λ (s : Standing). s.parent)) e

-- a shown point is in the rectangle
pub shows_inside : (frame : Frame) (world : World) (n i : ℕ) (q : Point) → image_at world n ≡ frame_image frame → shows frame i q ≡ true → holds (image_at world n).r q ≡ true
shows_inside frame world n i q is seen = ap (λ (im : Image). holds im.r q) is ∙ (and_parts (holds frame.r q) (is_top frame.windows.items i q) seen).0

pub along_none : (p : Point) → along p 0 ≡ p
along_none p = same_point (along p 0) p (omega (arith, ints)) refl

pub not_is : (b : Bool) → not b ≡ true → b ≡ false
not_is false e = refl
not_is true e = cc

pub not_not : (b : Bool) → not b ≡ false → b ≡ true
not_not true e = refl
not_not false e = cc

pub along-along : (p : Point) (a b : ℕ) → along (along p a) b ≡ along p (a + b)
along-along p a b = same_point (along (along p a) b) (along p (a + b)) (omega (arith, ints)) refl

pub along-apart : (p : Point) (a b : ℕ) → along p a ≡ along p b → a ≡ b
along-apart p a b same = let x = ap (λ (q : Point). q.x) same in omega (arith, ints, x)

-- where a run found from a part of a row on is kept
pub run_found : (world : World) (i j : ℕ) (from at start : Point) (done len : ℕ) → start ≡ along from done → ((k : ℕ) → k < len → keeping world i (along start k) ≡ own j (along at k)) → (k : ℕ) → k < len → keeping world i (along from (done + k)) ≡ own j (along at k)
run_found world i j from at start done len start_is found k below =
    ap (keeping world i) (sym (ap (λ p. along p k) start_is ∙ along-along from done k)) ∙ found k below

-- a point of a row, so many from its start
pub strip_at : (q z : Point) (n : ℕ) → holds (strip q n) z ≡ true → (k : ℕ) × (k < n) × (z ≡ along q k)
strip_at q z n h =
    let b = bounds_of (strip q n) z h in
    let d = distance_is q.x z.x b.left in
    (distance q.x z.x, omega (arith, ints, d, b.right), same_point z (along q (distance q.x z.x)) (sym d) (omega (arith, ints, b.top, b.bottom)))
