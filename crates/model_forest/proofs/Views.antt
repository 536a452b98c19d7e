-- The view of an image, one level at a time, and that painting from back to front gives it.
use Rattle.std.proofs.Common.{◌≡◌, ℕ, ℤ, Bool, ◌&&◌, zero, suc, ◌+◌, ◌<◌, ◌≤◌, ◌+ℤ◌, ◌-ℤ◌, true, false, List, [], ◌∷◌, Option, Some, None, refl, sym, ◌∙◌, subst, arith}
use Rattle.std.specs.Prelude.{int_lt, int_le, cond}
use Rattle.std.specs.Option.{option_map_or}
use Rattle.std.specs.List.{All, AllByRecursion}
use Rattle.std.proofs.lemmas.List.Elements.{recursion_from_All}
use Rattle.std.proofs.lemmas.Int.{ints}
use Rattle.r9_geom.specs.declared.Point.{Point}
use Rattle.r9_geom.specs.declared.Rect.{Rect}
use Rattle.r9_geom.specs.Geometry.{holds, carried}
use Rattle.model_forest.specs.declared.Window.{Window}
use Rattle.model_forest.specs.World.{World, image_at, deepest, SameSize, IsLive, IsWindowOf, IsForest}
use Rattle.model_forest.specs.View.{top_window, inward, view_within, view}
use Rattle.model_forest.specs.Paint.{painted_over, paint_within}

int_le-carried : (a b c d : ℤ) → b -ℤ a ≡ d -ℤ c → int_le a b ≡ int_le c d
int_le-carried a b c d same = grind (arith, ints)

int_lt-carried : (a b c d : ℤ) → b -ℤ a ≡ d -ℤ c → int_lt a b ≡ int_lt c d
int_lt-carried a b c d same = grind (arith, ints)

-- from low on, and below high
abbrev between : ℤ → ℤ → ℤ → Bool
between low x high = int_le low x && int_lt x high

-- a point between the ends stays between those of an interval of the same size
between-carried : (low x high low' high' : ℤ) → high -ℤ low ≡ high' -ℤ low' → between low x high ≡ between low' (x -ℤ low +ℤ low') high'
between-carried low x high low' high' size =
    let left : int_le low x ≡ int_le low' (x -ℤ low +ℤ low') = int_le-carried low x low' (x -ℤ low +ℤ low') (omega (arith, ints)) in
    let right : int_lt x high ≡ int_lt (x -ℤ low +ℤ low') high' = int_lt-carried x high (x -ℤ low +ℤ low') high' (omega (arith, ints)) in
    cc

-- a place holds just the points that the window's own rectangle holds
pub holds-carried : (place r : Rect) (p : Point) → SameSize place r → holds place p ≡ holds r (carried p place.min r.min)
holds-carried place r p size =
    let across = between-carried place.min.x p.x place.max.x r.min.x r.max.x size.width in
    let down = between-carried place.min.y p.y place.max.y r.min.y r.max.y size.height in
    cc

-- the topmost window is one of the list
pub All-top_window : (P : Window → Type 0) (ws : List Window) (p : Point) (w : Window) → All P ws → top_window ws p ≡ Some w → P w
All-top_window P ws p w all e = by_recursion ws (recursion_from_All P ws all) e
  where
    by_recursion : (ws : List Window) → AllByRecursion P ws → top_window ws p ≡ Some w → P w
    by_recursion [] all e = cc
    by_recursion (v ∷ ws) all e =
        elim (holds v.place p) as (λ b. cond b (Some v) (top_window ws p) ≡ Some w → P w) [
          | true ↦ λ same. let is : v ≡ w = cc in subst P is all.0
          | false ↦ λ same. by_recursion ws all.1 same
        ] e

-- the place of the topmost window holds the point
pub holds-top_window : (ws : List Window) (p : Point) (w : Window) → top_window ws p ≡ Some w → holds w.place p ≡ true
holds-top_window [] p w e = cc
holds-top_window (v ∷ ws) p w e =
    elim (holds v.place p) as (λ b. b ≡ holds v.place p → cond b (Some v) (top_window ws p) ≡ Some w → holds w.place p ≡ true) [
      | true ↦ λ at same. let is : v ≡ w = cc in cc
      | false ↦ λ at same. holds-top_window ws p w same
    ] refl e

-- two functions that agree at what an option has give the same of it
pub option_map_or-same : (f g : Window → ℕ) (o : Option Window) (d : ℕ) → ((w : Window) → o ≡ Some w → f w ≡ g w) → option_map_or f o d ≡ option_map_or g o d
option_map_or-same f g None d agree = refl
option_map_or-same f g (Some w) d agree = agree w refl

-- what the topmost window at a point is
pub window-at : (world : World) → IsForest world → (i : ℕ) (p : Point) (w : Window) → IsLive world i → top_window (image_at world i).windows p ≡ Some w → IsWindowOf world i w
window-at world ok i p w live e = All-top_window (IsWindowOf world i) (image_at world i).windows p w (ok.windows i live) e

-- and the point of it that stands there is one of its own
pub inward-inside : (world : World) → IsForest world → (i : ℕ) (p : Point) (w : Window) → IsLive world i → top_window (image_at world i).windows p ≡ Some w → holds (image_at world w.image).r (inward world w p) ≡ true
inward-inside world ok i p w live e =
    let is : IsWindowOf world i w = window-at world ok i p w live e in
    sym (holds-carried w.place (image_at world w.image).r p is.size) ∙ holds-top_window (image_at world i).windows p w e

-- one more level of depth changes no view, where there is depth enough
pub view_within-more : (world : World) → IsForest world → (depth i : ℕ) (p : Point) → IsLive world i → deepest < depth + (image_at world i).depth → view_within depth world i p ≡ view_within (suc depth) world i p
view_within-more world ok zero i p live enough =
    let few : (image_at world i).depth ≤ deepest = (ok.images i live).shallow in absurd (omega arith)
view_within-more world ok (suc depth) i p live enough =
    option_map_or-same
    (λ w. view_within depth world w.image (inward world w p))
    (λ w. view_within (suc depth) world w.image (inward world w p))
    (top_window (image_at world i).windows p)
    ((image_at world i).canvas p)
    (λ w e.
    let is : IsWindowOf world i w = window-at world ok i p w live e in
    let deeper : (image_at world w.image).depth ≡ (image_at world i).depth + 1 = is.above in
    let still : deepest < depth + (image_at world w.image).depth = omega arith in
    view_within-more world ok depth w.image (inward world w p) is.live still)

-- the view, one level down
pub view-step : (world : World) → IsForest world → (i : ℕ) (p : Point) → IsLive world i → view world i p ≡ option_map_or (λ w. view world w.image (inward world w p)) (top_window (image_at world i).windows p) ((image_at world i).canvas p)
unfolding view
view-step world ok i p live =
    option_map_or-same
    (λ w. view_within deepest world w.image (inward world w p))
    (λ w. view world w.image (inward world w p))
    (top_window (image_at world i).windows p)
    ((image_at world i).canvas p)
    (λ w e.
    let is : IsWindowOf world i w = window-at world ok i p w live e in
    let deeper : (image_at world w.image).depth ≡ (image_at world i).depth + 1 = is.above in
    let enough : deepest < deepest + (image_at world w.image).depth = omega arith in
    view_within-more world ok deepest w.image (inward world w p) is.live enough)

-- windows painted over a picture give at a point the topmost one there
pub painted_over-at : (r : Rect) (of_window of_top : Window → Point → ℕ) (ws : List Window) (picture : Point → ℕ) (p : Point) → holds r p ≡ true → ((w : Window) → top_window ws p ≡ Some w → of_window w p ≡ of_top w p) → painted_over r of_window ws picture p ≡ option_map_or (λ w. of_top w p) (top_window ws p) (picture p)
painted_over-at r of_window of_top [] picture p inside agree = refl
painted_over-at r of_window of_top (v ∷ ws) picture p inside agree =
    rw inside
    (elim (holds v.place p) as (λ b. ((w : Window) → cond b (Some v) (top_window ws p) ≡ Some w → of_window w p ≡ of_top w p) → cond b (of_window v p) (painted_over r of_window ws picture p) ≡ option_map_or (λ w. of_top w p) (cond b (Some v) (top_window ws p)) (picture p)) [
      | true ↦ λ same. same v refl
      | false ↦ λ same. painted_over-at r of_window of_top ws picture p inside same
    ] agree)

-- painting from back to front gives the view
pub paint_within-is_view : (world : World) → IsForest world → (depth i : ℕ) (p : Point) → IsLive world i → holds (image_at world i).r p ≡ true → paint_within depth world i p ≡ view_within depth world i p
paint_within-is_view world ok zero i p live inside = refl
paint_within-is_view world ok (suc depth) i p live inside =
    painted_over-at (image_at world i).r
    (λ w q. paint_within depth world w.image (inward world w q))
    (λ w q. view_within depth world w.image (inward world w q))
    (image_at world i).windows (image_at world i).canvas p inside
    (λ w e.
    let is : IsWindowOf world i w = window-at world ok i p w live e in
    paint_within-is_view world ok depth w.image (inward world w p) is.live (inward-inside world ok i p w live e))
