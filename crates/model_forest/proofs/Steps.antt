-- Each step keeps what a world of images keeps.
use Rattle.std.proofs.Common.{◌≡◌, ℕ, ◌+◌, ◌<◌, ◌≤◌, ◌^◌, Bool, true, false, Option, Some, None, List, [], ◌∷◌, length, refl, sym, ap, ◌∙◌, subst, eq-eqb, arith}
use Rattle.std.specs.Prelude.{◌==◌, ◌&&◌, not, is_some, option_map, unwrap_or, All, IsSome, IsTrue, if◌then◌else◌}
use Rattle.std.specs.Option.{option_map_or}
use Rattle.std.proofs.lemmas.Bool.{or_left, or_right, true≢false}
use Rattle.std.proofs.lemmas.Int.{ints}
use Rattle.std.proofs.lemmas.List.Elements.{All-cons, All-filter, All-weaker}
use Rattle.r9_geom.specs.declared.Point.{Point}
use Rattle.r9_geom.specs.declared.Rect.{Rect}
use Rattle.r9_geom.specs.Geometry.{carried, holds, HasPoints, IsNearBy, IsOrdered, IsRectNearBy}
use Rattle.model_pixel.specs.Channels as channels
use Rattle.model_pixel.specs.Channels.{expand, is_descriptor}
use Rattle.model_forest.specs.declared.Window.{Window}
use Rattle.model_forest.specs.World.{CanGo, Image, World, fill_of, image_at, no_image, origin_point, parent_of, with_image, IsForest, IsImage, IsLive, IsWindowOf, SameSize}
use Rattle.model_forest.specs.View.{at, is_bare, view}
use Rattle.model_forest.specs.Draw.{Drawing, after_draw, after_fill, after_load, drawn, in_area, mask_value, with_canvas}
use Rattle.model_forest.specs.Steps.{after_image, after_list, after_origin, after_release, after_replace, after_replace_on, after_set, carried_rect, new_image, outside, put_above, shifted_image}
use Rattle.model_forest.specs.Stack.{after_lower, after_raise, after_window, lowered, moved, raised, with_windows, without}
use Rattle.model_forest.proofs.Changes.{with_image-at, live-standing, with_image-free}
use Rattle.model_forest.proofs.Raws.{drawn_below}
use Rattle.model_forest.proofs.Sound.{is_listed, IsImage-like, IsStill, IsForestBut, IsForestBut-any, IsForestBut-new_image, IsForest-listed, IsForest-with_image, none_or_some, some_same, view-below, IsWindowOf-new_image}
use Rattle.model_forest.proofs.Stacks.{All-lowered, All-raised, made, made_on, on_top, IsImage-made, IsImage-made_on, IsTopmost, IsWindowOf-made_on, length-lowered, length-raised}
use Rattle.model_forest.proofs.Windows.{IsForestBut-with_windows, IsForest-with_windows, IsStill-with_windows, parent_of-with_windows, rect-with_windows, with_windows-other, windows-with_windows, windows-with_windows_or}
use Rattle.model_forest.proofs.Listed.{All-put_above, once-new, once-put_above, times-lowered, times-raised, times-without, unlisted-free, length-put_above, length-without, listed-lowered, listed-put_above, listed-put_above_new, listed-raised, listed-without, listed-without_other, group_parent, parent-apart, unlisted, window_of}
use Rattle.model_forest.proofs.Placed.{carried_min_near, IsForest-moved, IsForest-shifted, SameSize-carried}
use Rattle.model_forest.proofs.Gone.{IsForest-gone}

-- where nothing is an image
pub IsForest-nothing : (world : World) → ((n : ℕ) → world n ≡ None) → IsForest world
IsForest-nothing world none = record {
  images = λ n live. absurd (not_live n live);
  windows = λ n live. absurd (not_live n live);
  parents = λ n p live. absurd (not_live n live);
  listed = λ n p live. absurd (not_live n live);
  once = λ n _ live. absurd (not_live n live);
}
  where
    not_live : (n : ℕ) → IsLive world n → ⊥
    not_live n live = true≢false (sym live ∙ ap is_some (none n))

-- an image that stands nowhere comes
pub IsForest-after_image : (world : World) (i : ℕ) (r : Rect) (chan raw : ℕ) → world i ≡ None → is_descriptor chan ≡ true → raw < 2 ^ channels.depth chan → IsRectNearBy (2 ^ 34) r → IsOrdered r → IsForest world → IsForest (after_image world i r chan raw)
unfolding after_image
IsForest-after_image world i r chan raw free lawful fits near ordered ok =
    let image : Image = new_image r chan raw in
    let is : IsImage image = IsImage-made r chan None 0 (λ _. raw) (omega arith) lawful (λ p. fits) near ordered in
    IsForest-listed (after_image world i r chan raw) i
    (λ p stands.
    let none : None ≡ Some p = rw (with_image-at world i (Some image)) at stands in
    absurd (none_or_some p none))
    (IsForestBut-new_image world i image free is refl (λ p none. absurd (none_or_some p none)) ok)

-- an image repeats or not, with another clip rectangle
pub IsForest-after_set : (world : World) (i : ℕ) (repl : Bool) (clipr : Rect) → IsLive world i → (repl ≡ true → HasPoints (image_at world i).r) → IsRectNearBy (2 ^ 34) clipr → IsForest world → IsForest (after_set world i repl clipr)
unfolding after_set
IsForest-after_set world i repl clipr live points near ok =
    let was = ok.images i live in
    let image : Image = record (image_at world i) { repl = repl; clipr = clipr } in
    let is : IsImage image = IsImage-like (image_at world i) repl clipr (image_at world i).canvas (image_at world i).windows points near was.few was.raws was in
    IsForest-with_image world i image live (record { standing = refl; depth = refl; chan = refl; size = record { width = refl; height = refl } }) refl refl is ok

-- pixels that fit are written where nothing stands
pub IsForest-with_canvas : (world : World) (i : ℕ) (area : Point → Bool) (new : Point → ℕ) → IsLive world i → ((p : Point) → area p ≡ true → new p < 2 ^ channels.depth (image_at world i).chan) → IsForest world → IsForest (with_canvas world i area new)
IsForest-with_canvas world i area new live fits ok =
    let was = ok.images i live in
    let image : Image = record (image_at world i) { canvas = λ p. if area p && is_bare (image_at world i).windows p then new p else (image_at world i).canvas p } in
    let is : IsImage image =
    IsImage-like (image_at world i) (image_at world i).repl (image_at world i).clipr image.canvas (image_at world i).windows was.repeats was.clip was.few
    (λ p. by_cases p (area p) (is_bare (image_at world i).windows p) refl) was in
    IsForest-with_image world i image live (record { standing = refl; depth = refl; chan = refl; size = record { width = refl; height = refl } }) refl refl is ok
  where
    by_cases : (p : Point) (inside bare : Bool) → area p ≡ inside → (if inside && bare then new p else (image_at world i).canvas p) < 2 ^ channels.depth (image_at world i).chan
    by_cases p true true e = fits p e
    by_cases p true false e = (ok.images i live).raws p
    by_cases p false bare e = (ok.images i live).raws p

pub IsForest-after_fill : (world : World) (i : ℕ) (r : Rect) (raw : ℕ) → IsLive world i → raw < 2 ^ channels.depth (image_at world i).chan → IsForest world → IsForest (after_fill world i r raw)
unfolding after_fill
IsForest-after_fill world i r raw live fits ok = IsForest-with_canvas world i (holds r) (λ _. raw) live (λ p _. fits) ok

pub IsForest-after_load : (world : World) (i : ℕ) (r : Rect) (raws : Point → ℕ) → IsLive world i → ((p : Point) → holds r p ≡ true → raws p < 2 ^ channels.depth (image_at world i).chan) → IsForest world → IsForest (after_load world i r raws)
unfolding after_load
IsForest-after_load world i r raws live fits ok = IsForest-with_canvas world i (holds r) raws live fits ok

-- whatever is drawn fits
pub IsForest-after_draw : (world : World) (d : Drawing) → IsLive world d.dst → IsForest world → IsForest (after_draw world d)
unfolding after_draw
IsForest-after_draw world d live ok =
    IsForest-with_canvas world d.dst (in_area world d) (drawn world d) live
    (λ p inside.
    drawn_below (image_at world d.dst).chan d.op
    (expand (image_at world d.src).chan (at world d.src (carried p d.r.min d.sp)))
    (mask_value world d p)
    (expand (image_at world d.dst).chan (view world d.dst p))
    (ok.images d.dst live).chan)
    ok

-- a window comes, topmost
pub IsForest-on_top : (world : World) (i parent fill : ℕ) (r place : Rect) (canvas : Point → ℕ) → world i ≡ None → IsTopmost world parent fill r place canvas → IsForest world → IsForest (on_top world i parent fill r place canvas)
IsForest-on_top world i parent fill r place canvas free is ok =
    let image : Image = made_on world parent fill r canvas in
    let new : World = with_image world i (Some image) in
    let first : Window = record { image = i; place = place } in
    let ws = (image_at world parent).windows in
    let windows : List Window = first ∷ ws in
    let fresh : IsImage image = IsImage-made_on world parent fill r canvas is.shallow (ok.images parent is.live).chan is.fits is.near is.ordered in
    let still : new parent ≡ world parent = with_image-free world i parent (Some image) free is.live in
    let but : IsForestBut (Some i) new = IsForestBut-new_image world i image free fresh refl (λ p stands. subst (IsLive world) (some_same parent p stands) is.live) ok in
    let are : All (IsWindowOf new parent) windows =
    All-cons (IsWindowOf new parent) first ws
    (IsWindowOf-made_on world i parent fill r place canvas free is.live is.fill_live is.size is.corner (ok.images parent is.live))
    (All-weaker (IsWindowOf world parent) (IsWindowOf new parent) (λ w. IsWindowOf-new_image world i image free parent w is.live) ws (ok.windows parent is.live)) in
    let more : IsForestBut (Some i) (with_windows new parent windows) =
    IsForestBut-with_windows new (Some i) parent windows (rw still is.live) (omega (arith, is.few)) are
    (λ n apart was. or_right (i == n) _ (rw still at was))
    (once-new first ws (unlisted-free world ok parent i is.live free) (λ n. ok.once parent n is.live)) but in
    let below : parent_of (with_windows new parent windows) i ≡ Some parent =
    parent_of-with_windows new parent windows i (rw still is.live) ∙ ap (λ (slot : Option Image). option_map (λ s. s.parent) (unwrap_or slot no_image).standing) (with_image-at world i (Some image)) in
    IsForest-listed (with_windows new parent windows) i
    (λ p stands.
    let is_there : IsTrue (is_listed windows i) = or_left (i == i) _ (eq-eqb i i refl) in
    subst (λ k. IsTrue (is_listed (image_at (with_windows new parent windows) k).windows i)) (some_same parent p (sym below ∙ stands))
    (rw (windows-with_windows new parent windows) is_there))
    more

-- one of one raw pixel
pub IsForest-after_window : (world : World) (i parent fill : ℕ) (r : Rect) (raw : ℕ) → world i ≡ None → IsLive world parent → IsLive world fill → (image_at world parent).depth + 1 < 2 ^ 32 → length (image_at world parent).windows + 1 < 2 ^ 32 → raw < 2 ^ channels.depth (image_at world parent).chan → IsRectNearBy (2 ^ 34) r → IsOrdered r → IsForest world → IsForest (after_window world i parent fill r raw)
unfolding after_window
IsForest-after_window world i parent fill r raw free live fill_live depth few fits near ordered ok =
    IsForest-on_top world i parent fill r r (λ _. raw) free
    (record {
      live = live;
      fill_live = fill_live;
      shallow = depth;
      few = few;
      fits = λ p. fits;
      near = near;
      ordered = ordered;
      size = record { width = refl; height = refl };
      corner = near.min;
    })
    ok

-- what was there stands as it stood, in the rectangle that it had
pub standing-on_top : (world : World) (i parent fill : ℕ) (r place : Rect) (canvas : Point → ℕ) (n : ℕ) → world i ≡ None → IsLive world parent → IsLive world n → (image_at (on_top world i parent fill r place canvas) n).standing ≡ (image_at world n).standing
standing-on_top world i parent fill r place canvas n free live there =
    let image : Image = made_on world parent fill r canvas in
    let new : World = with_image world i (Some image) in
    let still : IsLive new parent = rw (with_image-free world i parent (Some image) free live) live in
    ((IsStill-with_windows new parent (record { image = i; place = place } ∷ (image_at world parent).windows) still).same n).standing
    ∙ ap (λ (slot : Option Image). (unwrap_or slot no_image).standing) (with_image-free world i n (Some image) free there)

pub rect-on_top : (world : World) (i parent fill : ℕ) (r place : Rect) (canvas : Point → ℕ) (n : ℕ) → world i ≡ None → IsLive world n → (image_at (on_top world i parent fill r place canvas) n).r ≡ (image_at world n).r
rect-on_top world i parent fill r place canvas n free there =
    let image : Image = made_on world parent fill r canvas in
    rect-with_windows (with_image world i (Some image)) parent (record { image = i; place = place } ∷ (image_at world parent).windows) n
    ∙ ap (λ (slot : Option Image). (unwrap_or slot no_image).r) (with_image-free world i n (Some image) free there)

-- windows of one image come above its others
pub IsForest-after_raise : (world : World) (group : List ℕ) → All (λ n. IsSome (parent_of world n)) group → IsForest world → IsForest (after_raise world group)
unfolding after_raise
IsForest-after_raise world [] are ok = ok
IsForest-after_raise world (i ∷ rest) are ok =
    let group : List ℕ = i ∷ rest in
    let p : ℕ = unwrap_or (parent_of world i) 0 in
    let live : IsLive world p = group_parent world i rest are ok in
    let ws = (image_at world p).windows in
    IsForest-with_windows world p (raised group ws) live
    (subst (λ n. n < 2 ^ 32) (sym (length-raised group ws)) (ok.images p live).few)
    (All-raised (IsWindowOf world p) group ws (ok.windows p live))
    (λ n was. listed-raised group ws n ∙ was)
    (λ n. subst (λ k. k ≤ 1) (sym (times-raised group ws n)) (ok.once p n live))
    ok

-- or below them
pub IsForest-after_lower : (world : World) (group : List ℕ) → All (λ n. IsSome (parent_of world n)) group → IsForest world → IsForest (after_lower world group)
unfolding after_lower
IsForest-after_lower world [] are ok = ok
IsForest-after_lower world (i ∷ rest) are ok =
    let group : List ℕ = i ∷ rest in
    let p : ℕ = unwrap_or (parent_of world i) 0 in
    let live : IsLive world p = group_parent world i rest are ok in
    let ws = (image_at world p).windows in
    IsForest-with_windows world p (lowered group ws) live
    (subst (λ n. n < 2 ^ 32) (sym (length-lowered group ws)) (ok.images p live).few)
    (All-lowered (IsWindowOf world p) group ws (ok.windows p live))
    (λ n was. listed-lowered group ws n ∙ was)
    (λ n. subst (λ k. k ≤ 1) (sym (times-lowered group ws n)) (ok.once p n live))
    ok

-- an image with no windows goes, first from its parent's list
pub IsForest-after_release : (world : World) (i : ℕ) → CanGo world i → IsForest world → IsForest (after_release world i)
unfolding after_release
IsForest-after_release world i can ok = by_parent (parent_of world i) refl
  where
    standing_nowhere : parent_of world i ≡ None → IsForest (with_image world i None)
    standing_nowhere e =
        IsForest-gone world i can.alone can.fills_none
        (λ n live. unlisted world ok n i live (λ stands. none_or_some n (sym e ∙ stands)))
        (IsForestBut-any (Some i) world ok)

    standing : (p : ℕ) → parent_of world i ≡ Some p → IsForest (with_image (with_windows world p (without i (image_at world p).windows)) i None)
    standing p e =
        let live : IsLive world p = ok.parents i p can.live e in
        let ws = (image_at world p).windows in
        let new : World = with_windows world p (without i ws) in
        let still : IsStill world new = IsStill-with_windows world p (without i ws) live in
        IsForest-gone new i
        (windows-with_windows_or world p (without i ws) (λ n windows. n ≡ i → windows ≡ [])
        (λ same. let none : ws ≡ [] = ap (λ (k : ℕ). (image_at world k).windows) same ∙ can.alone in rw none refl)
        (λ n other same. ap (λ (k : ℕ). (image_at world k).windows) same ∙ can.alone)
        i refl)
        (λ n fills. can.fills_none n (sym (ap (option_map (λ s. s.fill)) (still.same n).standing) ∙ fills))
        (λ n now. windows-with_windows_or world p (without i ws) (λ n windows. IsLive world n → is_listed windows i ≡ false)
        (λ live. listed-without i ws)
        (λ n other live. unlisted world ok n i live (λ stands. other (some_same n p (sym stands ∙ e))))
        n (sym (still.live n) ∙ now))
        (IsForestBut-with_windows world (Some i) p (without i ws) live
        (length-without i ws (2 ^ 32) (ok.images p live).few)
        (All-filter (λ w. not (w.image == i)) (IsWindowOf world p) ws (ok.windows p live))
        (λ n apart was. listed-without_other i ws n (λ same. apart (ap (λ (k : ℕ). Some k) (sym same))) ∙ was)
        (λ n. let less = times-without i ws n in let most = ok.once p n live in omega (arith, less, most))
        (IsForestBut-any (Some i) world ok))

    by_parent : (parent : Option ℕ) → parent_of world i ≡ parent → IsForest (after_release world i)
    by_parent None e = rw e (standing_nowhere e)
    by_parent (Some p) e = rw e (standing p e)

-- a place whose min is near reaches as far as places do
reaches_near : (world : World) → IsForest world → (p : ℕ) (min : Point) → IsLive world p → IsNearBy (2 ^ 34) min → IsNearBy (2 ^ 36) (carried min (image_at world p).r.min origin_point)
reaches_near world ok p min live near =
    let below = (ok.images p live).near_min in
    record {
      left = omega (arith, ints, near.left, below.right);
      right = omega (arith, ints, near.right, below.left);
      top = omega (arith, ints, near.top, below.bottom);
      bottom = omega (arith, ints, near.bottom, below.top);
    }

-- a window moves on its parent to a place with this corner
pub IsForest-moved_to : (world : World) → IsForest world → (i p : ℕ) (corner : Point) → IsLive world p → IsNearBy (2 ^ 34) corner → IsForest (with_windows world p (moved i (carried_rect (image_at world i).r (image_at world i).r.min corner) (image_at world p).windows))
IsForest-moved_to world ok i p corner live near =
    let r = (image_at world i).r in
    IsForest-moved world i p (carried_rect r r.min corner) live (SameSize-carried r r.min corner)
    (reaches_near world ok p (carried r.min r.min corner) live (carried_min_near (2 ^ 34) r.min corner near))
    ok

-- an image gets another corner of its own, and a window another one on its parent
pub IsForest-after_origin : (world : World) (i : ℕ) (min corner : Point) → IsLive world i → IsNearBy (2 ^ 34) min → IsNearBy (2 ^ 34) corner → IsForest world → IsForest (after_origin world i min corner)
unfolding after_origin
IsForest-after_origin world i min corner live near_min near_corner ok = by_parent (parent_of world i) refl
  where
    by_parent : (parent : Option ℕ) → parent_of world i ≡ parent → IsForest (after_origin world i min corner)
    by_parent None e = rw e (IsForest-shifted world i min live near_min ok)
    by_parent (Some p) e =
        let r = (image_at world i).r in
        let live_p : IsLive world p = ok.parents i p live e in
        let ws = moved i (carried_rect r r.min corner) (image_at world p).windows in
        let new : World = with_windows world p ws in
        let same : new i ≡ world i = with_windows-other world p ws i (parent-apart world ok i p e) in
        let shifted : IsForest (with_image new i (Some (shifted_image (image_at new i) min))) =
        IsForest-shifted new i min (rw same live) near_min (IsForest-moved_to world ok i p corner live_p near_corner) in
        rw e
        (subst (λ (slot : Option Image). IsForest (with_image new i (Some (shifted_image (unwrap_or slot no_image) min)))) same shifted)

-- a new window that stands where another does, directly above it
pub IsForest-put_above : (world : World) (i old p : ℕ) (fresh : Image) (place : Rect) → world i ≡ None → parent_of world old ≡ Some p → length (image_at world p).windows + 1 < 2 ^ 32 → IsImage fresh → fresh.windows ≡ [] → fresh.standing ≡ (image_at world old).standing → fresh.depth ≡ (image_at world old).depth → fresh.chan ≡ (image_at world old).chan → SameSize place fresh.r → IsNearBy (2 ^ 36) (carried place.min (image_at world p).r.min origin_point) → IsForest world → IsForest (with_windows (with_image world i (Some fresh)) p (put_above (record { image = i; place = place }) old (image_at (with_image world i (Some fresh)) p).windows))
IsForest-put_above world i old p fresh place free e room is none standing depth chan size reach ok =
    let first : Window = record { image = i; place = place } in
    let new : World = with_image world i (Some fresh) in
    let old_live : IsLive world old = live-standing world old p e in
    let live : IsLive world p = ok.parents old p old_live e in
    let here : new i ≡ Some fresh = with_image-at world i (Some fresh) in
    let there : new p ≡ world p = with_image-free world i p (Some fresh) free live in
    let stood : option_map (λ s. s.parent) fresh.standing ≡ Some p = ap (option_map (λ s. s.parent)) standing ∙ e in
    let other = window_of world ok old p e in
    let of_other : IsWindowOf world p (record { image = old; place = other.0.place }) =
    subst (λ k. IsWindowOf world p (record { image = k; place = other.0.place })) other.1 other.2 in
    let fill : with_image world i (Some fresh) (fill_of world old) ≡ world (fill_of world old) = with_image-free world i (fill_of world old) (Some fresh) free of_other.fill in
    let same_fill : fill_of new i ≡ fill_of world old =
    ap (λ (slot : Option Image). option_map_or (λ s. s.fill) (unwrap_or slot no_image).standing 0) here ∙ ap (λ standing. option_map_or (λ s. s.fill) standing 0) standing in
    let first_is : IsWindowOf new p first = record {
      live = rw here refl;
      stands = rw here stood;
      fill = subst (IsLive new) (sym same_fill) (ap is_some fill ∙ of_other.fill);
      above = rw (here, there, depth) of_other.above;
      chan = rw (here, there, chan) of_other.chan;
      size = rw here size;
      reach = rw there reach;
    } in
    let ws = (image_at new p).windows in
    let are : All (IsWindowOf new p) ws =
    rw there
    (All-weaker (IsWindowOf world p) (IsWindowOf new p) (λ w. IsWindowOf-new_image world i fresh free p w live) (image_at world p).windows (ok.windows p live)) in
    let few : length (put_above first old ws) < 2 ^ 32 =
    let most = length-put_above first old ws in
    let was : length ws + 1 < 2 ^ 32 = rw there room in
    omega (arith, most, was) in
    let but : IsForestBut (Some i) new = IsForestBut-new_image world i fresh free is none (λ q stands. subst (IsLive world) (some_same p q (sym stood ∙ stands)) live) ok in
    let more : IsForestBut (Some i) (with_windows new p (put_above first old ws)) =
    IsForestBut-with_windows new (Some i) p (put_above first old ws) (rw there live) few
    (All-put_above (IsWindowOf new p) first old ws first_is are)
    (λ n apart was. listed-put_above first old ws n was)
    (once-put_above first old ws (rw there (unlisted-free world ok p i live free)) (λ n. rw there (ok.once p n live)))
    but in
    let old_listed : IsTrue (is_listed ws old) = rw there (ok.listed old p old_live e) in
    let listed : IsTrue (is_listed (image_at (with_windows new p (put_above first old ws)) p).windows i) =
    rw (windows-with_windows new p (put_above first old ws)) (listed-put_above_new first old ws old_listed) in
    let below : parent_of (with_windows new p (put_above first old ws)) i ≡ Some p =
    parent_of-with_windows new p (put_above first old ws) i (rw there live) ∙ ap (λ (slot : Option Image). option_map (λ s. s.parent) (unwrap_or slot no_image).standing) here ∙ stood in
    IsForest-listed (with_windows new p (put_above first old ws)) i
    (λ q stands. subst (λ k. IsTrue (is_listed (image_at (with_windows new p (put_above first old ws)) k).windows i)) (some_same p q (sym below ∙ stands)) listed)
    more

-- the list of the image on which a window stands changes
after_list-at : (world : World) (i p : ℕ) (change : List Window → List Window) → parent_of world i ≡ Some p → after_list world i change ≡ with_windows world p (change (image_at world p).windows)
after_list-at world i p change e = rw e refl

-- a window moves far outside
IsForest-outside : (world : World) → IsForest world → (i p : ℕ) (r : Rect) → parent_of world i ≡ Some p → (image_at world i).r ≡ r → IsForest (after_list world i (moved i (carried_rect r r.min outside)))
IsForest-outside world ok i p r e same =
    let live : IsLive world p = ok.parents i p (live-standing world i p e) e in
    let near : IsNearBy (2 ^ 34) outside = record { left = omega (arith, ints); right = omega (arith, ints); top = omega (arith, ints); bottom = omega (arith, ints) } in
    let out : IsForest (with_windows world p (moved i (carried_rect r r.min outside) (image_at world p).windows)) =
    subst (λ (s : Rect). IsForest (with_windows world p (moved i (carried_rect s s.min outside) (image_at world p).windows))) same (IsForest-moved_to world ok i p outside live near) in
    subst IsForest (sym (after_list-at world i p (moved i (carried_rect r r.min outside)) e)) out

-- the pixels that a window takes over from another, or one raw pixel
abbrev pub taken_over : World → ℕ → Rect → ℕ → Bool → Point → ℕ
taken_over world old r raw keep = λ p. if keep then view world old (carried p r.min (image_at world old).r.min) else raw

-- they fit the channels of the other, or others where no pixel is kept
taken_over_below : (world : World) (old chan : ℕ) (r : Rect) (raw : ℕ) (keep : Bool) (p : Point) → IsLive world old → (keep ≡ true → chan ≡ (image_at world old).chan) → raw < 2 ^ channels.depth chan → IsForest world → taken_over world old r raw keep p < 2 ^ channels.depth chan
taken_over_below world old chan r raw true p live same fits ok =
    let from = carried p r.min (image_at world old).r.min in
    subst (λ c. view world old from < 2 ^ channels.depth c) (sym (same refl)) (view-below world ok old from live)
taken_over_below world old chan r raw false p live same fits ok = fits

abbrev pub replacement : World → ℕ → Rect → ℕ → Bool → Image
replacement world old r raw keep =
    made r (image_at world old).chan (image_at world old).standing (image_at world old).depth (taken_over world old r raw keep)

-- an image with what another shows comes, which stands nowhere
pub IsForest-copied : (world : World) (i old chan : ℕ) (r : Rect) (raw : ℕ) (keep : Bool) → world i ≡ None → IsLive world old → is_descriptor chan ≡ true → (keep ≡ true → chan ≡ (image_at world old).chan) → IsRectNearBy (2 ^ 34) r → IsOrdered r → raw < 2 ^ channels.depth chan → IsForest world → IsForest (with_image world i (Some (made r chan None 0 (taken_over world old r raw keep))))
IsForest-copied world i old chan r raw keep free live lawful same near ordered fits ok =
    let canvas : Point → ℕ = taken_over world old r raw keep in
    let image : Image = made r chan None 0 canvas in
    let is : IsImage image = IsImage-made r chan None 0 canvas (omega arith) lawful (λ p. taken_over_below world old chan r raw keep p live same fits ok) near ordered in
    IsForest-listed (with_image world i (Some image)) i
    (λ p stands.
    let none : None ≡ Some p = rw (with_image-at world i (Some image)) at stands in
    absurd (none_or_some p none))
    (IsForestBut-new_image world i image free is refl (λ p none. absurd (none_or_some p none)) ok)

-- a window comes directly above another, with what that has
pub IsForest-replacement : (world : World) (i old p : ℕ) (r : Rect) (corner : Point) (raw : ℕ) (keep : Bool) → world i ≡ None → parent_of world old ≡ Some p → length (image_at world p).windows + 1 < 2 ^ 32 → IsRectNearBy (2 ^ 34) r → IsOrdered r → IsNearBy (2 ^ 34) corner → raw < 2 ^ channels.depth (image_at world old).chan → IsForest world → IsForest (with_windows (with_image world i (Some (replacement world old r raw keep))) p (put_above (record { image = i; place = carried_rect r r.min corner }) old (image_at (with_image world i (Some (replacement world old r raw keep))) p).windows))
IsForest-replacement world i old p r corner raw keep free e room near ordered near_corner fits ok =
    let image = image_at world old in
    let live : IsLive world old = live-standing world old p e in
    let below : IsLive world p = ok.parents old p live e in
    let fit : (q : Point) → taken_over world old r raw keep q < 2 ^ channels.depth image.chan = λ q. taken_over_below world old image.chan r raw keep q live (λ _. refl) fits ok in
    let is : IsImage (replacement world old r raw keep) = IsImage-made r image.chan image.standing image.depth (taken_over world old r raw keep) (ok.images old live).shallow (ok.images old live).chan fit near ordered in
    IsForest-put_above world i old p (replacement world old r raw keep) (carried_rect r r.min corner) free e room is refl refl refl refl (SameSize-carried r r.min corner)
    (reaches_near world ok p (carried r.min r.min corner) below (carried_min_near (2 ^ 34) r.min corner near_corner))
    ok

-- a window comes directly above another, with what that has, and that moves far outside
pub IsForest-after_replace : (world : World) (i old : ℕ) (r : Rect) (corner : Point) (raw : ℕ) (keep : Bool) → world i ≡ None → IsSome (parent_of world old) → ((p : ℕ) → parent_of world old ≡ Some p → length (image_at world p).windows + 1 < 2 ^ 32) → IsRectNearBy (2 ^ 34) r → IsOrdered r → IsNearBy (2 ^ 34) corner → raw < 2 ^ channels.depth (image_at world old).chan → IsForest world → IsForest (after_replace world i old r corner raw keep)
unfolding after_replace
IsForest-after_replace world i old r corner raw keep free window room near ordered near_corner fits ok = by_parent (parent_of world old) refl window
  where
    by_parent : (parent : Option ℕ) → parent_of world old ≡ parent → IsSome parent → IsForest (after_replace world i old r corner raw keep)
    by_parent None e some = absurd (true≢false (sym some))
    by_parent (Some p) e some =
        let image = image_at world old in
        let live : IsLive world old = live-standing world old p e in
        let fresh : Image = replacement world old r raw keep in
        let place : Rect = carried_rect r r.min corner in
        let first : Window = record { image = i; place = place } in
        let one : World = with_image world i (Some fresh) in
        let two : World = with_windows one p (put_above first old (image_at one p).windows) in
        let at_old : one old ≡ world old = with_image-free world i old (Some fresh) free live in
        let still_old : two old ≡ world old = with_windows-other one p (put_above first old (image_at one p).windows) old (parent-apart world ok old p e) ∙ at_old in
        let stands_one : parent_of one old ≡ Some p = ap (λ (slot : Option Image). option_map (λ s. s.parent) (unwrap_or slot no_image).standing) at_old ∙ e in
        let stands_two : parent_of two old ≡ Some p = ap (λ (slot : Option Image). option_map (λ s. s.parent) (unwrap_or slot no_image).standing) still_old ∙ e in
        let second : IsForest two = IsForest-replacement world i old p r corner raw keep free e (room p e) near ordered near_corner fits ok in
        subst (λ (w : World). IsForest (after_list w old (moved old (carried_rect image.r image.r.min outside)))) (sym (after_list-at one old p (put_above first old) stands_one))
        (IsForest-outside two second old p image.r stands_two (ap (λ (slot : Option Image). (unwrap_or slot no_image).r) still_old))

-- what a window needs that comes topmost on an image, with what another shows in the same channels, or one raw pixel
pub record IsCarriedOver (world : World) (old parent fill : ℕ) (r : Rect) (corner : Point) (raw : ℕ) (keep : Bool) : Type 0 where
  pub live : IsLive world old
  pub parent_live : IsLive world parent
  pub fill_live : IsLive world fill
  pub shallow : (image_at world parent).depth + 1 < 2 ^ 32
  pub few : length (image_at world parent).windows + 1 < 2 ^ 32
  pub near : IsRectNearBy (2 ^ 34) r
  pub ordered : IsOrdered r
  pub near_corner : IsNearBy (2 ^ 34) corner
  pub fits : raw < 2 ^ channels.depth (image_at world parent).chan
  pub chan : keep ≡ true → (image_at world parent).chan ≡ (image_at world old).chan

pub IsForest-carried_over : (world : World) (i old parent fill : ℕ) (r : Rect) (corner : Point) (raw : ℕ) (keep : Bool) → world i ≡ None → IsCarriedOver world old parent fill r corner raw keep → IsForest world → IsForest (on_top world i parent fill r (carried_rect r r.min corner) (taken_over world old r raw keep))
IsForest-carried_over world i old parent fill r corner raw keep free is ok =
    IsForest-on_top world i parent fill r (carried_rect r r.min corner) (taken_over world old r raw keep) free
    (record {
      live = is.parent_live;
      fill_live = is.fill_live;
      shallow = is.shallow;
      few = is.few;
      fits = λ p. taken_over_below world old (image_at world parent).chan r raw keep p is.live is.chan is.fits ok;
      near = is.near;
      ordered = is.ordered;
      size = SameSize-carried r r.min corner;
      corner = carried_min_near (2 ^ 34) r.min corner is.near_corner;
    })
    ok

-- and that moves far outside
pub IsForest-after_replace_on : (world : World) (i old parent fill : ℕ) (r : Rect) (corner : Point) (raw : ℕ) (keep : Bool) → world i ≡ None → IsCarriedOver world old parent fill r corner raw keep → IsForest world → IsForest (after_replace_on world i old parent fill r corner raw keep)
unfolding after_replace_on
IsForest-after_replace_on world i old parent fill r corner raw keep free is ok = by_parent (parent_of two old) refl
  where
    two : World
    two = on_top world i parent fill r (carried_rect r r.min corner) (taken_over world old r raw keep)

    second : IsForest two
    second = IsForest-carried_over world i old parent fill r corner raw keep free is ok

    by_parent : (p : Option ℕ) → parent_of two old ≡ p → IsForest (after_list two old (moved old (carried_rect (image_at world old).r (image_at world old).r.min outside)))
    by_parent None e = rw e second
    by_parent (Some p) e =
        IsForest-outside two second old p (image_at world old).r e
        (rect-on_top world i parent fill r (carried_rect r r.min corner) (taken_over world old r raw keep) old free is.live)
