-- A group of windows stands on one image.
use Rattle.std.proofs.Common.{◌≡◌, ◌∙◌, ◌+◌, ◌<◌, ◌≤◌, ℕ, Bool, [], ◌∷◌, List, Option, Some, None, All, cond, get_or, length, map, take, refl, subst, sym, ap, true, false, arith}
use Rattle.std.specs.Prelude.{◌==◌, ◌&&◌, ◌||◌, find, is_some, option_map, slice_get, sum_by, unwrap_or, IsSome}
use Rattle.std.specs.Option.{option_map_or}
use Rattle.std.proofs.lemmas.Bool.{false_from_ne_true, false≢true}
use Rattle.std.proofs.lemmas.Bool.Decides.{Decides-eqb}
use Rattle.std.proofs.lemmas.Int.{ints}
use Rattle.std.proofs.lemmas.List.{get_or-map, length-map, take_all}
use Rattle.std.proofs.lemmas.List.Sums.{sum_by-cons}
use Rattle.std.proofs.lemmas.List.Elements.{All-head, All-tail}
use Rattle.r9_geom.specs.declared.Point.{Point}
use Rattle.r9_geom.specs.Geometry.{area_of, holds}
use Rattle.r9_geom.proofs.GeometryLemmas.{bounds_of}
use Rattle.r9_region.specs.Region.{covers}
use Rattle.r9_restack.proofs.Areas.{covers_more}
use Rattle.model_kept.specs.Keeping.{place_among}
use Rattle.model_kept.specs.Keeping.{with_kept}
use Rattle.r9_locate.specs.declared.locate.lists.Lists.{Lists}
use Rattle.r9_locate.specs.locate.Table.{shape}
use Rattle.r9_pixels.specs.declared.keeping.KeptPixels.{KeptPixels}
use Rattle.r9_pixels.specs.Kept.{kept_at}
use Rattle.r9_relist.proofs.arrive.Canvases.{bare_canvas}
use Rattle.r9_forest.proofs.Going.{window_placed}
use Rattle.model_forest.specs.declared.Standing.{Standing}
use Rattle.model_forest.specs.declared.Window.{Window}
use Rattle.model_forest.specs.Stack.{after_restack, with_windows}
use Rattle.model_forest.specs.World.{Image, World, image_at, no_image, no_rect, parent_of, IsForest, IsLive}
use Rattle.r9_locate.specs.declared.info.ImageNo.{ImageNo}
use Rattle.r9_forest.specs.Groups.{group_area, places_of, IsGroupOn}

-- what has a parent is live
pub stands-live : (world : World) (i : ℕ) → IsSome (parent_of world i) → IsLive world i
stands-live world i stands = at (world i) stands
  where
    at : (o : Option Image) → is_some (option_map (λ (s : Standing). s.parent) (unwrap_or o no_image).standing) ≡ true → is_some o ≡ true
    at None e = absurd (false≢true e)
    at (Some image) e = refl

group_first : (world : World) (first : ℕ) (rest : List ℕ) (s : Standing) → IsForest world → IsLive world first → (image_at world first).standing ≡ Some s → IsGroupOn world (first ∷ rest) s.parent
group_first world first rest s ok live stands =
    let parent : parent_of world first ≡ Some s.parent = ap (option_map (λ (t : Standing). t.parent)) stands in
    record {
      live = ok.parents first s.parent live parent;
      restacked = λ order. ap (λ (o : Option ℕ). with_windows world (unwrap_or o 0) (order (image_at world (unwrap_or o 0)).windows)) parent;
    }

pub group_on : (world : World) (group : List ImageNo) (first : ImageNo) (s : Standing) → IsForest world → Some first ≡ slice_get group 0 → (image_at world first.0).standing ≡ Some s → IsGroupOn world (map (λ i. i.0) group) s.parent
group_on world [] first s ok is stands = cc
group_on world (i ∷ group) first s ok is stands =
    let same : i ≡ first = cc in
    let here : (image_at world i.0).standing ≡ Some s = ap (λ (n : ImageNo). (image_at world n.0).standing) same ∙ stands in
    let parent : parent_of world i.0 ≡ Some s.parent = ap (option_map (λ (t : Standing). t.parent)) here in
    group_first world i.0 (map (λ n. n.0) group) s ok (stands-live world i.0 (ap is_some parent)) here

-- the world with the list in that order
pub group_listed : (world : World) (group : List ℕ) (p : ℕ) (list : List Window) (order : List Window → List Window) → IsGroupOn world group p → list ≡ order (image_at world p).windows → with_windows world p list ≡ after_restack order world group
group_listed world group p list order stands is = ap (λ (ws : List Window). with_windows world p ws) is ∙ sym (stands.restacked order)

-- what all of a group are its first is
pub of_first : (P : ImageNo → Type 0) (group : List ImageNo) (first : ImageNo) → Some first ≡ slice_get group 0 → All P group → P first
of_first P [] first is all = cc
of_first P (i ∷ group) first is all = let same : i ≡ first = cc in subst P same (All-head P i group all)

-- ---- the places of a group

-- what is found of windows is one of them
found_of : (P : Window → Type 0) (n : ℕ) (ws : List Window) (w : Window) → All P ws → find (λ v. v.image == n) ws ≡ Some w → P w × (w.image ≡ n)
found_of P n [] w all e = cc
found_of P n (v ∷ ws) w all e = by_test (v.image == n) refl e (found_of P n ws w (All-tail P v ws all))
  where
    by_test : (b : Bool) → (v.image == n) ≡ b → cond b (Some v) (find (λ u. u.image == n) ws) ≡ Some w → (find (λ u. u.image == n) ws ≡ Some w → P w × (w.image ≡ n)) → P w × (w.image ≡ n)
    by_test true f e rest =
        let same : v ≡ w = cc in
        (subst P same (All-head P v ws all), ap (λ (u : Window). u.image) (sym same) ∙ (Decides-eqb v.image n).0 f)
    by_test false f e rest = rest e

-- a place is no larger than its window
place_most : (world : World) (p n : ℕ) → IsForest world → IsLive world p → area_of (place_among (image_at world p).windows n) ≤ area_of (image_at world n).r
place_most world p n ok live = by_found (find (λ w. w.image == n) (image_at world p).windows) refl
  where
    ws : List Window
    ws = (image_at world p).windows

    by_found : (o : Option Window) → find (λ w. w.image == n) ws ≡ o → area_of (place_among ws n) ≤ area_of (image_at world n).r
    by_found None e =
        let none : area_of (place_among ws n) ≡ 0 = ap (λ o. area_of (option_map_or (λ (w : Window). w.place) o no_rect)) e in
        omega (arith, none)
    by_found (Some w) e =
        let found = found_of (λ v. parent_of world v.image ≡ Some p) n ws w (λ k d below. (ok.windows p live k d below).stands) e in
        let placed = window_placed world n p ok (ap (parent_of world) (sym found.1) ∙ found.0) in
        omega (arith, placed.area)

-- the places have no more points than the windows
pub places_most : (world : World) (p : ℕ) (group : List ℕ) → IsForest world → IsLive world p → sum_by area_of (places_of world p group) ≤ group_area world group
places_most world p [] ok live = omega arith
places_most world p (n ∷ group) ok live =
    omega (arith, sum_by-cons area_of (place_among (image_at world p).windows n) (places_of world p group), sum_by-cons (λ i. area_of (image_at world i).r) n group, place_most world p n ok live, places_most world p group ok live)

-- one more place
pub places_more : (world : World) (p : ℕ) (group : List ImageNo) (k : ℕ) (d : ImageNo) (z : Point) (now was : Bool) → k < length group → now ≡ (was || holds (place_among (image_at world p).windows (get_or group k d).0) z) → was ≡ covers (take k (places_of world p (map (λ i. i.0) group))) z → now ≡ covers (take (k + 1) (places_of world p (map (λ i. i.0) group))) z
places_more world p group k d z now was below is so_far =
    let ws = (image_at world p).windows in
    let numbers = map (λ (i : ImageNo). i.0) group in
    let long : k < length numbers = subst (λ n. k < n) (sym (length-map group (λ (i : ImageNo). i.0))) below in
    let longer : k < length (places_of world p numbers) = subst (λ n. k < n) (sym (length-map numbers (place_among ws))) long in
    let here : get_or (places_of world p numbers) k no_rect ≡ place_among ws (get_or group k d).0 =
    get_or-map (place_among ws) numbers k 0 no_rect long ∙ ap (place_among ws) (get_or-map (λ (i : ImageNo). i.0) group k d 0 below) in
    is ∙ ap (λ b. b || holds (place_among ws (get_or group k d).0) z) so_far
    ∙ or_turned (covers (take k (places_of world p numbers)) z) (holds (place_among ws (get_or group k d).0) z)
    ∙ ap (λ r. holds r z || covers (take k (places_of world p numbers)) z) (sym here)
    ∙ sym (covers_more (places_of world p numbers) k no_rect z longer)
  where
    or_turned : (a b : Bool) → (a || b) ≡ (b || a)
    or_turned true true = refl
    or_turned true false = refl
    or_turned false true = refl
    or_turned false false = refl

-- the points of a rectangle that its own min alone bounds are none
pub corner_covers : (at : Point) (z : Point) → holds (record { min = at; max = at }) z ≡ false
corner_covers at z =
    false_from_ne_true (holds (record { min = at; max = at }) z)
    (λ h. let b = bounds_of (record { min = at; max = at }) z h in absurd (omega (arith, ints, b.left, b.right)))

-- all places
pub places_all : (world : World) (p : ℕ) (group : List ImageNo) (k : ℕ) (z : Point) → length group ≤ k → covers (take k (places_of world p (map (λ i. i.0) group))) z ≡ covers (places_of world p (map (λ i. i.0) group)) z
places_all world p group k z past =
    let ws = (image_at world p).windows in
    let numbers = map (λ (i : ImageNo). i.0) group in
    let long : length (places_of world p numbers) ≤ k = omega (arith, past, length-map numbers (place_among ws), length-map group (λ (i : ImageNo). i.0)) in
    ap (λ ps. covers ps z) (take_all k (places_of world p numbers) long)

-- a test of which the other half holds
pub left_false : (a b : Bool) → (a && b) ≡ false → b ≡ true → a ≡ false
left_false true b none is = sym is ∙ none
left_false false b none is = refl

-- windows are as large in the world as in its lists
pub group_area-bare : (lists : Lists) (pixels : KeptPixels) (group : List ℕ) → group_area (with_kept (shape lists) (kept_at pixels)) group ≡ group_area (shape lists) group
group_area-bare lists pixels [] = refl
group_area-bare lists pixels (n ∷ group) =
    let same = ap area_of ((bare_canvas (shape lists) (kept_at pixels)).r n) in
    omega (arith, same, sum_by-cons (λ i. area_of (image_at (with_kept (shape lists) (kept_at pixels)) i).r) n group, sum_by-cons (λ i. area_of (image_at (shape lists) i).r) n group, group_area-bare lists pixels group)
