-- What a plane of a viewer shows after a step.
use Rattle.std.proofs.Common.{◌≡◌, ◌∙◌, ℕ, true, false, refl, sym, ap, arith, subst, ⊎_elim, Option, Some, None, List, length}
use Rattle.std.specs.Prelude.{Result, Ok, Err, IfOk, IfSome, is_ok, is_some, if◌then◌else◌}
use Rattle.std.specs.Borrow.{Bor}
use Rattle.std.specs.Result.{result_unwrap_or}
use Rattle.std.specs.Option.{option_map}
use Rattle.std.proofs.lemmas.Int.{ints}
use Rattle.std.proofs.lemmas.Bool.{both_ways, cases_Bool, cond-false, cond-true}
use Rattle.std.proofs.lemmas.Option.{none-some, same_Some}
use Rattle.r9_geom.specs.declared.Point.{Point}
use Rattle.r9_geom.specs.declared.Rect.{Rect}
use Rattle.r9_geom.specs.Geometry.{height, holds, width, IsOrdered}
use Rattle.r9_geom.proofs.GeometryLemmas.{distance_is, same_rect}
use Rattle.model_pixel.specs.Channels.{depth}
use Rattle.model_pixel.specs.Rows.{row_pixel}
use Rattle.model_client.specs.mirror.Picture.{Picture, area, with_rows}
use Rattle.model_client.specs.mirror.Frames.{viewed}
use Rattle.r9_plane.specs.declared.plane.Plane.{Plane}
use Rattle.r9_plane.specs.Pixels.{pixel_at, rect_of}
use Rattle.r9_plane.proofs.PlaneLemmas.{pixel_outside}
use Rattle.r9_mirror.specs.declared.lines.Size.{Size}
use Rattle.r9_mirror.specs.Sizes.{blank_of, size_of}
use Rattle.r9_mirror.specs.declared.place.Place.{Place}
use Rattle.r9_mirror.specs.declared.place.Step.{Step}
use Rattle.r9_mirror.specs.declared.place.Step.TheVariants.{Cell, Frame}
use Rattle.r9_mirror.specs.Left.{stepped, IsFurther, Keeps, Leaves, Tells}
use Rattle.r9_mirror.specs.Shown.{shown, IsScreen}

-- the rectangle of a viewer's plane
pub screen_area : (chan : ℕ) (plane : Plane) → IsScreen chan plane → IsOrdered (rect_of plane) → rect_of plane ≡ area 0 0 (width (rect_of plane)) (height (rect_of plane))
screen_area chan plane is ordered =
    let r = rect_of plane in
    let across = distance_is r.min.x r.max.x ordered.across in
    let down = distance_is r.min.y r.max.y ordered.down in
    same_rect r (area 0 0 (width r) (height r)) is.left is.top (omega (arith, ints, across, is.left)) (omega (arith, ints, down, is.top))

-- rows are put
pub shown_rows : (chan : ℕ) (old new : Plane) (r : Rect) (rows : List ℕ) → rect_of new ≡ rect_of old
    → ((q : Point) → pixel_at new q ≡ (if holds r q then row_pixel r (depth chan) rows q else pixel_at old q)) → with_rows chan r rows (shown old) ≡ shown new
shown_rows chan old new r rows rect pixels =
    λ i. record { width = width (sym rect i); height = height (sym rect i); pixel = λ q. sym (pixels q) i }

-- the text from its front on
pub starts : (chan : ℕ) (text : List ℕ) (size : Option Size) (before : Option Picture) → option_map size_of before ≡ size
    → Leaves chan text (record { at = 0; left = 0; first = 0; size = size }) before (viewed chan before text)
unfolding viewed
starts chan text size None e = record { size = e; most = length text; enough = omega arith; left = refl }
starts chan text size (Some picture) e = record { size = e; most = length text; enough = omega arith; left = refl }

beside : (plane : Plane) (q : Point) → holds (rect_of plane) q ≡ false → pixel_at plane q ≡ 0
unfolding pixel_at
beside plane q h = pixel_outside plane.r plane.chan plane.bytes.items q h

-- a picture of zero bits is put
pub shown_blank : (old new : Plane) (size : Size) → rect_of new ≡ rect_of old → size_of (shown old) ≡ size
    → ((q : Point) → pixel_at new q ≡ (if holds (rect_of old) q then 0 else pixel_at old q)) → blank_of size ≡ shown new
shown_blank old new size rect same pixels =
    sym
    ((λ i. record { width = width (rect i); height = height (rect i); pixel = λ q. zero_at q i })
    ∙ ap blank_of same)
  where
    zero_at : (q : Point) → pixel_at new q ≡ 0
    zero_at q =
        ⊎_elim
        (λ (h : holds (rect_of old) q ≡ true). pixels q ∙ cond-true (holds (rect_of old) q) 0 (pixel_at old q) h)
        (λ (h : holds (rect_of old) q ≡ false). pixels q ∙ cond-false (holds (rect_of old) q) 0 (pixel_at old q) h ∙ beside old q h)
        (cases_Bool (holds (rect_of old) q))

-- what a step makes of what is shown
pub frame_shown : (chan : ℕ) (old new : Plane) (step : Step) (blank : Option Size) → step ≡ Frame blank
    → shown new ≡ (if is_some blank then blank_of (size_of (shown old)) else shown old)
    → (before : Option Size) (picture : Option Picture) → Keeps chan before (Some (size_of (shown old))) step
    → (before ≡ Some (size_of (shown old)) → picture ≡ Some (shown old)) → stepped chan step picture ≡ Some (shown new)
frame_shown chan old new step (Some size) is put before picture =
    subst
    (λ (s : Step). Keeps chan before (Some (size_of (shown old))) s → (before ≡ Some (size_of (shown old)) → picture ≡ Some (shown old)) → stepped chan s picture ≡ Some (shown new))
    (sym is)
    (λ keeps as_before. ap (λ (own : Size). Some (blank_of own)) (sym (same_Some (size_of (shown old)) size keeps)) ∙ ap (λ (p : Picture). Some p) (sym put))
frame_shown chan old new step None is put before picture =
    subst
    (λ (s : Step). Keeps chan before (Some (size_of (shown old))) s → (before ≡ Some (size_of (shown old)) → picture ≡ Some (shown old)) → stepped chan s picture ≡ Some (shown new))
    (sym is)
    (λ keeps as_before. as_before (sym keeps) ∙ ap (λ (p : Picture). Some p) (sym put))

pub cell_shown : (chan : ℕ) (old new : Plane) (step : Step) (r : Rect) (rows : Bor (List ℕ)) → step ≡ Cell r rows → rect_of new ≡ rect_of old
    → ((q : Point) → pixel_at new q ≡ (if holds r q then row_pixel r (depth chan) rows.now q else pixel_at old q))
    → (before : Option Size) (picture : Option Picture) → Keeps chan before (Some (size_of (shown old))) step
    → (before ≡ Some (size_of (shown old)) → picture ≡ Some (shown old)) → stepped chan step picture ≡ Some (shown new)
cell_shown chan old new step r rows is rect pixels before picture =
    subst
    (λ (s : Step). Keeps chan before (Some (size_of (shown old))) s → (before ≡ Some (size_of (shown old)) → picture ≡ Some (shown old)) → stepped chan s picture ≡ Some (shown new))
    (sym is)
    (λ keeps as_before. ap (option_map (with_rows chan r rows.now)) (as_before (sym keeps.0)) ∙ ap (λ (p : Picture). Some p) (shown_rows chan old new r rows.now rect pixels))

pub same_size : (a b : Plane) → rect_of a ≡ rect_of b → size_of (shown a) ≡ size_of (shown b)
same_size a b rect = λ i. record { width = width (rect i); height = height (rect i) }

-- an answer where the frames fit
pub told_on : (chan : ℕ) (text : List ℕ) (picture after : Option Picture) (answer : Result (Option (Step × Place)) ℕ) (next : Option (Step × Place))
    → Tells chan text picture (Ok after) answer → result_unwrap_or answer None ≡ next → Tells chan text picture (Ok after) (Ok next)
told_on chan text picture after (Ok answer) next tells is = subst (λ (o : Option (Step × Place)). Tells chan text picture (Ok after) (Ok o)) is tells
told_on chan text picture after (Err place) next tells is = absurd (both_ways true (ap is_ok tells) refl)

pub further_on : (chan : ℕ) (text : List ℕ) (place : Place) (answer : Result (Option (Step × Place)) ℕ) (next : Step × Place)
    → IfOk answer (λ o. IfSome o (λ x. IsFurther chan text place x.1 x.0)) → result_unwrap_or answer None ≡ Some next → IsFurther chan text place next.1 next.0
further_on chan text place (Ok answer) next further is = subst (λ (o : Option (Step × Place)). IfSome o (λ x. IsFurther chan text place x.1 x.0)) is further
further_on chan text place (Err at) next further is = absurd (none-some _ is)
