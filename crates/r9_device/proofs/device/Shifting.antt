-- An image that gets other coordinates of its own keeps what the images and the book keep together.
use Rattle.std.proofs.Common.{◌≡◌, ℕ, Bool, true, false, ℤ, pos, neg_ℤ, ◌≤ℤ◌, ◌-ℤ◌, Option, Some, refl, sym, ap, subst, ◌∙◌, arith}
use Rattle.std.specs.Prelude.{◌^◌, ◌==◌, is_some, unwrap_or}
use Rattle.std.specs.Int.{int_min}
use Rattle.std.proofs.lemmas.Bool.{eqb-true}
use Rattle.std.proofs.lemmas.Int.{int_max_is, int_min_is, ints}
use Rattle.r9_geom.specs.declared.Point.{Point}
use Rattle.r9_geom.specs.declared.Rect.{Rect}
use Rattle.r9_geom.specs.Geometry.{at_min, HasPoints, IsOrdered, IsRectNearBy}
use Rattle.model_forest.specs.World.{Image, World as Images, image_at, no_image, parent_of}
use Rattle.model_forest.specs.Steps.{after_origin, carried_rect, clamped, clamped_rect, shifted_image}
use Rattle.model_forest.proofs.Releasing.{Stays, origin-at, origin-others}
use Rattle.model_draw_parts.specs.images.Book.{Book}
use Rattle.model_draw_parts.specs.declared.images.Thing.TheVariants.{Image as Shown}
use Rattle.model_draw_parts.specs.images.Release.{is_used}
use Rattle.r9_device.specs.device.Kept.{IsKept, IsPlaced}
use Rattle.r9_device.proofs.device.Kept.{placed-framed}

clamped-low : (x : ℤ) → neg_ℤ (pos (2 ^ 33)) ≤ℤ clamped x
clamped-low x =
    let low = int_max_is (neg_ℤ (pos (2 ^ 31))) (int_min x (pos (2 ^ 31) -ℤ pos 1)) in
    omega (arith, ints)

clamped-high : (x : ℤ) → clamped x ≤ℤ pos (2 ^ 33)
clamped-high x =
    let low = int_max_is (neg_ℤ (pos (2 ^ 31))) (int_min x (pos (2 ^ 31) -ℤ pos 1)) in
    let high = int_min_is x (pos (2 ^ 31) -ℤ pos 1) in
    omega (arith, ints)

pub clamped-near : (r : Rect) → IsRectNearBy (2 ^ 33) (clamped_rect r)
clamped-near r = record {
  min = record { left = clamped-low r.min.x; right = clamped-high r.min.x; top = clamped-low r.min.y; bottom = clamped-high r.min.y };
  max = record { left = clamped-low r.max.x; right = clamped-high r.max.x; top = clamped-low r.max.y; bottom = clamped-high r.max.y };
}

pub shifted_near : (r : Rect) (min : Point) → IsRectNearBy (2 ^ 32) (at_min r min) → IsRectNearBy (2 ^ 32) (carried_rect r r.min min)
shifted_near r min h =
    let low = h.min in
    let left = low.left in
    let right = low.right in
    let top = low.top in
    let bottom = low.bottom in
    record { min = record { left = omega (arith, ints); right = omega (arith, ints); top = omega (arith, ints); bottom = omega (arith, ints) }; max = h.max }

shifted_ordered : (r : Rect) (min : Point) → IsOrdered r → IsOrdered (carried_rect r r.min min)
shifted_ordered r min h =
    let across = h.across in
    let down = h.down in
    record { across = omega (arith, ints); down = omega (arith, ints) }

pub shifted_points : (r : Rect) (min : Point) → HasPoints r → HasPoints (carried_rect r r.min min)
shifted_points r min h =
    let across = h.across in
    let down = h.down in
    record { across = omega (arith, ints); down = omega (arith, ints) }

pub kept-shifted : (images : Images) (book : Book) (i : ℕ) (min corner : Point) → IsKept images book → is_some (images i) ≡ true → ((p : ℕ) → parent_of images i ≡ Some p → is_some (images p) ≡ true)
    → IsRectNearBy (2 ^ 32) (at_min (image_at images i).r min) → IsKept (after_origin images i min corner) book
kept-shifted images book i min corner kept live parents near = record {
  live = λ j h. still j (j == i) refl (kept.live j h);
  placed = λ j. placed j (j == i) refl;
  screens = kept.screens;
  display = kept.display;
  points = λ j h n. points j (j == i) refl h n;
  used = λ j h. used j (j == i) refl h;
  screens_used = kept.screens_used;
  finds = kept.finds;
}
  where
    used : (j : ℕ) (b : Bool) → (j == i) ≡ b → is_some (after_origin images i min corner j) ≡ true → is_used book (Shown j) ≡ true
    used j true e h = let P : ℕ → Type 0 = λ n. is_used book (Shown n) ≡ true in subst P (sym (eqb-true j i e)) (kept.used i live)
    used j false e h = kept.used j (sym (origin-others images i min corner j parents e).live ∙ h)

    stays : (j : ℕ) → (j == i) ≡ false → Stays images (after_origin images i min corner) j
    stays j e = origin-others images i min corner j parents e

    still : (j : ℕ) (b : Bool) → (j == i) ≡ b → is_some (images j) ≡ true → is_some (after_origin images i min corner j) ≡ true
    still j true e h = ap (λ n. is_some (after_origin images i min corner n)) (eqb-true j i e) ∙ ap is_some (origin-at images i min corner)
    still j false e h = (stays j e).live ∙ h

    moved : IsPlaced book i (shifted_image (image_at images i) min)
    moved =
        let p = kept.placed i in
        record {
          stands = p.stands;
          ordered = shifted_ordered (image_at images i).r min p.ordered;
          near = shifted_near (image_at images i).r min near;
          clip = clamped-near (carried_rect (image_at images i).clipr (image_at images i).r.min min);
        }

    placed : (j : ℕ) (b : Bool) → (j == i) ≡ b → IsPlaced book j (image_at (after_origin images i min corner) j)
    placed j true e =
        let P : ℕ → Type 0 = λ n. IsPlaced book n (image_at (after_origin images i min corner) n) in
        let Q : Option Image → Type 0 = λ o. IsPlaced book i (unwrap_or o no_image) in
        subst P (sym (eqb-true j i e)) (subst Q (sym (origin-at images i min corner)) moved)
    placed j false e = placed-framed book j (image_at images j) _ (stays j e).frame (kept.placed j)

    points : (j : ℕ) (b : Bool) → (j == i) ≡ b → is_some (after_origin images i min corner j) ≡ true → (j == 0) ≡ false → HasPoints (image_at (after_origin images i min corner) j).r
    points j true e h n =
        let P : ℕ → Type 0 = λ m. HasPoints (image_at (after_origin images i min corner) m).r in
        let Q : Option Image → Type 0 = λ o. HasPoints (unwrap_or o no_image).r in
        let at : HasPoints (image_at images i).r = kept.points i live (ap (λ m. m == 0) (sym (eqb-true j i e)) ∙ n) in
        subst P (sym (eqb-true j i e)) (subst Q (sym (origin-at images i min corner)) (shifted_points (image_at images i).r min at))
    points j false e h n = subst HasPoints (sym (stays j e).frame.r) (kept.points j (sym (stays j e).live ∙ h) n)
