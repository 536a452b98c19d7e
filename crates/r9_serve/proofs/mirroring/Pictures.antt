-- The picture of a world whose display is there.
use Rattle.std.proofs.Common.{◌≡◌, ◌∙◌, ℕ, ℤ, pos, negsuc, suc, ◌+◌, ◌≤◌, ◌<◌, ◌+ℤ◌, ◌-ℤ◌, Bool, true, false, Option, Some, None, cond, refl, ap, sym, subst, arith}
use Rattle.std.proofs.lemmas.Bool.{and_parts, leb-true}
use Rattle.std.proofs.lemmas.Int.{ints}
use Rattle.std.specs.Option.{unwrap_or}
use Rattle.r9_geom.specs.declared.Point.{Point}
use Rattle.r9_geom.specs.declared.Rect.{Rect}
use Rattle.r9_geom.specs.Geometry.{distance, height, holds, natural, point_at, width}
use Rattle.r9_geom.proofs.GeometryLemmas.{point_holds, same_point, same_rect}
use Rattle.model_forest.specs.World.{World as Images, image_at, deepest, origin_point, IsForest, IsLive}
use Rattle.model_forest.specs.View.{view}
use Rattle.model_forest.specs.Paint.{paint}
use Rattle.model_forest.proofs.Views.{paint_within-is_view}
use Rattle.model_draw.specs.draw.Orders.{is_side}
use Rattle.model_draw.specs.draw.World.{at_number}
use Rattle.model_client.specs.cursor.Cursor.{cursor_at}
use Rattle.model_client.specs.mirror.Picture.{area}
use Rattle.law_devices.specs.sides.Display.{HasDisplay}
use Rattle.model_world.specs.World.{World}
use Rattle.r9_forest.specs.Marks.{shown_in}
use Rattle.model_mirror.specs.Pictures.{IsLawful}
use Rattle.model_mirror.specs.Shown.{mirrored, under_cursor}
use Rattle.r9_serve.proofs.mirroring.Cursor.{seen, spot}

painted : (world : Images) (i : ℕ) (p : Point) → IsForest world → IsLive world i → holds (image_at world i).r p ≡ true → paint world i p ≡ view world i p
unfolding view paint
painted world i p ok live inside = paint_within-is_view world ok (suc deepest) i p live inside

pub side_bounds : (n : ℕ) → is_side n ≡ true → (1 ≤ n) × (n ≤ 2048)
side_bounds n side = (let both = and_parts _ _ side in (leb-true 1 n both.0, leb-true n 2048 both.1))

-- ---- the rectangle of the display

natural_some : (z : ℤ) → 1 ≤ natural z → pos (natural z) ≡ z
natural_some (pos n) some = refl
natural_some (negsuc n) some = absurd (omega (arith, some))

reaches : (a b : ℤ) → a ≡ pos 0 → 1 ≤ distance a b → b ≡ pos (0 + distance a b)
reaches a b zero some = (let is = natural_some (b -ℤ a) some in omega (arith, ints, is, zero))

area_is : (r : Rect) → r.min ≡ origin_point → 1 ≤ width r → 1 ≤ height r → r ≡ area 0 0 (width r) (height r)
area_is r corner wide high =
    let left : r.min.x ≡ pos 0 = ap (λ (p : Point). p.x) corner in
    let top : r.min.y ≡ pos 0 = ap (λ (p : Point). p.y) corner in
    same_rect r (area 0 0 (width r) (height r)) left top (reaches r.min.x r.max.x left wide) (reaches r.min.y r.max.y top high)

from_zero : (n : ℕ) → (pos 0 +ℤ pos n) ≡ pos n
from_zero n = omega (arith, ints)

spot_is : (r : Rect) (x y : ℕ) → r.min ≡ origin_point → point_at r x y ≡ spot x y
spot_is r x y corner =
    same_point (point_at r x y) (spot x y)
    (ap (λ (p : Point). p.x +ℤ pos x) corner ∙ from_zero x)
    (ap (λ (p : Point). p.y +ℤ pos y) corner ∙ from_zero y)

-- ---- the picture

beside : (b : Bool) (x : ℕ) → b ≡ false → cond b x 0 ≡ 0
beside b x h = ap (λ (c : Bool). cond c x 0) h

inside : (b : Bool) (x : ℕ) → b ≡ true → cond b x 0 ≡ x
inside b x h = ap (λ (c : Bool). cond c x 0) h

over_same : (chan : ℕ) (pointer : Option Point) (pixel : Point → ℕ) (raw : ℕ) (p : Point) → pixel p ≡ raw → under_cursor chan pointer pixel p ≡ under_cursor chan pointer (λ q. raw) p
over_same chan None pixel raw p h = h
over_same chan (Some at) pixel raw p h = ap (unwrap_or (cursor_at chan at p)) h

module _ (chan : ℕ) (w : World) (has : HasDisplay chan w.desktop.device) where
  abbrev r : Rect
  r = (at_number w.desktop.device 0).r

  pub lawful : IsLawful (mirrored w)
  lawful =
      let wide = side_bounds (width r) has.wide in
      let high = side_bounds (height r) has.high in
      record {
        wide = wide.0;
        width = wide.1;
        tall = high.0;
        height = high.1;
        beside = λ p out. beside (holds r p) _ (ap (λ (s : Rect). holds s p) (area_is r has.corner wide.0 high.0) ∙ out);
      }

  -- its pixel in a column and a row
  pub pixel_at : (x y : ℕ) → IsForest w.desktop.device.images → x < width r → y < height r → (mirrored w).pixel (spot x y) ≡ seen chan w.desktop.pointer (shown_in w.desktop.device.images 0 x y) x y
  pixel_at x y forest across down =
      let images = w.desktop.device.images in
      let here = spot_is r x y has.corner in
      let holds_here : holds r (spot x y) ≡ true = subst (λ (p : Point). holds r p ≡ true) here (point_holds r x y across down) in
      let raw : paint images 0 (spot x y) ≡ shown_in images 0 x y = painted images 0 (spot x y) forest has.live holds_here ∙ ap (view images 0) (sym here) in
      inside (holds r (spot x y)) _ holds_here ∙ over_same _ w.desktop.pointer (paint images 0) (shown_in images 0 x y) (spot x y) raw
      ∙ ap (λ (c : ℕ). seen c w.desktop.pointer (shown_in images 0 x y) x y) has.chan_is
