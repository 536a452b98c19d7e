-- What a mirror shows of the display.
use Rattle.std.proofs.Common.{◌≡◌, ℕ, suc, pos, true, ◌+◌, ◌-◌, ◌*◌, ◌^◌, ◌<◌, ◌≤◌, List, Option, None, Some, length, refl, ap, ◌∙◌, sym, subst, arith}
use Rattle.std.specs.Prelude.{is_some, min, not}
use Rattle.std.specs.Option.{unwrap_or}
use Rattle.std.proofs.lemmas.Bool.{cond-true}
use Rattle.std.proofs.lemmas.Int.{ints}
use Rattle.r9_geom.specs.declared.Point.{Point}
use Rattle.r9_geom.specs.declared.Rect.{Rect}
use Rattle.r9_geom.specs.Geometry.{distance, height, holds, point_at, width, IsOrdered, IsRectNearBy}
use Rattle.r9_geom.proofs.GeometryLemmas.{bounds_of, cell_of, distance_is, holds_from, same_point}
use Rattle.r9_chan.proofs.ChannelLemmas.{is_depth_of}
use Rattle.model_pixel.specs.Channels.{depth, is_depth, is_descriptor}
use Rattle.model_pixel.specs.Rows.{row_pixel, rows_of}
use Rattle.model_forest.specs.World.{deepest, origin_point, IsForest}
use Rattle.model_forest.specs.Paint.{paint}
use Rattle.model_forest.specs.View.{view}
use Rattle.model_forest.proofs.Views.{paint_within-is_view}
use Rattle.model_draw.specs.draw.World.{World, at_number}
use Rattle.model_client.specs.cursor.Cursor.{cursor_at}
use Rattle.model_client.specs.mirror.Picture.{area}
use Rattle.law_devices.specs.sides.Display.{HasDisplay}
use Rattle.model_world.specs.World as world
use Rattle.model_mirror.specs.Frame.{AreRows, place_of, rect_of}
use Rattle.model_mirror.specs.Shown.{mirrored, under_cursor}
use Rattle.r9_hall.specs.hall.Marks.{Display, IsOf, IsSound}
use Rattle.r9_serve.specs.declared.sending.cells.Cell.{Cell}
use Rattle.r9_serve.specs.sending.Cells.{place_in, IsCellOf, IsPartOf}
use Rattle.r9_serve.proofs.sending.Rows.{length-rows_of, row_pixel-rows_of}

-- the display is there with lawful sides and these channels, and its marks and pixels are those of its device
pub record IsShown (chan : ℕ) (device : World) (display : Display) : Type 0 where
  pub has : HasDisplay chan device
  pub shows : IsOf device display
  pub sound : display.nowhere ≡ true → IsSound display
  pub forest : IsForest device.images

sound_of : (chan : ℕ) (device : World) (display : Display) → IsShown chan device display → IsSound display
sound_of chan device display is = is.sound (is.shows.nowhere ∙ ap (λ o. not (is_some o)) is.has.nowhere)

painted_is_view : (chan : ℕ) (device : World) (display : Display) (p : Point) → IsShown chan device display → holds (at_number device 0).r p ≡ true → paint device.images 0 p ≡ view device.images 0 p
unfolding view paint
painted_is_view chan device display p is inside = paint_within-is_view device.images is.forest (suc deepest) 0 p is.has.live inside

-- what is painted fits the channels
paint_below : (chan : ℕ) (device : World) (display : Display) (p : Point) → IsShown chan device display → holds display.r p ≡ true → paint device.images 0 p < 2 ^ depth chan
paint_below chan device display p is inside =
    let column = distance display.r.min.x p.x in
    let row = distance display.r.min.y p.y in
    let here : holds (at_number device 0).r p ≡ true = subst (λ (s : Rect). holds s p ≡ true) is.shows.r inside in
    let cell = cell_of display.r p inside in
    let shown : display.pixels column row ≡ paint device.images 0 p =
    (λ i. is.shows.pixels i column row)
    ∙ (λ i. view device.images 0 (point_at (sym is.shows.r i) column row))
    ∙ ap (view device.images 0) (same_point (point_at display.r column row) p cell.left cell.top)
    ∙ sym (painted_is_view chan device display p is here) in
    let bits : depth display.chan ≡ depth chan = ap depth (is.shows.chan ∙ is.has.chan_is) in
    subst (λ (n : ℕ). n < 2 ^ depth chan) shown
    (subst (λ (n : ℕ). display.pixels column row < 2 ^ n) bits ((sound_of chan device display is).fits column row cell.column cell.row))

-- what a mirror shows at a point of the display
mirrored_at : (chan : ℕ) (w : world.World) (display : Display) (p : Point) → IsShown chan w.desktop.device display → holds display.r p ≡ true
    → (mirrored w).pixel p ≡ under_cursor chan w.desktop.pointer (paint w.desktop.device.images 0) p
mirrored_at chan w display p is inside =
    let image = at_number w.desktop.device 0 in
    let here : holds image.r p ≡ true = subst (λ (s : Rect). holds s p ≡ true) is.shows.r inside in
    cond-true (holds image.r p) (under_cursor image.chan w.desktop.pointer (paint w.desktop.device.images 0) p) 0 here
    ∙ ap (λ (c : ℕ). under_cursor c w.desktop.pointer (paint w.desktop.device.images 0) p) is.has.chan_is

-- rows of what is painted, with the cursor over them where it stands
pub shown_rows : (chan : ℕ) (w : world.World) (display : Display) (r : Rect) (pointer : Option Point) (old new : List ℕ) → IsShown chan w.desktop.device display → IsPartOf display.r r → pointer ≡ w.desktop.pointer
    → old ≡ rows_of r (depth (at_number w.desktop.device 0).chan) (paint w.desktop.device.images 0) → length new ≡ length old
    → ((p : Point) → holds r p ≡ true → row_pixel r (depth chan) new p ≡ under_cursor chan pointer (row_pixel r (depth chan) old) p) → AreRows chan (mirrored w) r new
shown_rows chan w display r pointer old new is part here rows long pixels =
    let image = paint w.desktop.device.images 0 in
    let has : old ≡ rows_of r (depth chan) image = rows ∙ ap (λ (c : ℕ). rows_of r (depth c) image) is.has.chan_is in
    let lawful : is_depth (depth chan) ≡ true = is_depth_of chan (subst (λ (c : ℕ). is_descriptor c ≡ true) is.has.chan_is (is.forest.images 0 is.has.live).chan) in
    record {
      long = long ∙ ap length has ∙ length-rows_of r (depth chan) image;
      pixels = λ p inside.
          pixels p inside
          ∙ under_same chan pointer (row_pixel r (depth chan) old) image p
          (ap (λ (bytes : List ℕ). row_pixel r (depth chan) bytes p) has
          ∙ row_pixel-rows_of r (depth chan) image p part.near part.ordered lawful (λ q h. paint_below chan w.desktop.device display q is (part.inside q h)) inside)
          ∙ ap (λ (o : Option Point). under_cursor chan o image p) here
          ∙ sym (mirrored_at chan w display p is (part.inside p inside));
    }
  where
    under_same : (c : ℕ) (o : Option Point) (f g : Point → ℕ) (p : Point) → f p ≡ g p → under_cursor c o f p ≡ under_cursor c o g p
    under_same c None f g p same = same
    under_same c (Some at) f g p same = ap (unwrap_or (cursor_at c at p)) same

-- ---- where a cell stands

-- as the picture has it
pub place_is : (w : world.World) (display : Display) (cell : Cell) → IsOf w.desktop.device display → place_in display.r cell ≡ place_of (mirrored w) (cell.column, cell.row)
place_is w display cell is = ap (λ (r : Rect). place_in r cell) is.r

-- some of so many places from a first one on
record Side (places first : ℕ) : Type 0 where
  pub some : 0 < min 32 (places - first)
  pub within : first + min 32 (places - first) ≤ places

side_of : (places first : ℕ) → first < places → Side places first
side_of places first low = record { some = omega (arith, low); within = omega (arith, low) }

part_of : (r : Rect) (x y across down : ℕ) → r.min ≡ origin_point → IsOrdered r → IsRectNearBy (2 ^ 33) r → 0 < across → 0 < down → x + across ≤ width r → y + down ≤ height r → IsPartOf r (area x y across down)
part_of r x y across down corner ordered near wide tall right bottom =
    let s = area x y across down in
    let left : r.min.x ≡ pos 0 = ap (λ (p : Point). p.x) corner in
    let top : r.min.y ≡ pos 0 = ap (λ (p : Point). p.y) corner in
    let columns = distance_is r.min.x r.max.x ordered.across in
    let rows = distance_is r.min.y r.max.y ordered.down in
    let far_right = near.max.right in
    let far_down = near.max.bottom in
    record {
      near = record {
        min = record { left = omega (arith, ints); right = omega (arith, ints, left, columns, far_right, right); top = omega (arith, ints); bottom = omega (arith, ints, top, rows, far_down, bottom) };
        max = record { left = omega (arith, ints); right = omega (arith, ints, left, columns, far_right, right); top = omega (arith, ints); bottom = omega (arith, ints, top, rows, far_down, bottom) };
      };
      ordered = record { across = omega (arith, ints); down = omega (arith, ints) };
      points = record { across = omega (arith, ints, wide); down = omega (arith, ints, tall) };
      inside = λ p h.
          let at = bounds_of s p h in
          holds_from r p (record {
            left = omega (arith, ints, at.left, left);
            right = omega (arith, ints, at.right, left, columns, right);
            top = omega (arith, ints, at.top, top);
            bottom = omega (arith, ints, at.bottom, top, rows, bottom);
          });
    }

pub cell_part : (r : Rect) (cell : Cell) → r.min ≡ origin_point → IsOrdered r → IsRectNearBy (2 ^ 33) r → IsCellOf r cell → IsPartOf r (rect_of (place_in r cell))
cell_part r cell corner ordered near is =
    let across = side_of (width r) (32 * cell.column) is.column in
    let down = side_of (height r) (32 * cell.row) is.row in
    part_of r (32 * cell.column) (32 * cell.row) (min 32 (width r - 32 * cell.column)) (min 32 (height r - 32 * cell.row)) corner ordered near across.some down.some across.within down.within

-- the sides of an area
pub area_width : (x y across down : ℕ) → width (area x y across down) ≡ across
area_width x y across down =
    let all = distance_is (pos x) (pos (x + across)) (omega (arith, ints)) in omega (arith, ints, all)

pub area_height : (x y across down : ℕ) → height (area x y across down) ≡ down
area_height x y across down =
    let all = distance_is (pos y) (pos (y + down)) (omega (arith, ints)) in omega (arith, ints, all)
