-- If windows fill their places, painting from back to front gives what images show, and reading gives its rows.
use Rattle.std.proofs.Common.{◌≡◌, ◌<◌, ◌+◌, ◌*◌, ◌/◌, ◌%◌, ◌-◌, ◌&&◌, ℕ, zero, suc, Bool, true, false, List, Some, Ok, refl, sym, ap, subst, ◌∙◌, arith}
use Rattle.std.specs.Prelude.{◌||◌, length, nat_le, nat_lt, not, if◌then◌else◌}
use Rattle.std.proofs.lemmas.Bool.Decides.{nat_tests}
use Rattle.std.proofs.lemmas.List.{ext_get_or}
use Rattle.std.proofs.lemmas.List.FromFn.{get_or-map-range_with_len, length-map-range_with_len}
use Rattle.std.proofs.lemmas.Nat.{div_below}
use Rattle.r9_geom.specs.declared.Point.{Point}
use Rattle.r9_geom.specs.declared.Rect.{Rect}
use Rattle.r9_geom.specs.Geometry.{height, holds, is_empty, is_inside, point_at, width}
use Rattle.r9_geom.proofs.GeometryLemmas.{inside_tells, point_holds}
use Rattle.model_pixel.specs.Channels as channels
use Rattle.model_pixel.specs.Rows.{byte_at, row_bytes, row_place, rows_of, skip}
use Rattle.model_forest.specs.declared.Window.{Window}
use Rattle.model_forest.specs.World.{World as Images, deepest, image_at}
use Rattle.model_forest.specs.View.{inward, top_window, view, view_within}
use Rattle.model_forest.specs.Paint.{paint, paint_within}
use Rattle.model_forest.proofs.Views.{All-top_window, holds-carried, holds-top_window, painted_over-at}
use Rattle.model_draw.specs.imgfile.ImageFile.{image_file, rows_len}
use Rattle.model_draw.specs.draw.Files.{screen_file}
use Rattle.model_draw.specs.draw.Orders.{image_shown, picture_of}
use Rattle.model_draw.specs.draw.World.{World, at_number, client_of, look, with_client}
use Rattle.model_draw.specs.draw.Drawing.{most_read, read_pixels}
use Rattle.law_shown.proofs.shown.Tests.{refuse_ok, same_Ok, second_false, then_ok}
use Rattle.law_screen.specs.Painted.{IsPainted, ReadsPainting, file_shown}
use Rattle.law_screen.proofs.Placed.{ArePlaced, IsPlaced}

-- the point of the topmost window that is seen at a point is one of its own
seen_inside : (images : Images) → ArePlaced images → (i : ℕ) (p : Point) (w : Window) → top_window (image_at images i).windows p ≡ Some w → holds (image_at images w.image).r (inward images w p) ≡ true
seen_inside images placed i p w top =
    let is : IsPlaced images i w = All-top_window (IsPlaced images i) (image_at images i).windows p w (placed i) top in
    sym (holds-carried w.place (image_at images w.image).r p is.size) ∙ holds-top_window (image_at images i).windows p w top

paint_within_shown : (images : Images) → ArePlaced images → (depth i : ℕ) (p : Point) → holds (image_at images i).r p ≡ true → paint_within depth images i p ≡ view_within depth images i p
paint_within_shown images placed zero i p inside = refl
paint_within_shown images placed (suc depth) i p inside =
    painted_over-at (image_at images i).r
    (λ w q. paint_within depth images w.image (inward images w q))
    (λ w q. view_within depth images w.image (inward images w q))
    (image_at images i).windows (image_at images i).canvas p inside
    (λ w top. paint_within_shown images placed depth w.image (inward images w p) (seen_inside images placed i p w top))

pub images_painted : (images : Images) → ArePlaced images → IsPainted images
unfolding view paint
images_painted images placed = record {
  shown = λ i p inside. sym (paint_within_shown images placed (suc deepest) i p inside);
  deep = λ depth i p inside. sym (paint_within_shown images placed depth i p inside);
}

-- ---- rows

-- byte k of the rows of a rectangle
abbrev byte_of : Rect → (depth : ℕ) → (Point → ℕ) → (k : ℕ) → ℕ
byte_of r depth pixel k = byte_at depth (row_place r depth pixel (k / row_bytes r depth)) (k % row_bytes r depth)

module _ (r : Rect) (depth : ℕ) (one other : Point → ℕ) (agree : (p : Point) → holds r p ≡ true → one p ≡ other p) where
  place_same : (row n : ℕ) → row < height r → row_place r depth one row n ≡ row_place r depth other row n
  place_same row n low = by (nat_le (skip r depth) n && nat_lt n (skip r depth + width r)) refl
    where
      by : (b : Bool) → (nat_le (skip r depth) n && nat_lt n (skip r depth + width r)) ≡ b
          → (if b then one (point_at r (n - skip r depth) row) else 0) ≡ (if b then other (point_at r (n - skip r depth) row) else 0)
      by true is =
          let column : n - skip r depth < width r = below (skip r depth) (width r) is in
          agree (point_at r (n - skip r depth) row) (point_holds r (n - skip r depth) row column low)
        where
          below : (first wide : ℕ) → (nat_le first n && nat_lt n (first + wide)) ≡ true → n - first < wide
          below first wide is = grind (arith, nat_tests, is)
      by false is = refl

  byte_same : (k : ℕ) → k < row_bytes r depth * height r → byte_of r depth one k ≡ byte_of r depth other k
  byte_same k below =
      let some : 0 < row_bytes r depth = positive (row_bytes r depth) (height r) below in
      let low : k / row_bytes r depth < height r = div_below k (row_bytes r depth) (height r) some (turned (row_bytes r depth) (height r) below) in
      λ j. byte_at depth (λ n. place_same (k / row_bytes r depth) n low j) (k % row_bytes r depth)
    where
      positive : (line rows : ℕ) → k < line * rows → 0 < line
      positive line rows below = grind arith

      turned : (line rows : ℕ) → k < line * rows → k < rows * line
      turned line rows below = grind arith

  pub rows_same : rows_of r depth one ≡ rows_of r depth other
  unfolding rows_of
  rows_same =
      let all = row_bytes r depth * height r in
      let long : (pixel : Point → ℕ) → length (rows_of r depth pixel) ≡ all = λ pixel. length-map-range_with_len (byte_of r depth pixel) 0 all in
      ext_get_or 0 (rows_of r depth one) (rows_of r depth other) (long one ∙ sym (long other)) (λ k lt.
      let below : k < all = subst (λ (n : ℕ). k < n) (long one) lt in
      get_or-map-range_with_len (byte_of r depth one) 0 all k k 0 below (omega arith)
      ∙ byte_same k below
      ∙ sym (get_or-map-range_with_len (byte_of r depth other) 0 all k k 0 below (omega arith)))

-- ---- what is read

pub device_read : (device : World) → ArePlaced device.images → ReadsPainting device
unfolding read_pixels screen_file picture_of
device_read device placed = record {
  rows = λ client id i r next looked e. read client id i r next looked e;
  screen = file 0;
  picture = λ window. file (image_shown device window);
}
  where
    painted : IsPainted device.images
    painted = images_painted device.images placed

    file : (i : ℕ) → (let image = at_number device i in image_file image.chan image.r (rows_of image.r (channels.depth image.chan) (paint device.images i))) ≡ file_shown device i
    file i =
        let image = at_number device i in
        ap (image_file image.chan image.r) (rows_same image.r (channels.depth image.chan) (paint device.images i) (view device.images i) (λ p here. sym (painted.shown i p here)))

    some : (x y : Bool) → (x || not y) ≡ false → y ≡ true
    some x true none = refl
    some x false none = absurd (let fails = second_false x true none in cc)

    inside : ℕ → Rect → Bool
    inside i r = is_inside r (at_number device i).r

    read : (client id i : ℕ) (r : Rect) (next : World) → look device client id ≡ Ok i → read_pixels client device id r ≡ Ok next
        → next ≡ with_client device client (record (client_of device client) { pending = rows_of r (channels.depth (at_number device i).chan) (paint device.images i) })
    read client id i r next looked e =
        let found = then_ok (look device client id) _ next e in
        let same : found.0 ≡ i = same_Ok found.0 i (sym found.1 ∙ looked) in
        let lies = refuse_ok (is_empty r || not (inside found.0 r)) 12 _ next found.2 in
        let short = refuse_ok (nat_lt most_read (rows_len (at_number device found.0).chan r)) 25 _ next lies.1 in
        let all : inside found.0 r ≡ true = some (is_empty r) (inside found.0 r) lies.0 in
        let depth = channels.depth (at_number device found.0).chan in
        let rows : rows_of r depth (view device.images found.0) ≡ rows_of r depth (paint device.images found.0) =
        rows_same r depth (view device.images found.0) (paint device.images found.0)
        (λ p here. painted.shown found.0 p ((inside_tells r (at_number device found.0).r (inside found.0 r) refl).0 all p here)) in
        sym (same_Ok _ next short.1)
        ∙ ap (λ (bytes : List ℕ). with_client device client (record (client_of device client) { pending = bytes })) rows
        ∙ ap (λ (n : ℕ). with_client device client (record (client_of device client) { pending = rows_of r (channels.depth (at_number device n).chan) (paint device.images n) })) same
