-- Rows that are drawn one after the other, where that does not change what is read.
use Rattle.std.proofs.Common.{◌≡◌, ◌≢◌, ◌∙◌, ℕ, ℤ, pos, ◌-◌, ◌<◌, ◌≤◌, ◌^◌, ◌+ℤ◌, ◌≤ℤ◌, ◌<ℤ◌, ◌&&◌, ◌||◌, Bool, true, false, Option, Some, None, List, [], ◌∷◌, length, ⊎_elim, refl, sym, ap, subst, arith}
use Rattle.std.specs.Prelude.{◌==◌, if◌then◌else◌, is_some, option_map, unwrap_or, IfSome}
use Rattle.std.specs.Option.{option_map_or}
use Rattle.std.proofs.lemmas.Bool.{and_parts, false_from_ne_true, false≢true, or_cases, or_left, or_right}
use Rattle.std.proofs.lemmas.Int.{by_lt_z, ints}
use Rattle.std.proofs.lemmas.Option.{IfSome_then}
use Rattle.r9_geom.specs.declared.Point.{Point}
use Rattle.r9_geom.specs.declared.Rect.{Rect}
use Rattle.r9_geom.specs.Geometry.{carried, height, holds, reduced, IsOrdered, IsRectNearBy}
use Rattle.r9_geom.proofs.GeometryLemmas.{band, bounds_of, distance_is, holds_from, same_tests}
use Rattle.model_pixel.specs.Channels.{expand, mask, pack}
use Rattle.model_pixel.specs.Composition.{comp}
use Rattle.r9_chan.specs.Op.{number}
use Rattle.r9_mem.specs.Through.{IsThrough}
use Rattle.r9_locate.specs.declared.info.ImageNo.{ImageNo}
use Rattle.r9_locate.specs.declared.info.Info.{Info}
use Rattle.model_forest.specs.declared.Standing.{Standing}
use Rattle.model_forest.specs.declared.Window.{Window}
use Rattle.model_forest.specs.World.{Image, World, deepest, image_at, no_image, with_image, IsLive}
use Rattle.model_forest.specs.View.{at, inward, is_bare, view, view_within}
use Rattle.model_forest.specs.Draw.{Drawing, drawn, in_area, mask_value, reaches, with_canvas}
use Rattle.model_forest.proofs.Changes.{with_image-at, with_image-each, with_image-other, World-changed}
use Rattle.model_forest.proofs.Lives.{lives-with_canvas}
use Rattle.model_forest.proofs.Uncovers.{bare-none}
use Rattle.r9_layers.specs.Told.{info_of}
use Rattle.r9_layers.specs.declared.composing.Masks.{Masks}
use Rattle.r9_layers.specs.declared.composing.Masks.TheVariants as masks
use Rattle.r9_layers.specs.declared.composing.Way.{Way}
use Rattle.r9_layers.specs.declared.task.Task.{Task}
use Rattle.r9_layers.specs.Apart.{IsAhead, IsApart, IsSteady}
use Rattle.r9_layers.specs.Area.{drawing_of, mask_at, mask_chan, IsTaskOf}
use Rattle.r9_layers.specs.Bands.{rows_of}
use Rattle.r9_layers.specs.Way.{AreMasksOf, IsPlain, IsTint, IsWayOf}

-- ---- what stays of images where pixels are written

-- all but their pixels
pub record SameBeside (a : Image) (b : Image) : Type 0 where
  pub r : a.r ≡ b.r
  pub clipr : a.clipr ≡ b.clipr
  pub repl : a.repl ≡ b.repl
  pub chan : a.chan ≡ b.chan
  pub standing : a.standing ≡ b.standing
  pub windows : a.windows ≡ b.windows

-- an image whose bare points of an area are written
abbrev written : Image → (Point → Bool) → (Point → ℕ) → Image
written image area new = record image { canvas = λ p. if area p && is_bare image.windows p then new p else image.canvas p }

pub stays : (world : World) (i : ℕ) (area : Point → Bool) (new : Point → ℕ) (n : ℕ) → SameBeside (image_at (with_canvas world i area new) n) (image_at world n)
stays world i area new n =
    with_image-each world i (Some (written (image_at world i) area new)) (λ n slot. SameBeside (unwrap_or slot no_image) (image_at world n))
    (record { r = refl; clipr = refl; repl = refl; chan = refl; standing = refl; windows = refl })
    (λ n other. record { r = refl; clipr = refl; repl = refl; chan = refl; standing = refl; windows = refl })
    n

reaches-stays : (world : World) (i : ℕ) (area : Point → Bool) (new : Point → ℕ) (n : ℕ) (p : Point) → reaches (image_at (with_canvas world i area new) n) p ≡ reaches (image_at world n) p
reaches-stays world i area new n p =
    let s = stays world i area new n in
    λ j. holds (s.clipr j) p && (s.repl j || holds (s.r j) p)

in_area-stays : (world : World) (d : Drawing) (i : ℕ) (area : Point → Bool) (new : Point → ℕ) (p : Point) → in_area (with_canvas world i area new) d p ≡ in_area world d p
in_area-stays world d i area new p =
    let s = stays world i area new d.dst in
    λ j.
    holds (s.r j) p && holds (s.clipr j) p && holds d.clip p && holds d.r p
    && reaches-stays world i area new d.src (carried p d.r.min d.sp) j
    && option_map_or (λ k. reaches-stays world i area new k (carried p d.r.min d.mp) j) d.mask true

-- of an image that does not repeat, what is reached is its own
pub reaches-plain : (world : World) (i : ℕ) (p : Point) → IsPlain world i → reaches (image_at world i) p ≡ true → holds (image_at world i).r p ≡ true
reaches-plain world i p is h =
    sym (ap (λ b. b || holds (image_at world i).r p) is.once)
    ∙ (and_parts (holds (image_at world i).clipr p) ((image_at world i).repl || holds (image_at world i).r p) h).1

-- ---- what an image tells of itself

-- the number of the image that it stands on, as it is told
abbrev parent_no : Standing → ImageNo
parent_no s = record { 0 = s.parent }

nobody : (o : Option Standing) → is_some (option_map parent_no o) ≡ false → option_map (λ s. s.parent) o ≡ None
nobody None none = refl
nobody (Some s) none = absurd (false≢true (sym none))

no_items : (ws : List Window) → length ws ≡ 0 → ws ≡ []
no_items [] none = refl
no_items (w ∷ ws) none = absurd (omega (arith, none))

pub plain_since : (world : World) (i : ℕ) (info : Info) → info ≡ info_of (image_at world i) → is_some info.parent ≡ false → info.repl ≡ false → IsPlain world i
plain_since world i info is none once = record {
  nowhere = nobody (image_at world i).standing (sym (ap (λ (n : Info). is_some n.parent) is) ∙ none);
  once = sym (ap (λ (n : Info). n.repl) is) ∙ once;
}

pub apart_since : (world : World) (dst i : ℕ) (info : Info) → info ≡ info_of (image_at world i) → i ≢ dst → info.windows ≡ 0 → IsApart world dst i
apart_since world dst i info is other none = record {
  other = other;
  bare = no_items (image_at world i).windows (sym (ap (λ (n : Info). n.windows) is) ∙ none);
}

pub ahead_since : (world : World) (task : Task) (info : Info) → info ≡ info_of (image_at world task.dst) → task.src ≡ task.dst → info.windows ≡ 0 → info.repl ≡ false → task.r.min.y ≤ℤ task.sp.y → IsAhead world task
ahead_since world task info is same none once below = record {
  same = same;
  bare = no_items (image_at world task.dst).windows (sym (ap (λ (n : Info). n.windows) is) ∙ none);
  once = sym (ap (λ (n : Info). n.repl) is) ∙ once;
  below = below;
}

-- ---- images that are apart

-- a bare point shows the image's own pixel
bare_view : (world : World) (i : ℕ) (p : Point) → is_bare (image_at world i).windows p ≡ true → view world i p ≡ (image_at world i).canvas p
unfolding view
bare_view world i p bare =
    ap (λ o. option_map_or (λ w. view_within deepest world w.image (inward world w p)) o ((image_at world i).canvas p))
    (bare-none (image_at world i).windows p bare)

at-apart : (world : World) (i : ℕ) (area : Point → Bool) (new : Point → ℕ) (n : ℕ) → IsApart world i n → (p : Point) → at (with_canvas world i area new) n p ≡ at world n p
at-apart world i area new n is p =
    let after = with_canvas world i area new in
    let same : image_at after n ≡ image_at world n = ap (λ slot. unwrap_or slot no_image) (with_image-other world i n (Some (written (image_at world i) area new)) is.other) in
    let bare : (q : Point) → is_bare (image_at world n).windows q ≡ true = λ q. ap (λ ws. is_bare ws q) is.bare in
    let place : Image → Point = λ image. if image.repl then reduced image.r p else p in
    bare_view after n (place (image_at after n)) (ap (λ (image : Image). is_bare image.windows (place (image_at after n))) same ∙ bare (place (image_at after n)))
    ∙ ap (λ (image : Image). image.canvas (place image)) same
    ∙ sym (bare_view world n (place (image_at world n)) (bare (place (image_at world n))))

mask_at-apart : (world : World) (task : Task) (area : Point → Bool) (new : Point → ℕ) → IfSome task.mask (IsApart world task.dst) → (p : Point) → mask_at (with_canvas world task.dst area new) task p ≡ mask_at world task p
mask_at-apart world task area new is p = by_mask task.mask is
  where
    by_mask : (o : Option ℕ) → IfSome o (IsApart world task.dst) → option_map_or (λ k. at (with_canvas world task.dst area new) k (carried p task.r.min task.mp)) o 255 ≡ option_map_or (λ k. at world k (carried p task.r.min task.mp)) o 255
    by_mask None is = refl
    by_mask (Some k) is = at-apart world task.dst area new k is (carried p task.r.min task.mp)

mask_value-apart : (world : World) (task : Task) (area : Point → Bool) (new : Point → ℕ) → IfSome task.mask (IsApart world task.dst) → (p : Point) → mask_value (with_canvas world task.dst area new) (drawing_of task) p ≡ mask_value world (drawing_of task) p
mask_value-apart world task area new is p = by_mask task.mask is
  where
    by_mask : (o : Option ℕ) → IfSome o (IsApart world task.dst) → option_map_or (λ k. mask (image_at (with_canvas world task.dst area new) k).chan (at (with_canvas world task.dst area new) k (carried p task.r.min task.mp))) o 255 ≡ option_map_or (λ k. mask (image_at world k).chan (at world k (carried p task.r.min task.mp))) o 255
    by_mask None is = refl
    by_mask (Some k) is = λ j. mask ((stays world task.dst area new k).chan j) (at-apart world task.dst area new k is (carried p task.r.min task.mp) j)

-- what the target has at a bare point that was not written
view-left : (world : World) (i : ℕ) (area : Point → Bool) (new : Point → ℕ) (p : Point) → is_bare (image_at world i).windows p ≡ true → area p ≡ false → view (with_canvas world i area new) i p ≡ view world i p
view-left world i area new p bare left =
    let after = with_canvas world i area new in
    let is : image_at after i ≡ written (image_at world i) area new = ap (λ slot. unwrap_or slot no_image) (with_image-at world i (Some (written (image_at world i) area new))) in
    bare_view after i p (ap (λ ws. is_bare ws p) (stays world i area new i).windows ∙ bare)
    ∙ ap (λ (image : Image). image.canvas p) is
    ∙ ap (λ b. if b && is_bare (image_at world i).windows p then new p else (image_at world i).canvas p) left
    ∙ sym (bare_view world i p bare)

-- what a bare point gets that was not written, where those that were are above it
pub drawn-left : (world : World) (task : Task) (area : Point → Bool) (new : Point → ℕ) → IsSteady world task → (p : Point) → is_bare (image_at world task.dst).windows p ≡ true → ((q : Point) → area q ≡ true → q.y <ℤ p.y) → drawn (with_canvas world task.dst area new) (drawing_of task) p ≡ drawn world (drawing_of task) p
drawn-left world task area new is p bare above =
    let left : area p ≡ false = false_from_ne_true (area p) (λ h. let up = above p h in absurd (omega (arith, ints, up))) in
    let dst = (stays world task.dst area new task.dst).chan in
    let src = (stays world task.dst area new task.src).chan in
    let s = is.source area new p above in
    let m = mask_value-apart world task area new is.through p in
    let own = view-left world task.dst area new p bare left in
    λ j. pack (dst j) (comp (number task.op) (expand (src j) (s j)) (m j) (expand (dst j) (own j)))

-- a source that is apart is steady
pub steady-apart : (world : World) (task : Task) → IsApart world task.dst task.src → IfSome task.mask (IsApart world task.dst) → IsSteady world task
steady-apart world task is through = record {
  source = λ area new p above. at-apart world task.dst area new task.src is (carried p task.r.min task.sp);
  through = through;
}

-- and so is the target, where what it reads lies ahead
pub steady-ahead : (world : World) (task : Task) → IsAhead world task → IfSome task.mask (IsApart world task.dst) → IsSteady world task
steady-ahead world task is through = record {
  source = λ area new p above.
      let q = carried p task.r.min task.sp in
      let after = with_canvas world task.dst area new in
      let left : area q ≡ false = false_from_ne_true (area q) (λ h. let up = above q h in absurd (omega (arith, ints, up, is.below))) in
      let bare : is_bare (image_at world task.dst).windows q ≡ true = ap (λ ws. is_bare ws q) is.bare in
      let own = λ (w : World) (i : ℕ) (once : (image_at w i).repl ≡ false). ap (λ b. view w i (if b then reduced (image_at w i).r q else q)) once in
      ap (λ i. at after i q) is.same
      ∙ own after task.dst ((stays world task.dst area new task.dst).repl ∙ is.once)
      ∙ view-left world task.dst area new q bare left
      ∙ sym (own world task.dst is.once)
      ∙ sym (ap (λ i. at world i q) is.same);
  through = through;
}

-- ---- what a drawing is about, and is told once

-- what holds while a drawing is under way
pub record IsUnderWay (world : World) (task : Task) (way : Way) : Type 0 where
  pub live : IsTaskOf world task
  pub served : IsWayOf world task way

live-stays : (world : World) (i : ℕ) (area : Point → Bool) (new : Point → ℕ) (task : Task) → IsLive world i → IsTaskOf world task → IsTaskOf (with_canvas world i area new) task
live-stays world i area new task there is = record {
  dst = lives-with_canvas world i area new task.dst there ∙ is.dst;
  src = lives-with_canvas world i area new task.src there ∙ is.src;
  mask = by_mask task.mask is.mask;
}
  where
    by_mask : (o : Option ℕ) → IfSome o (IsLive world) → IfSome o (IsLive (with_canvas world i area new))
    by_mask None is = is
    by_mask (Some k) is = lives-with_canvas world i area new k there ∙ is

mask_chan-stays : (world : World) (i : ℕ) (area : Point → Bool) (new : Point → ℕ) (o : Option ℕ) → mask_chan (with_canvas world i area new) o ≡ mask_chan world o
mask_chan-stays world i area new None = refl
mask_chan-stays world i area new (Some k) = (stays world i area new k).chan

masks-stays : (world : World) (task : Task) (area : Point → Bool) (new : Point → ℕ) → IfSome task.mask (IsApart world task.dst) → (m : Masks) → AreMasksOf world task m → AreMasksOf (with_canvas world task.dst area new) task m
masks-stays world task area new apart (masks.Single through) is =
    let dst = (stays world task.dst area new task.dst).chan in
    let src = (stays world task.dst area new task.src).chan in
    let chan = mask_chan-stays world task.dst area new task.mask in
    record {
      m = is.m;
      all = λ p. mask_at-apart world task area new apart p ∙ is.all p;
      serves =
          subst (λ n. IsThrough through n (image_at (with_canvas world task.dst area new) task.src).chan (mask_chan (with_canvas world task.dst area new) task.mask) (number task.op) is.m) (sym dst)
          (subst (λ n. IsThrough through (image_at world task.dst).chan n (mask_chan (with_canvas world task.dst area new) task.mask) (number task.op) is.m) (sym src)
          (subst (λ n. IsThrough through (image_at world task.dst).chan (image_at world task.src).chan n (number task.op) is.m) (sym chan) is.serves));
    }
masks-stays world task area new apart (masks.Image chans) is = record {
  dst = is.dst ∙ sym (stays world task.dst area new task.dst).chan;
  src = is.src ∙ sym (stays world task.dst area new task.src).chan;
  mask = is.mask ∙ sym (mask_chan-stays world task.dst area new task.mask);
}

tint-stays : (world : World) (task : Task) (area : Point → Bool) (new : Point → ℕ) (raw : ℕ) → IsTint world task raw → IsTint (with_canvas world task.dst area new) task raw
tint-stays world task area new raw is = record {
  apart = record { other = is.apart.other; bare = (stays world task.dst area new task.src).windows ∙ is.apart.bare };
  all = λ p. at-apart world task.dst area new task.src is.apart p ∙ is.all p;
}

way-stays : (world : World) (task : Task) (area : Point → Bool) (new : Point → ℕ) → IfSome task.mask (IsApart world task.dst) → (way : Way) → IsWayOf world task way → IsWayOf (with_canvas world task.dst area new) task way
way-stays world task area new through way is =
    let s = stays world task.dst area new task.src in
    record {
      through = masks-stays world task area new through way.masks is.through;
      source = λ plain. record {
        nowhere = ap (option_map (λ t. t.parent)) s.standing ∙ (is.source plain).nowhere;
        once = s.repl ∙ (is.source plain).once;
      };
      tint = IfSome_then way.tint is.tint (tint-stays world task area new);
    }

pub under_way-stays : (world : World) (task : Task) (way : Way) (area : Point → Bool) (new : Point → ℕ) → IfSome task.mask (IsApart world task.dst) → IsUnderWay world task way → IsUnderWay (with_canvas world task.dst area new) task way
under_way-stays world task way area new through is = record {
  live = live-stays world task.dst area new task is.live.dst is.live;
  served = way-stays world task area new through way is.served;
}

pub area-stays : (world : World) (task : Task) (area : Point → Bool) (new : Point → ℕ) (p : Point) → in_area (with_canvas world task.dst area new) (drawing_of task) p ≡ in_area world (drawing_of task) p
area-stays world task area new p = in_area-stays world (drawing_of task) task.dst area new p

-- ---- one area after another

put-twice : (world : World) (i : ℕ) (first second : Option Image) → with_image (with_image world i first) i second ≡ with_image world i second
put-twice world i first second = λ j. λ n. by (n == i) (world n) j
  where
    by : (b : Bool) (o : Option Image) → (if b then second else if b then first else o) ≡ (if b then second else o)
    by true o = refl
    by false o = refl

-- points that are written first, and more, with what they get
pub canvas-next : (world : World) (i : ℕ) (before more all : Point → Bool) (f g : Point → ℕ) → ((p : Point) → all p ≡ (more p || before p)) → ((p : Point) → more p ≡ true → is_bare (image_at world i).windows p ≡ true → g p ≡ f p) → with_canvas (with_canvas world i before f) i more g ≡ with_canvas world i all f
canvas-next world i before more all f g both same =
    let image = image_at world i in
    let one : Image = written image before f in
    let again : Option Image → Option Image = λ o. Some (written (unwrap_or o no_image) more g) in
    put-twice world i (Some one) (again (with_image world i (Some one) i))
    ∙ ap (λ (o : Option Image). with_image world i (again o)) (with_image-at world i (Some one))
    ∙ (λ j. with_image world i (Some (record image { canvas = λ p. cell (more p) (before p) (all p) (is_bare image.windows p) (g p) (f p) (image.canvas p) (both p) (same p) j })))
  where
    cell : (m b a bare : Bool) (x y own : ℕ) → a ≡ (m || b) → (m ≡ true → bare ≡ true → x ≡ y) → (if m && bare then x else if b && bare then y else own) ≡ (if a && bare then y else own)
    cell true b a true x y own is same = same refl refl ∙ ap (λ v. if v && true then y else own) (sym is)
    cell true true a false x y own is same = ap (λ v. if v && false then y else own) (sym is)
    cell true false a false x y own is same = ap (λ v. if v && false then y else own) (sym is)
    cell false b a bare x y own is same = ap (λ v. if v && bare then y else own) (sym is)

-- nothing is written where there is no point
pub canvas-none : (world : World) (i : ℕ) (area : Point → Bool) (new : Point → ℕ) → IsLive world i → ((p : Point) → area p ≡ false) → world ≡ with_canvas world i area new
canvas-none world i area new live none =
    World-changed world world i (Some (image_at world i)) (some_is (world i) live) (λ n apart. refl)
    ∙ (λ j. with_image world i (Some (record (image_at world i) { canvas = λ p. kept p j })))
  where
    some_is : (o : Option Image) → is_some o ≡ true → o ≡ Some (unwrap_or o no_image)
    some_is None e = absurd (false≢true e)
    some_is (Some image) e = refl

    kept : (p : Point) → (image_at world i).canvas p ≡ (if area p && is_bare (image_at world i).windows p then new p else (image_at world i).canvas p)
    kept p = sym (ap (λ b. if b && is_bare (image_at world i).windows p then new p else (image_at world i).canvas p) (none p))

-- ---- some rows

pub rows_near : (n : ℕ) (r : Rect) (first end : ℕ) → end ≤ height r → first ≤ end → IsOrdered r → IsRectNearBy n r → IsRectNearBy n (rows_of r first end)
rows_near n r first end most some ordered near =
    let h = distance_is r.min.y r.max.y ordered.down in
    record {
      min = record {
        left = near.min.left;
        right = near.min.right;
        top = omega (arith, ints, near.min.top);
        bottom = omega (arith, ints, near.max.bottom, h, most, some);
      };
      max = record {
        left = near.max.left;
        right = near.max.right;
        top = omega (arith, ints, near.min.top);
        bottom = omega (arith, ints, near.max.bottom, h, most);
      };
    }

pub rows_ordered : (r : Rect) (first end : ℕ) → first ≤ end → IsOrdered r → IsOrdered (rows_of r first end)
rows_ordered r first end some ordered = record { across = ordered.across; down = omega (arith, ints, some) }

pub rows_height : (r : Rect) (first end : ℕ) → first ≤ end → height (rows_of r first end) ≡ end - first
rows_height r first end some =
    let d = distance_is (r.min.y +ℤ pos first) (r.min.y +ℤ pos end) (omega (arith, ints, some)) in
    omega (arith, ints, d)

-- they are points of the rectangle
pub rows_inside : (r : Rect) (first end : ℕ) (p : Point) → end ≤ height r → IsOrdered r → holds (rows_of r first end) p ≡ true → holds r p ≡ true
rows_inside r first end p most ordered h =
    let b = bounds_of (rows_of r first end) p h in
    let d = distance_is r.min.y r.max.y ordered.down in
    holds_from r p (record { left = b.left; right = b.right; top = omega (arith, ints, b.top); bottom = omega (arith, ints, b.bottom, d, most) })

-- the rows before are above them
pub rows_above : (r : Rect) (p q : Point) (first end : ℕ) → holds (rows_of r first end) p ≡ true → holds (band r first) q ≡ true → q.y <ℤ p.y
rows_above r p q first end h before =
    let b = bounds_of (rows_of r first end) p h in
    let c = bounds_of (band r first) q before in
    omega (arith, ints, b.top, c.bottom)

-- and with those there are more rows
pub rows_more : (r : Rect) (p : Point) (first end : ℕ) → first ≤ end → holds (band r end) p ≡ (holds (rows_of r first end) p || holds (band r first) p)
rows_more r p first end some =
    same_tests _ _
    (λ h.
    let b = bounds_of (band r end) p h in
    by_lt_z p.y (r.min.y +ℤ pos first)
    (λ high. or_right (holds (rows_of r first end) p) _ (holds_from (band r first) p (record { left = b.left; right = b.right; top = b.top; bottom = high })))
    (λ low. or_left (holds (rows_of r first end) p) _ (holds_from (rows_of r first end) p (record { left = b.left; right = b.right; top = low; bottom = b.bottom }))))
    (λ h.
    ⊎_elim
    (λ (now : holds (rows_of r first end) p ≡ true).
    let b = bounds_of (rows_of r first end) p now in
    holds_from (band r end) p (record { left = b.left; right = b.right; top = omega (arith, ints, b.top); bottom = b.bottom }))
    (λ (before : holds (band r first) p ≡ true).
    let b = bounds_of (band r first) p before in
    holds_from (band r end) p (record { left = b.left; right = b.right; top = b.top; bottom = omega (arith, ints, b.bottom, some) }))
    (or_cases _ _ h))
