-- Which images keep their rectangles and their channels where others come, go or move.
use Rattle.std.proofs.Common.{◌≡◌, ℕ, Bool, true, false, List, [], ◌∷◌, Option, Some, None, refl, sym, ap, subst, ◌∙◌, arith, ℤ, ◌-ℤ◌, ◌+ℤ◌}
use Rattle.std.specs.Prelude.{◌==◌, ◌+◌, unwrap_or, if◌then◌else◌}
use Rattle.std.specs.Option.{option_map_or}
use Rattle.std.proofs.lemmas.Bool.{eqb-true}
use Rattle.std.proofs.lemmas.Bool.Decides.{nat_tests}
use Rattle.std.proofs.lemmas.Int.{ints}
use Rattle.r9_geom.specs.declared.Point.{Point}
use Rattle.r9_geom.specs.declared.Rect.{Rect}
use Rattle.r9_geom.specs.Geometry.{at_min, carried}
use Rattle.model_forest.specs.declared.Window.{Window}
use Rattle.model_forest.specs.World.{Image, SameSize, World, image_at, no_image, parent_of, with_image}
use Rattle.model_forest.specs.View.{view}
use Rattle.model_forest.specs.Draw.{Drawing, after_draw, after_fill, after_load, with_canvas}
use Rattle.model_forest.specs.Stack.{after_lower, after_raise, after_restack, after_window, lowered, moved, new_window, raised, seen, with_windows, without}
use Rattle.model_forest.specs.Steps.{after_image, after_list, after_origin, after_release, after_replace, after_replace_on, after_set, carried_rect, outside, put_above, shifted_image}
use Rattle.model_draw.specs.draw.Orders.{bordered, is_window_rect}

-- an image has the rectangle and the channels of another
pub record SameFrame (a b : Image) : Type 0 where
  pub r : b.r ≡ a.r
  pub chan : b.chan ≡ a.chan

-- An image has the channels of another and the size of its rectangle, and a rectangle that a window may have where that one
-- has.
pub record Lasts (a b : Image) : Type 0 where
  pub chan : b.chan ≡ a.chan
  pub size : SameSize a.r b.r
  pub rect : is_window_rect a.r ≡ true → is_window_rect b.r ≡ true

pub same_size : (r : Rect) → SameSize r r
same_size r = record { width = refl; height = refl }

pub sizes : (a b c : Rect) → SameSize a b → SameSize b c → SameSize a c
sizes a b c one two = record { width = one.width ∙ two.width; height = one.height ∙ two.height }

pub turned : (a b : Rect) → SameSize a b → SameSize b a
turned a b one = record { width = sym one.width; height = sym one.height }

pub framed : (a b : Image) → SameFrame a b → Lasts a b
framed a b same = record {
  chan = same.chan;
  size = subst (λ (s : Rect). SameSize a.r s) (sym same.r) (same_size a.r);
  rect = λ h. subst (λ (s : Rect). is_window_rect s ≡ true) (sym same.r) h;
}

pub itself : (a : Image) → SameFrame a a
itself a = record { r = refl; chan = refl }

pub frame_then : (a b c : Image) → SameFrame a b → SameFrame b c → SameFrame a c
frame_then a b c one two = record { r = two.r ∙ one.r; chan = two.chan ∙ one.chan }

pub lasts_then : (a b c : Image) → Lasts a b → Lasts b c → Lasts a c
lasts_then a b c one two = record {
  chan = two.chan ∙ one.chan;
  size = sizes a.r b.r c.r one.size two.size;
  rect = λ h. two.rect (one.rect h);
}

-- all images stand so, or all but one
abbrev pub AllSame : World → World → Type 0
AllSame old new = (i : ℕ) → SameFrame (image_at old i) (image_at new i)

abbrev pub OthersSame : ℕ → World → World → Type 0
OthersSame n old new = (i : ℕ) → (i == n) ≡ false → SameFrame (image_at old i) (image_at new i)

abbrev pub AllLast : World → World → Type 0
AllLast old new = (i : ℕ) → Lasts (image_at old i) (image_at new i)

pub others_then : (n : ℕ) (a b c : World) → OthersSame n a b → AllSame b c → OthersSame n a c
others_then n a b c one two i apart = frame_then (image_at a i) (image_at b i) (image_at c i) (one i apart) (two i)

pub all_then : (a b c : World) → AllSame a b → AllSame b c → AllSame a c
all_then a b c one two i = frame_then (image_at a i) (image_at b i) (image_at c i) (one i) (two i)

pub all_framed : (a b : World) → AllSame a b → AllLast a b
all_framed a b all i = framed (image_at a i) (image_at b i) (all i)

-- ---- an image at a number

same : (n : ℕ) → (n == n) ≡ true
same n = grind (arith, nat_tests)

put_here : (w : World) (n : ℕ) (slot : Option Image) → image_at (with_image w n slot) n ≡ unwrap_or slot no_image
put_here w n slot = rw (same n) refl

put_other : (w : World) (n : ℕ) (slot : Option Image) → OthersSame n w (with_image w n slot)
put_other w n slot i apart = rw apart (itself (image_at w i))

put_same : (w : World) (n : ℕ) (image : Image) → SameFrame (image_at w n) image → AllSame w (with_image w n (Some image))
put_same w n image like i = by (i == n) refl
  where
    by : (b : Bool) → (i == n) ≡ b → SameFrame (image_at w i) (image_at (with_image w n (Some image)) i)
    by true is = rw is (subst (λ (k : ℕ). SameFrame (image_at w k) image) (sym (eqb-true i n is)) like)
    by false is = put_other w n (Some image) i is

-- ---- what leaves all rectangles

windows_same : (w : World) (n : ℕ) (windows : List Window) → AllSame w (with_windows w n windows)
windows_same w n windows = put_same w n _ (record { r = refl; chan = refl })

canvas_same : (w : World) (n : ℕ) (area : Point → Bool) (new : Point → ℕ) → AllSame w (with_canvas w n area new)
canvas_same w n area new = put_same w n _ (record { r = refl; chan = refl })

list_same : (w : World) (n : ℕ) (change : List Window → List Window) → AllSame w (after_list w n change)
list_same w n change = by (parent_of w n)
  where
    by : (o : Option ℕ) → AllSame w (option_map_or (λ parent. with_windows w parent (change (image_at w parent).windows)) o w)
    by None = λ i. itself (image_at w i)
    by (Some parent) = windows_same w parent (change (image_at w parent).windows)

restack_same : (order : List Window → List Window) (w : World) (group : List ℕ) → AllSame w (after_restack order w group)
restack_same order w [] = λ i. itself (image_at w i)
restack_same order w (i ∷ rest) = windows_same w (unwrap_or (parent_of w i) 0) _

pub raise_same : (w : World) (group : List ℕ) → AllSame w (after_raise w group)
unfolding after_raise
raise_same w group = restack_same (raised group) w group

pub lower_same : (w : World) (group : List ℕ) → AllSame w (after_lower w group)
unfolding after_lower
lower_same w group = restack_same (lowered group) w group

pub set_same : (w : World) (n : ℕ) (repl : Bool) (clipr : Rect) → AllSame w (after_set w n repl clipr)
unfolding after_set
set_same w n repl clipr = put_same w n _ (record { r = refl; chan = refl })

pub draw_same : (w : World) (d : Drawing) → AllSame w (after_draw w d)
unfolding after_draw
draw_same w d = canvas_same w d.dst _ _

pub load_same : (w : World) (n : ℕ) (r : Rect) (raws : Point → ℕ) → AllSame w (after_load w n r raws)
unfolding after_load
load_same w n r raws = canvas_same w n _ _

pub fill_same : (w : World) (n : ℕ) (r : Rect) (raw : ℕ) → AllSame w (after_fill w n r raw)
unfolding after_fill
fill_same w n r raw = canvas_same w n _ _

pub border_same : (w : World) (n : ℕ) → AllSame w (bordered w n)
unfolding bordered
border_same w n = canvas_same w n _ _

-- ---- images that go and move

pub release_same : (w : World) (n : ℕ) → OthersSame n w (after_release w n)
unfolding after_release
release_same w n i apart =
    let left : World = after_list w n (without n) in
    frame_then (image_at w i) (image_at left i) (image_at (with_image left n None) i) (list_same w n (without n) i) (put_other left n None i apart)

across : (high low to : ℤ) → high -ℤ low ≡ (high -ℤ low +ℤ to) -ℤ (low -ℤ low +ℤ to)
across high low to = omega (arith, ints)

pub shifted_size : (r : Rect) (min : Point) → SameSize r (carried_rect r r.min min)
shifted_size r min = record { width = across r.max.x r.min.x min.x; height = across r.max.y r.min.y min.y }

-- a window that gets another corner of its own coordinates
pub origin_here : (w : World) (n : ℕ) (min corner : Point) → image_at (after_origin w n min corner) n ≡ shifted_image (image_at w n) min
unfolding after_origin
origin_here w n min corner =
    let image = image_at w n in
    put_here (after_list w n (moved n (carried_rect image.r image.r.min corner))) n (Some (shifted_image image min))

pub origin_others : (w : World) (n : ℕ) (min corner : Point) → OthersSame n w (after_origin w n min corner)
unfolding after_origin
origin_others w n min corner i apart =
    let image = image_at w n in
    let left : World = after_list w n (moved n (carried_rect image.r image.r.min corner)) in
    frame_then (image_at w i) (image_at left i) (image_at (with_image left n (Some (shifted_image image min))) i)
    (list_same w n (moved n (carried_rect image.r image.r.min corner)) i) (put_other left n (Some (shifted_image image min)) i apart)

pub origin_last : (w : World) (n : ℕ) (min corner : Point)
    → (is_window_rect (image_at w n).r ≡ true → is_window_rect (carried_rect (image_at w n).r (image_at w n).r.min min) ≡ true) → AllLast w (after_origin w n min corner)
origin_last w n min corner may i = by (i == n) refl
  where
    here : Lasts (image_at w n) (image_at (after_origin w n min corner) n)
    here = subst (λ (x : Image). Lasts (image_at w n) x) (sym (origin_here w n min corner)) (record { chan = refl; size = shifted_size (image_at w n).r min; rect = may })

    by : (b : Bool) → (i == n) ≡ b → Lasts (image_at w i) (image_at (after_origin w n min corner) i)
    by true is = subst (λ (k : ℕ). Lasts (image_at w k) (image_at (after_origin w n min corner) k)) (sym (eqb-true i n is)) here
    by false is = framed (image_at w i) (image_at (after_origin w n min corner) i) (origin_others w n min corner i is)

-- ---- images that come

-- the image at a number has this rectangle and these channels, and the others are as before
pub record Comes (old new : World) (n : ℕ) (r : Rect) (chan : ℕ) : Type 0 where
  pub place : (image_at new n).r ≡ r
  pub channels : (image_at new n).chan ≡ chan
  pub others : OthersSame n old new

pub comes_then : (old new next : World) (n : ℕ) (r : Rect) (chan : ℕ) → Comes old new n r chan → AllSame new next → Comes old next n r chan
comes_then old new next n r chan comes all = record {
  place = (all n).r ∙ comes.place;
  channels = (all n).chan ∙ comes.channels;
  others = others_then n old new next comes.others all;
}

put_comes : (w : World) (n : ℕ) (image : Image) → Comes w (with_image w n (Some image)) n image.r image.chan
put_comes w n image = record {
  place = ap (λ (x : Image). x.r) (put_here w n (Some image));
  channels = ap (λ (x : Image). x.chan) (put_here w n (Some image));
  others = put_other w n (Some image);
}

pub image_comes : (w : World) (n : ℕ) (r : Rect) (chan raw : ℕ) → Comes w (after_image w n r chan raw) n r chan
unfolding after_image
image_comes w n r chan raw = put_comes w n _

pub window_comes : (w : World) (n parent fill : ℕ) (r : Rect) (raw : ℕ) → Comes w (after_window w n parent fill r raw) n r (image_at w parent).chan
unfolding after_window
window_comes w n parent fill r raw =
    let put : World = with_image w n (Some (new_window w parent fill r raw)) in
    comes_then w put _ n r (image_at w parent).chan (put_comes w n (new_window w parent fill r raw)) (windows_same put parent (record { image = n; place = r } ∷ (image_at w parent).windows))

pub replace_comes : (w : World) (n old : ℕ) (r : Rect) (corner : Point) (raw : ℕ) (keep : Bool) → Comes w (after_replace w n old r corner raw keep) n r (image_at w old).chan
unfolding after_replace
replace_comes w n old r corner raw keep =
    let image = image_at w old in
    let x : Image = record {
      r = r;
      clipr = r;
      repl = false;
      chan = image.chan;
      standing = image.standing;
      depth = image.depth;
      canvas = seen r [] (λ p. if keep then view w old (carried p r.min image.r.min) else raw);
      windows = [];
    } in
    let put : World = with_image w n (Some x) in
    let above : List Window → List Window = put_above (record { image = n; place = carried_rect r r.min corner }) old in
    let away : List Window → List Window = moved old (carried_rect image.r image.r.min outside) in
    let replaced : World = after_list put old above in
    comes_then w put (after_list replaced old away) n r image.chan (put_comes w n x) (all_then put replaced (after_list replaced old away) (list_same put old above) (list_same replaced old away))

pub replace_on_comes : (w : World) (n old parent fill : ℕ) (r : Rect) (corner : Point) (raw : ℕ) (keep : Bool) → Comes w (after_replace_on w n old parent fill r corner raw keep) n r (image_at w parent).chan
unfolding after_replace_on
replace_on_comes w n old parent fill r corner raw keep =
    let image = image_at w old in
    let x : Image = record {
      r = r;
      clipr = r;
      repl = false;
      chan = (image_at w parent).chan;
      standing = Some (record { parent = parent; fill = fill });
      depth = (image_at w parent).depth + 1;
      canvas = seen r [] (λ p. if keep then view w old (carried p r.min image.r.min) else raw);
      windows = [];
    } in
    let put : World = with_image w n (Some x) in
    let first : Window = record { image = n; place = carried_rect r r.min corner } in
    let away : List Window → List Window = moved old (carried_rect image.r image.r.min outside) in
    let placed : World = with_windows put parent (first ∷ (image_at w parent).windows) in
    comes_then w put (after_list placed old away) n r (image_at w parent).chan (put_comes w n x)
    (all_then put placed (after_list placed old away) (windows_same put parent (first ∷ (image_at w parent).windows)) (list_same placed old away))

-- one that comes far outside and goes back to its own coordinates
back : (r : Rect) (at : Point) → carried_rect (at_min r at) at r.min ≡ r
back r at = λ i. record { min = record { x = low r.min.x at.x i; y = low r.min.y at.y i }; max = record { x = high r.max.x r.min.x at.x i; y = high r.max.y r.min.y at.y i } }
  where
    low : (x to : ℤ) → to -ℤ to +ℤ x ≡ x
    low x to = omega (arith, ints)

    high : (high low to : ℤ) → (high -ℤ low +ℤ to) -ℤ to +ℤ low ≡ high
    high x y to = omega (arith, ints)

pub origin_comes : (w new : World) (n : ℕ) (r : Rect) (chan : ℕ) (at : Point) → Comes w new n (at_min r at) chan → Comes w (after_origin new n r.min at) n r chan
origin_comes w new n r chan at comes = record {
  place = ap (λ (x : Image). x.r) (origin_here new n r.min at) ∙ ap (λ (s : Rect). carried_rect s s.min r.min) comes.place ∙ back r at;
  channels = ap (λ (x : Image). x.chan) (origin_here new n r.min at) ∙ comes.channels;
  others = λ i apart. frame_then (image_at w i) (image_at new i) (image_at (after_origin new n r.min at) i) (comes.others i apart) (origin_others new n r.min at i apart);
}
