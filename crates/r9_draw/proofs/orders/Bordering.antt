-- The border of a window, part by part.
use Rattle.std.proofs.Common.{◌≡◌, ℕ, Bool, true, false, cond, List, [], ◌∷◌, Option, Some, None, All, ℤ, pos, ◌-ℤ◌, ◌≤ℤ◌, ◌<ℤ◌, int_le, int_lt, ◌<◌, ◌≤◌, ◌+◌, length, take, get_or, refl, sym, ap, subst, ◌∙◌, arith}
use Rattle.std.specs.Prelude.{◌==◌, ◌&&◌, ◌||◌, ◌^◌, is_some, not, unwrap_or, if◌then◌else◌}
use Rattle.std.specs.List.{count_by, list_any}
use Rattle.std.proofs.lemmas.Bool.Decides.{nat_tests}
use Rattle.std.proofs.lemmas.Int.{ints}
use Rattle.std.proofs.lemmas.List.Folds.{list_any_at, list_any_more}
use Rattle.std.proofs.lemmas.List.Sums.{sum_by-cons}
use Rattle.r9_geom.specs.declared.Point.{Point}
use Rattle.r9_geom.specs.declared.Rect.{Rect}
use Rattle.r9_geom.specs.declared.Parts.{Parts}
use Rattle.r9_geom.specs.Parts.{parts_with}
use Rattle.r9_geom.specs.Geometry.{IsRectNearBy, holds, is_empty}
use Rattle.model_forest.specs.World.{Image, World, image_at, no_image, with_image}
use Rattle.model_forest.specs.Draw.{after_fill, with_canvas}
use Rattle.model_forest.specs.View.{is_bare}
use Rattle.model_forest.proofs.Releasing.{changed-at, Stays}
use Rattle.model_draw.specs.draw.Orders.{bordered, border_pixel, inside_border, on_border}
use Rattle.r9_layers.specs.declared.forest.Forest.{Forest}
use Rattle.r9_layers.specs.Forest.{numbers, room, world}
use Rattle.r9_draw.specs.orders.Ordering.{CanFill}
use Rattle.r9_draw.proofs.orders.Ordered.{canvas-stays}
use Rattle.r9_device.proofs.device.Rects.{ordered-of, points-of}

cell : (b a bare : Bool) (raw old : ℕ) → (if b && bare then raw else if a && bare then raw else old) ≡ (if (b || a) && bare then raw else old)
cell true a true raw old = refl
cell true true false raw old = refl
cell true false false raw old = refl
cell false a bare raw old = refl

put-twice : (images : World) (i : ℕ) (first second : Option Image) → with_image (with_image images i first) i second ≡ with_image images i second
put-twice images i first second = λ j. λ n. by (n == i) (images n) j
  where
    by : (b : Bool) (o : Option Image) → (if b then second else if b then first else o) ≡ (if b then second else o)
    by true o = refl
    by false o = refl

-- one raw pixel in one area after another
pub canvas-twice : (images : World) (i raw : ℕ) (a b : Point → Bool) → with_canvas (with_canvas images i a (λ _. raw)) i b (λ _. raw) ≡ with_canvas images i (λ p. b p || a p) (λ _. raw)
canvas-twice images i raw a b =
    let image = image_at images i in
    let one : Image = record image { canvas = λ p. if a p && is_bare image.windows p then raw else image.canvas p } in
    let again : Option Image → Option Image = λ o. Some (record (unwrap_or o no_image) { canvas = λ p. if b p && is_bare (unwrap_or o no_image).windows p then raw else (unwrap_or o no_image).canvas p }) in
    put-twice images i (Some one) (again (with_image images i (Some one) i))
    ∙ ap (λ (o : Option Image). with_image images i (again o)) (changed-at images i (Some one))
    ∙ λ j. with_image images i (Some (record image { canvas = λ p. cell (b p) (a p) (is_bare image.windows p) raw (image.canvas p) j }))

-- nothing is written where there is no area
pub canvas-none : (images : World) (i raw : ℕ) (x : Image) → images i ≡ Some x → with_canvas images i (λ _. false) (λ _. raw) ≡ images
canvas-none images i raw x at = λ j. λ n. by (n == i) n refl j
  where
    put : Option Image → Option Image
    put o = Some (record (unwrap_or o no_image) { canvas = (unwrap_or o no_image).canvas })

    same : put (images i) ≡ images i
    same = ap put at ∙ sym at

    by : (b : Bool) (n : ℕ) → (n == i) ≡ b → (if b then put (images i) else images n) ≡ images n
    by true n e = same ∙ ap images (let is : i ≡ n = grind (arith, nat_tests) in is)
    by false n e = refl

any-step : (b a : Bool) (n : ℕ) → a ≡ not (n == 0) → (b || a) ≡ not ((cond b 1 0 + n) == 0)
any-step true a n e = grind (arith, nat_tests)
any-step false a n e = e ∙ grind (arith, nat_tests)

-- some parts hold a point exactly where one does
pub any-counted : (p : Point) (parts : List Rect) → list_any (λ r. holds r p) parts ≡ not (count_by (λ r. holds r p) parts == 0)
any-counted p [] = refl
any-counted p (r ∷ parts) =
    any-step (holds r p) (list_any (λ q. holds q p) parts) (count_by (λ q. holds q p) parts) (any-counted p parts)
    ∙ sym (ap (λ n. not (n == 0)) (sum_by-cons (λ q. cond (holds q p) 1 0) r parts))

-- the parts of the border
pub parts-border : (r s q : Rect) (parts : Parts) → s ≡ r → q ≡ inside_border s → ((p : Point) → parts_with parts p ≡ (if holds s p && not (holds q p) then 1 else 0)) → (p : Point)
    → list_any (λ t. holds t p) (take parts.count parts.part) ≡ on_border r p
parts-border r s q parts same is points p =
    any-counted p (take parts.count parts.part) ∙ ap (λ n. not (n == 0)) (points p) ∙ by (holds s p && not (holds q p))
    ∙ (λ j. holds (same j) p && not (holds ((is ∙ ap inside_border same) j) p))
  where
    by : (b : Bool) → not ((if b then 1 else 0) == 0) ≡ b
    by true = refl
    by false = refl

pub border-made : (images : World) (i raw : ℕ) (parts : List Rect) → raw ≡ border_pixel (image_at images i).chan → ((p : Point) → list_any (λ q. holds q p) parts ≡ on_border (image_at images i).r p)
    → with_canvas images i (λ p. list_any (λ q. holds q p) parts) (λ _. raw) ≡ bordered images i
unfolding bordered
border-made images i raw parts is same = λ j. with_canvas images i (λ p. same p j) (λ _. is j)

-- ---- one part after another

canvas-begins : (images : World) (i raw : ℕ) → is_some (images i) ≡ true → with_canvas images i (λ _. false) (λ _. raw) ≡ images
canvas-begins images i raw live = by (images i) refl live
  where
    by : (o : Option Image) → images i ≡ o → is_some o ≡ true → with_canvas images i (λ _. false) (λ _. raw) ≡ images
    by (Some x) at h = canvas-none images i raw x at
    by None at h = absurd cc

-- so many parts are filled
pub record IsFilling (before now : Forest) (i raw : ℕ) (parts : List Rect) (n : ℕ) : Type 0 where
  pub images : world now ≡ with_canvas (world before) i (λ p. list_any (λ r. holds r p) (take n parts)) (λ _. raw)
  pub numbered : numbers now ≡ numbers before
  pub space : room before ≤ room now

pub filling-begins : (before : Forest) (i raw : ℕ) (parts : List Rect) → is_some (world before i) ≡ true → IsFilling before before i raw parts 0
filling-begins before i raw parts live = record { images = sym (canvas-begins (world before) i raw live); numbered = refl; space = omega arith }

either-way : (a b : Bool) → (b || a) ≡ (a || b)
either-way true true = refl
either-way true false = refl
either-way false true = refl
either-way false false = refl

pub filling-more : (before now next : Forest) (i raw : ℕ) (parts : List Rect) (n : ℕ) (d : Rect) → n < length parts → IsFilling before now i raw parts n
    → world next ≡ after_fill (world now) i (get_or parts n d) raw → numbers next ≡ numbers now → room now ≤ room next → IsFilling before next i raw parts (n + 1)
unfolding after_fill
filling-more before now next i raw parts n d below filling made same more =
    let part = get_or parts n d in
    let space = filling.space in
    record {
      images =
          made ∙ ap (λ (w : World). with_canvas w i (holds part) (λ _. raw)) filling.images
          ∙ canvas-twice (world before) i raw (λ p. list_any (λ r. holds r p) (take n parts)) (holds part)
          ∙ (λ j. with_canvas (world before) i (λ p. (either-way (list_any (λ r. holds r p) (take n parts)) (holds part p) ∙ sym (list_any_more (λ r. holds r p) parts n d below)) j) (λ _. raw));
      numbered = same ∙ filling.numbered;
      space = omega arith;
    }

pub filling-stays : (before now : Forest) (i raw : ℕ) (parts : List Rect) (n : ℕ) → is_some (world before i) ≡ true → IsFilling before now i raw parts n → Stays (world before) (world now) i
filling-stays before now i raw parts n live filling =
    let P : World → Type 0 = λ w. Stays (world before) w i in
    subst P (sym filling.images) (canvas-stays (world before) i _ _ i live)

-- ---- parts of a rectangle

split : (a b : Bool) → (a && b) ≡ true → (a ≡ true) × (b ≡ true)
split true true h = (refl, refl)
split true false h = absurd cc
split false b h = absurd cc

both : (a b : Bool) → a ≡ true → b ≡ true → (a && b) ≡ true
both true b h k = k
both false b h k = absurd cc

from_le : (a b : ℤ) → int_le a b ≡ true → a ≤ℤ b
from_le a b h = grind (arith, ints)

from_lt : (a b : ℤ) → int_lt a b ≡ true → a <ℤ b
from_lt a b h = grind (arith, ints)

to_le : (a b : ℤ) → a ≤ℤ b → int_le a b ≡ true
to_le a b h = grind (arith, ints)

to_lt : (a b : ℤ) → a <ℤ b → int_lt a b ≡ true
to_lt a b h = grind (arith, ints)

holds-point : (r : Rect) (p : Point) → r.min.x ≤ℤ p.x → p.x <ℤ r.max.x → r.min.y ≤ℤ p.y → p.y <ℤ r.max.y → holds r p ≡ true
holds-point r p a b c d = both _ _ (both _ _ (to_le r.min.x p.x a) (to_lt p.x r.max.x b)) (both _ _ (to_le r.min.y p.y c) (to_lt p.y r.max.y d))

record IsHeld (r : Rect) (p : Point) : Type 0 where
  left : r.min.x ≤ℤ p.x
  right : p.x <ℤ r.max.x
  top : r.min.y ≤ℤ p.y
  bottom : p.y <ℤ r.max.y

held : (r : Rect) (p : Point) → holds r p ≡ true → IsHeld r p
held r p h =
    let edges = split (int_le r.min.x p.x && int_lt p.x r.max.x) (int_le r.min.y p.y && int_lt p.y r.max.y) h in
    let across = split (int_le r.min.x p.x) (int_lt p.x r.max.x) edges.0 in
    let down = split (int_le r.min.y p.y) (int_lt p.y r.max.y) edges.1 in
    record { left = from_le r.min.x p.x across.0; right = from_lt p.x r.max.x across.1; top = from_le r.min.y p.y down.0; bottom = from_lt p.y r.max.y down.1 }

part-fills : (r part : Rect) → IsRectNearBy (2 ^ 32) r → is_empty part ≡ false → ((p : Point) → holds part p ≡ true → holds r p ≡ true) → CanFill r part
part-fills r part near some inside =
    let points = points-of part some in
    let across = points.across in
    let down = points.down in
    let first : Point = part.min in
    let last : Point = record { x = part.max.x -ℤ pos 1; y = part.max.y -ℤ pos 1 } in
    let low = held r first (inside first (holds-point part first (omega (arith, ints)) across (omega (arith, ints)) down)) in
    let high = held r last (inside last (holds-point part last (omega (arith, ints)) (omega (arith, ints)) (omega (arith, ints)) (omega (arith, ints)))) in
    let a = low.left in
    let b = low.right in
    let c = low.top in
    let d = low.bottom in
    let e = high.left in
    let f = high.right in
    let g = high.top in
    let h = high.bottom in
    let k = near.min.left in
    let l = near.min.top in
    let m = near.max.right in
    let n = near.max.bottom in
    record {
      near = record {
        min = record { left = omega (arith, ints); right = omega (arith, ints); top = omega (arith, ints); bottom = omega (arith, ints) };
        max = record { left = omega (arith, ints); right = omega (arith, ints); top = omega (arith, ints); bottom = omega (arith, ints) };
      };
      ordered = ordered-of part points;
      inside = inside;
    }

pub parts-fill : (r : Rect) (parts : List Rect) → IsRectNearBy (2 ^ 32) r → All (λ part. is_empty part ≡ false) parts → ((p : Point) → list_any (λ q. holds q p) parts ≡ on_border r p) → All (CanFill r) parts
parts-fill r parts near solid border = λ n d below.
    part-fills r (get_or parts n d) near (solid n d below)
    (λ p h. (split (holds r p) (not (holds (inside_border r) p)) (sym (border p) ∙ list_any_at (λ q. holds q p) parts n d below h)).0)
