-- The display gets another size, and what images and book keep together stays so.
use Rattle.std.proofs.Common.{◌≡◌, ◌<◌, ℕ, Bool, true, false, Option, None, Some, Result, Ok, Err, OnOk, OnErr, refl, sym, ap, ◌∙◌, arith}
use Rattle.std.specs.Prelude.{◌&&◌, ◌^◌, is_some, not, option_map}
use Rattle.std.specs.Option.{option_map_or}
use Rattle.std.proofs.lemmas.Int.{ints}
use Rattle.r9_geom.specs.Geometry.{is_point}
use Rattle.r9_geom.proofs.GeometryLemmas.{is_point_true}
use Rattle.r9_event.specs.declared.event.rio.Order.TheVariants.{Size}
use Rattle.model_forest.specs.declared.Standing.{Standing}
use Rattle.model_forest.specs.World.{World as Images, origin_point}
use Rattle.model_exchanged.specs.resize.Resize.{after_resize, CanResize}
use Rattle.model_draw_parts.specs.declared.images.ImageId.{ImageId}
use Rattle.model_draw_parts.specs.images.Book.{Book, image_id, screen_of}
use Rattle.model_draw.specs.draw.World.{World, at_number}
use Rattle.model_draw.specs.draw.Making.{is_window}
use Rattle.model_draw.specs.draw.Orders.{fits, has_display, image_shown, is_side}
use Rattle.r9_device.specs.device.Kept.{IsKept, standing_on}
use Rattle.r9_device.proofs.device.Kept.{kept-replaced, kept-same}

-- what the four tests of a display say
display-tests : (a b c d : Bool) → (a && not b && c && not d) ≡ true → (b ≡ false) × (c ≡ true) × (d ≡ false)
display-tests true false true false h = (refl, refl, refl)
display-tests true false true true h = absurd cc
display-tests true false false d h = absurd cc
display-tests true true c d h = absurd cc
display-tests false b c d h = absurd cc

last-passed : (a b c : Bool) → (a && b && c) ≡ true → c ≡ true
last-passed true true c h = h
last-passed true false c h = absurd cc
last-passed false b c h = absurd cc

-- the display is there where an order for another size of it fits
pub display-fits : (w : World) (width height : ℕ) → fits w (Size width height) ≡ true → has_display w ≡ true
display-fits w width height h = last-passed (is_side width) (is_side height) (has_display w) h

no-parent : (book : Book) (o : Option ℕ) → is_some o ≡ false → option_map (λ (s : Standing). s.parent) (option_map (standing_on book) o) ≡ None
no-parent book None h = refl
no-parent book (Some s) h = absurd cc

-- the display can get another size
pub can-resize : (w : World) (i : ℕ) → IsKept w.images w.book → i ≡ image_shown w 0 → is_some (w.images i) ≡ true → has_display w ≡ true → CanResize w.images i
can-resize w i kept shown live has =
    let display = image_shown w 0 in
    let tests = display-tests (is_some (image_id w.book 0 0)) (is_window w display) (is_point (at_number w display).r.min origin_point) (at_number w display).repl has in
    record {
      live = live;
      nowhere = ap (λ (o : Option Standing). option_map (λ (s : Standing). s.parent) o) (kept.placed i).stands ∙ no-parent w.book (screen_of w.book i) (ap (is_window w) shown ∙ tests.0);
      whole = ap (λ (n : ℕ). (at_number w n).repl) shown ∙ tests.2;
      corner = ap (λ (n : ℕ). (at_number w n).r.min) shown ∙ is_point_true (at_number w display).r.min origin_point tests.1;
    }

-- which is image 0
pub display-shown : (w : World) → IsKept w.images w.book → image_shown w 0 ≡ 0
display-shown w kept = by (image_id w.book 0 0) kept.display
  where
    by : (o : Option ImageId) → option_map (λ e. e.image) o ≡ Some 0 → option_map_or (λ e. e.image) o 0 ≡ 0
    by (Some x) e = cc
    by None e = refl

kept-sized : (images : Images) (book : Book) (width height raw : ℕ) → IsKept images book → is_some (images 0) ≡ true → width < 2 ^ 32 → height < 2 ^ 32 → IsKept (after_resize images 0 width height raw) book
unfolding after_resize
kept-sized images book width height raw kept live wide high =
    kept-replaced images book 0 _ kept live
    (record {
      stands = (kept.placed 0).stands;
      ordered = record { across = omega (arith, ints); down = omega (arith, ints) };
      near = record {
        min = record { left = omega (arith, ints); right = omega (arith, ints); top = omega (arith, ints); bottom = omega (arith, ints) };
        max = record { left = omega (arith, ints); right = omega (arith, ints); top = omega (arith, ints); bottom = omega (arith, ints) };
      };
      clip = record {
        min = record { left = omega (arith, ints); right = omega (arith, ints); top = omega (arith, ints); bottom = omega (arith, ints) };
        max = record { left = omega (arith, ints); right = omega (arith, ints); top = omega (arith, ints); bottom = omega (arith, ints) };
      };
    })
    (λ e. absurd (let f : true ≡ false = e in cc))

pub kept-resized : {A E : Type 0} (o : Result A E) (images next : Images) (book : Book) (i width height raw : ℕ) → IsKept images book → is_some (images i) ≡ true → i ≡ 0 → width < 2 ^ 32 → height < 2 ^ 32
    → OnOk o (next ≡ after_resize images i width height raw) → (P : Type 0) → (P → next ≡ images) → OnErr o P → IsKept next book
kept-resized (Ok x) images next book i width height raw kept live is wide high ok P still err =
    kept-same _ next book
    (kept-sized images book width height raw kept (ap (λ (n : ℕ). is_some (images n)) (sym is) ∙ live) wide high) (ok ∙ ap (λ (n : ℕ). after_resize images n width height raw) is)
kept-resized (Err x) images next book i width height raw kept live is wide high ok P still err = kept-same images next book kept (still err)
