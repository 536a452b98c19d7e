-- What was sent after an entry.
use Rattle.std.proofs.Common.{◌≡◌, ◌∙◌, ℕ, ◌+◌, ◌/◌, ◌≤◌, ◌<◌, Bool, true, false, not, ◌&&◌, List, [], Option, refl, ap, sym, subst, arith, eqb}
use Rattle.std.specs.Prelude.{is_some, MatchBool}
use Rattle.std.proofs.lemmas.Bool.{and_parts, eqb-true, not-false, or_parts, false≢true}
use Rattle.r9_geom.specs.declared.Point.{Point}
use Rattle.r9_geom.specs.declared.Rect.{Rect}
use Rattle.r9_geom.specs.Geometry.{height, width}
use Rattle.r9_marks.specs.marks.Cells.{cells_over, count_cells}
use Rattle.model_forest.specs.World.{IsForest}
use Rattle.model_draw.specs.draw.World.{World as Device, at_number}
use Rattle.law_devices.specs.sides.Display.{HasDisplay}
use Rattle.model_world.specs.World.{World}
use Rattle.r9_hall.specs.hall.Marks.{Display, IsCleared, IsMarked, IsOf, IsSound}
use Rattle.model_client.specs.mirror.Picture.{Picture}
use Rattle.model_mirror.specs.Frame.{IsEntry, IsFrame}
use Rattle.model_mirror.specs.Mirror.{is_resized}
use Rattle.model_mirror.specs.Pictures.{IsLawful, IsSameWhereUnsent}
use Rattle.model_mirror.specs.Sent.{sent_after, sent_of}
use Rattle.model_mirror.specs.Shown.{mirrored}
use Rattle.r9_serve.specs.mirroring.View.{IsPaid, IsSent, IsUnmarked}
use Rattle.r9_serve.proofs.mirroring.Counting.{cells_few, cells_some}
use Rattle.r9_serve.proofs.mirroring.Cursor.{seen, unsent_same}
use Rattle.r9_serve.proofs.mirroring.Pictures.{lawful, pixel_at}

-- what is known of two worlds, one after the other, and of their displays
pub record AreSeen (chan pixels : ℕ) (w v : World) (then now : Display) : Type 0 where
  pub before : HasDisplay chan w.desktop.device
  pub after : HasDisplay chan v.desktop.device
  pub old_forest : IsForest w.desktop.device.images
  pub new_forest : IsForest v.desktop.device.images
  pub then_is : IsOf w.desktop.device then
  pub now_is : IsOf v.desktop.device now
  pub sound : IsSound now
  pub unmarked : IsUnmarked then
  pub marked : IsMarked then now pixels

pub stands_nowhere : (chan : ℕ) (device : Device) (display : Display) → HasDisplay chan device → IsOf device display → display.nowhere ≡ true
stands_nowhere chan device display has is = is.nowhere ∙ ap (λ (p : Option ℕ). not (is_some p)) has.nowhere

same_size : (a b c d : ℕ) → not (eqb a b && eqb c d) ≡ false → (a ≡ b) × (c ≡ d)
same_size a b c d h = (let both = and_parts _ _ (not-false (eqb a b && eqb c d) h) in (eqb-true a b both.0, eqb-true c d both.1))

-- what the code tells of sizes
pub size_is : (b : Bool) (r s : Rect) (w v : World) → b ≡ not (eqb (width r) (width s) && eqb (height r) (height s)) → r ≡ (at_number w.desktop.device 0).r → s ≡ (at_number v.desktop.device 0).r → b ≡ is_resized (mirrored w) (mirrored v)
size_is b r s w v is old new =
    is ∙ ap (λ (t : Rect). not (eqb (width t) (width s) && eqb (height t) (height s))) old
    ∙ ap (λ (t : Rect). not (eqb (mirrored w).width (width t) && eqb (mirrored w).height (height t))) new

-- a frame of all cells is no empty entry
pub all_sent : (chan number : ℕ) (sized : Bool) (picture : Picture) (text : List ℕ) → IsLawful picture → IsEntry chan number sized picture (λ column row. true) text → IsFrame chan number sized picture (λ column row. true) text
all_sent chan number sized picture text is entry =
    subst (λ (some : Bool). MatchBool some (IsFrame chan number sized picture (λ column row. true) text) (text ≡ [])) (cells_some picture.width picture.height is.wide is.tall) entry

pub cleared_unmarked : (before after : Display) → IsCleared before after → IsUnmarked after
cleared_unmarked before after is = record { marked = is.marked; count = is.count }

module _ (chan pixels : ℕ) (w v : World) (then now : Display) (is : AreSeen chan pixels w v then now) where
  abbrev sent : (column row : ℕ) → Bool
  sent = sent_after false w.desktop.pointer v.desktop.pointer now.marked

  abbrev resized : Bool
  resized = is_resized (mirrored w) (mirrored v)

  same_unsent : resized ≡ false → IsSameWhereUnsent sent (mirrored w) (mirrored v)
  same_unsent fixed =
      let sizes = same_size (mirrored w).width (mirrored v).width (mirrored w).height (mirrored v).height fixed in
      let first = lawful chan w is.before in
      record {
        width = sym sizes.0;
        height = sym sizes.1;
        beside = first.beside;
        pixels = λ x y across down unsent.
            let parts = or_parts (now.marked (x / 32) (y / 32)) _ unsent in
            let old = w.desktop.pointer in
            let new = v.desktop.pointer in
            let wide = subst (λ (n : ℕ). x < n) sizes.0 across in
            let high = subst (λ (n : ℕ). y < n) sizes.1 down in
            let raw = is.marked.changed x y
            (subst (λ (r : Rect). x < width r) (sym is.then_is.r) across) (subst (λ (r : Rect). y < height r) (sym is.then_is.r) down)
            (subst (λ (r : Rect). x < width r) (sym is.now_is.r) wide) (subst (λ (r : Rect). y < height r) (sym is.now_is.r) high) parts.0 in
            pixel_at chan v is.after x y is.new_forest wide high
            ∙ ap (λ (f : (column row : ℕ) → ℕ). seen chan new (f x y) x y) (sym is.now_is.pixels)
            ∙ ap (λ (pixel : ℕ). seen chan new pixel x y) raw
            ∙ ap (λ (f : (column row : ℕ) → ℕ). seen chan new (f x y) x y) is.then_is.pixels
            ∙ unsent_same chan old new _ x y parts.1
            ∙ sym (pixel_at chan w is.before x y is.old_forest across down);
      }

  module _ (few : (across down : ℕ) (old new : Option Point) (marked : (column row : ℕ) → Bool) → count_cells across down (sent_after false old new marked) ≤ count_cells across down marked + 8) where
    few_sent : (cost : ℕ) → pixels ≤ cost → sent_of (mirrored v) sent ≤ cost + 8
    few_sent cost spent =
        let counted : now.count ≡ count_cells (cells_over (mirrored v).width) (cells_over (mirrored v).height) now.marked =
        is.sound.counted ∙ ap (λ (r : Rect). count_cells (cells_over (width r)) (cells_over (height r)) now.marked) is.now_is.r in
        let most = few (cells_over (mirrored v).width) (cells_over (mirrored v).height) w.desktop.pointer v.desktop.pointer now.marked in
        omega (arith, counted, most, is.marked.few, is.unmarked.count, spent)

    sent_with : (number cost : ℕ) (b : Bool) (text : List ℕ) → b ≡ resized → IsPaid (mirrored w) (mirrored v) cost → pixels ≤ cost
        → IsEntry chan number b (mirrored v) (sent_after b w.desktop.pointer v.desktop.pointer now.marked) text → IsSent chan number (cost + 8) (mirrored w) (mirrored v) text
    sent_with number cost true text size paid spent entry = record {
      sent = λ column row. true;
      entry = subst (λ (b : Bool). IsEntry chan number b (mirrored v) (λ column row. true) text) size entry;
      few = (let points = paid (sym size) in omega (arith, points, cells_few (mirrored v).width (mirrored v).height));
      all = λ _. refl;
      same = λ fixed. absurd (false≢true (sym fixed ∙ sym size));
    }
    sent_with number cost false text size paid spent entry = record {
      sent = sent;
      entry = subst (λ (b : Bool). IsEntry chan number b (mirrored v) sent text) size entry;
      few = few_sent cost spent;
      all = λ changed. absurd (false≢true (size ∙ changed));
      same = same_unsent;
    }

    -- this was sent, with what was told of the size and of the cursor
    pub sent_is : (number cost : ℕ) (b : Bool) (old new : Option Point) (text : List ℕ) → b ≡ resized → old ≡ w.desktop.pointer → new ≡ v.desktop.pointer → IsPaid (mirrored w) (mirrored v) cost → pixels ≤ cost
        → IsEntry chan number b (mirrored v) (sent_after b old new now.marked) text → IsSent chan number (cost + 8) (mirrored w) (mirrored v) text
    sent_is number cost b old new text size was stands paid spent entry =
        sent_with number cost b text size paid spent
        (subst (λ (at : Option Point). IsEntry chan number b (mirrored v) (sent_after b w.desktop.pointer at now.marked) text) stands
        (subst (λ (at : Option Point). IsEntry chan number b (mirrored v) (sent_after b at new now.marked) text) was entry))
