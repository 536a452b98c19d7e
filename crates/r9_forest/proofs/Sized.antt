-- An image that stands nowhere gets another size.
use Rattle.std.proofs.Common.{◌≡◌, ◌∙◌, ℕ, ◌<◌, ◌^◌, List, None, Some, Result, Ok, Err, sym, ap, subst}
use Rattle.std.specs.Prelude.{option_map, OnErr, OnOk}
use Rattle.r9_geom.specs.declared.Rect.{Rect}
use Rattle.model_pixel.specs.Channels.{depth}
use Rattle.model_forest.specs.declared.Standing.{Standing}
use Rattle.model_forest.specs.World.{World, image_at, IsForest}
use Rattle.model_kept.specs.Keeping.{with_kept, Place}
use Rattle.r9_locate.specs.declared.locate.lists.Lists.{Lists}
use Rattle.r9_locate.specs.locate.Forms.{forms_of}
use Rattle.r9_locate.specs.locate.Table.{made, shape}
use Rattle.r9_pixels.specs.declared.keeping.KeptPixels.{KeptPixels}
use Rattle.r9_pixels.specs.Kept.{form_at, has_place, kept_at}
use Rattle.r9_pixels.specs.Places.{HasCells}
use Rattle.model_exchanged.specs.resize.Resize.{after_resize, sized, CanResize}
use Rattle.model_exchanged.proofs.resize.Sizes.{resize-forest}
use Rattle.r9_relist.specs.resize.Sizes.{with_rects}
use Rattle.r9_forest.specs.Numbered.{IsNumbered}
use Rattle.r9_forest.specs.Room.{HasFillRoom}
use Rattle.r9_forest.specs.Sound.{IsSound}
use Rattle.r9_relist.proofs.arrive.Canvases.{bare_canvas}
use Rattle.r9_forest.proofs.Numbers.{stay_numbered}
use Rattle.r9_forest.proofs.Roomy.{fills_put}

-- what can get another size can in the lists
pub can_lists : (bare : World) (kept : Place → ℕ) (i : ℕ) → CanResize (with_kept bare kept) i → CanResize bare i
can_lists bare kept i can =
    let same = bare_canvas bare kept in
    record {
      live = same.live i ∙ can.live;
      nowhere = ap (option_map (λ (s : Standing). s.parent)) (same.standing i) ∙ can.nowhere;
      whole = same.repl i ∙ can.whole;
      corner = ap (λ (r : Rect). r.min) (same.r i) ∙ can.corner;
    }

-- all is sound then
pub resized_sound : (lists more : Lists) (pixels new : KeptPixels) (spare : List ℕ) (i columns rows raw : ℕ) → IsSound lists pixels spare → CanResize (with_kept (shape lists) (kept_at pixels)) i → columns < 2 ^ 32 → rows < 2 ^ 32 → raw < 2 ^ depth (image_at (with_kept (shape lists) (kept_at pixels)) i).chan → shape more ≡ with_rects (shape lists) i (sized columns rows) (sized columns rows) → made more ≡ made lists → with_kept (shape more) (kept_at new) ≡ after_resize (with_kept (shape lists) (kept_at pixels)) i columns rows raw → HasCells (shape more) (has_place new) → form_at new ≡ forms_of (shape more) → IsSound more new spare
resized_sound lists more pixels new spare i columns rows raw sound can few low fits is count world cells forms = record {
  forest = subst IsForest (sym world) (resize-forest (with_kept (shape lists) (kept_at pixels)) i columns rows raw sound.forest can few low fits);
  forms = forms;
  cells = cells;
  numbers =
      subst (λ (w : World). IsNumbered w (made more) spare) (sym is)
      (subst (λ (n : ℕ). IsNumbered (with_rects (shape lists) i (sized columns rows) (sized columns rows)) n spare) (sym count)
      (stay_numbered (shape lists) (made lists) i spare (record (image_at (shape lists) i) { r = sized columns rows; clipr = sized columns rows }) ((can_lists (shape lists) (kept_at pixels) i can).live) sound.numbers));
}

-- and where it got none
pub unsized_sound : (lists more : Lists) (pixels new : KeptPixels) (spare : List ℕ) → shape more ≡ shape lists → made more ≡ made lists → kept_at new ≡ kept_at pixels → HasCells (shape more) (has_place new) → form_at new ≡ forms_of (shape more) → IsSound lists pixels spare → IsSound more new spare
unsized_sound lists more pixels new spare is count kept cells forms sound = record {
  forest =
      let same : with_kept (shape more) (kept_at new) ≡ with_kept (shape lists) (kept_at pixels) = λ j. with_kept (is j) (kept j) in
      subst IsForest (sym same) sound.forest;
  forms = forms;
  cells = cells;
  numbers = subst (λ (w : World). IsNumbered w (made more) spare) (sym is) (subst (λ (n : ℕ). IsNumbered (shape lists) n spare) (sym count) sound.numbers);
}

-- what windows uncover needs no more room
pub resized_fills : (world : World) (n i : ℕ) (r : Rect) → CanResize world i → HasFillRoom world n → HasFillRoom (with_rects world i r r) n
resized_fills world n i r can is = fills_put world n i (Some (record (image_at world i) { r = r; clipr = r })) (λ p stands. absurd (nowhere p stands)) is
  where
    nowhere : (p : ℕ) → option_map (λ (s : Standing). s.parent) (image_at world i).standing ≡ Some p → ⊥
    nowhere p stands = let none : None ≡ Some p = sym can.nowhere ∙ stands in cc

-- what follows from a result and from an error follows
pub either_way : {T E A B C D P : Type 0} (r : Result T E) → OnOk r A → OnOk r B → OnErr r C → OnErr r D → (A → B → P) → (C → D → P) → P
either_way (Ok x) a b c d done failed = done a b
either_way (Err e) a b c d done failed = failed c d
