-- Pixels that are put in the plane of an image on which nothing stands.
use Rattle.std.proofs.Common.{◌≡◌, ◌≢◌, ◌∙◌, ℕ, true, false, List, [], ◌∷◌, length, Option, Some, None, refl, sym, ap, arith}
use Rattle.std.specs.Prelude.{option_map}
use Rattle.r9_geom.specs.declared.Point.{Point}
use Rattle.r9_geom.specs.declared.Rect.{Rect}
use Rattle.r9_geom.specs.Geometry.{holds}
use Rattle.model_forest.specs.declared.Window.{Window}
use Rattle.model_forest.specs.View.{is_bare}
use Rattle.model_forest.specs.World.{World, image_at, parent_of, IsLive}
use Rattle.model_kept.specs.Keeping.{own, Place}
use Rattle.r9_locate.specs.locate.Forms.{forms_of, Form}
use Rattle.r9_locate.proofs.locate.Locating.{keeping-root}
use Rattle.r9_pixels.specs.declared.keeping.KeptPixels.{KeptPixels}
use Rattle.r9_pixels.specs.Kept.{form_at, has_place, kept_at, moment}
use Rattle.r9_put.specs.put.Written.{IsStored, IsWritten}
use Rattle.r9_put.proofs.put.Forms.{form_live, standing_nowhere}

-- where no window stands, each point is bare
bare_all : (ws : List Window) (p : Point) → length ws ≡ 0 → is_bare ws p ≡ true
bare_all [] p none = refl
bare_all (w ∷ ws) p none = absurd (omega (arith, none))

pub whole_form : (world : World) (pixels : KeptPixels) (i : ℕ) → form_at pixels ≡ forms_of world → IsLive world i → parent_of world i ≡ None → option_map (λ (f : Form). f.is_window) (form_at pixels i) ≡ Some false
whole_form world pixels i forms live root =
    ap (λ (f : ℕ → Option Form). option_map (λ (f : Form). f.is_window) (f i)) forms
    ∙ ap (option_map (λ (f : Form). f.is_window)) (form_live world i live)
    ∙ ap (λ b. Some b) (standing_nowhere (image_at world i).standing root)

pub whole_place : (world : World) (pixels : KeptPixels) (i : ℕ) (p : Point) → IsStored world pixels → IsLive world i → parent_of world i ≡ None → holds (image_at world i).r p ≡ true → has_place pixels (own i p) ≡ true
whole_place world pixels i p stored live root inside = ap (has_place pixels) (sym (keeping-root world i p root)) ∙ stored.has i p live inside

pub whole_written : (world : World) (i : ℕ) (r : Rect) (f : Point → ℕ) (old new : KeptPixels) → parent_of world i ≡ None → length (image_at world i).windows ≡ 0 → ((p : Point) → holds r p ≡ true → holds (image_at world i).r p ≡ true) → ((p : Point) → holds r p ≡ true → kept_at new (own i p) ≡ f p) → ((place : Place) → ((p : Point) → holds r p ≡ true → place ≢ own i p) → kept_at new place ≡ kept_at old place) → has_place new ≡ has_place old → form_at new ≡ form_at old → moment new ≡ moment old → IsWritten world i (holds r) f old new
whole_written world i r f old new root none inside at others has forms moments = record {
  put = record {
    put = λ p within in_r bare. ap (kept_at new) (keeping-root world i p root) ∙ at p in_r;
    others = λ place apart.
        others place (λ p in_r is. apart p (inside p in_r) in_r (bare_all (image_at world i).windows p none) (is ∙ sym (keeping-root world i p root)));
  };
  has = has;
  forms = forms;
  moment = moments;
}
