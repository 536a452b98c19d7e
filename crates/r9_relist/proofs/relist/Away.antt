-- A window that stands where the image has no point, and moves from there.
use Rattle.std.proofs.Common.{◌≡◌, ◌∙◌, ℕ, Bool, true, false, All, List, Option, Some, None, refl, sym, ap}
use Rattle.std.specs.Prelude.{◌==◌, ◌&&◌, is_none, if◌then◌else◌}
use Rattle.std.specs.Option.{option_map_or}
use Rattle.std.proofs.lemmas.Bool.{false_from_ne_true, true≢false}
use Rattle.r9_geom.specs.declared.Point.{Point}
use Rattle.r9_geom.specs.Geometry.{holds}
use Rattle.model_forest.specs.declared.Window.{Window}
use Rattle.model_forest.specs.View.{is_bare, top_window}
use Rattle.model_forest.specs.World.{World, image_at, parent_of, IsForest}
use Rattle.model_kept.specs.Keeping.{is_shown, is_top, outward, own, place_among, Place}
use Rattle.model_kept.proofs.Hiding.{place-inside}
use Rattle.model_kept.proofs.Once.{places-forest}
use Rattle.r9_pixels.specs.Places.{HasCells}
use Rattle.r9_pixels.proofs.Points.{hidden_has}
use Rattle.r9_restack.specs.Changing.{IsUnseen}
use Rattle.r9_relist.specs.relist.Relisting.{IsAway, IsRelisting}
use Rattle.r9_relist.proofs.relist.Relisted.{relist_one}
use Rattle.r9_relist.proofs.relist.Tops.{top_place, top-but}

bare_top : (o : Option Window) (w : ℕ) → is_none o ≡ true → option_map_or (λ (v : Window). v.image == w) o false ≡ false
bare_top None w e = refl
bare_top (Some v) w e = cc

module _ (world : World) (p w : ℕ) (ws : List Window) (is : IsRelisting world p w ws) (ok : IsForest world) (away : IsAway world p w ws) where
  -- where it stands it is not seen
  pub away_unseen : IsUnseen world p ws w
  away_unseen = record {
    before = λ x h. ap (λ b. b && is_top (image_at world p).windows w (outward world p w x)) (away.off (outward world p w x) (there x h));
    after = λ x h.
        let q = outward world p w x in
        false_from_ne_true (is_top ws w q) (λ seen. true≢false (sym (top_place w q ws (relist_one world p ws is.live is.forest) seen) ∙ away.apart q (there x h)));
  }
    where
      there : (x : Point) → holds (image_at world w).r x ≡ true → holds (place_among (image_at world p).windows w) (outward world p w x) ≡ true
      there x h = place-inside world ok (places-forest world ok) p w x is.stands h

  -- all its points have places
  pub away_has : (has : Place → Bool) → HasCells world has → (x : Point) → holds (image_at world w).r x ≡ true → has (own w x) ≡ true
  away_has has cells x inside =
      hidden_has world has w x ok cells inside
      (ap (λ o. option_map_or (λ (m : ℕ). if is_shown world m w (outward world m w x) then false else true) o false) is.stands
      ∙ ap (λ b. if b then false else true) (away_unseen.before x inside))

  -- it is topmost at no point of the image
  pub away_top : (z : Point) → holds (image_at world p).r z ≡ true → is_top (image_at world p).windows w z ≡ false
  away_top z inside =
      false_from_ne_true (is_top (image_at world p).windows w z)
      (λ seen. true≢false (sym inside ∙ away.off z (top_place w z (image_at world p).windows (places-forest world ok p is.live) seen)))

  -- what is bare then was bare
  pub away_bare : (z : Point) → holds (image_at world p).r z ≡ true → is_bare ws z ≡ true → is_bare (image_at world p).windows z ≡ true
  away_bare z inside bare =
      sym
      (ap is_none
      (sym (top-but w z ws (bare_top (top_window ws z) w bare)) ∙ ap (λ (vs : List Window). top_window vs z) is.others
      ∙ top-but w z (image_at world p).windows (away_top z inside)))
      ∙ bare
