-- Drawing, loading and setting images that are the same but for their numbers, and other lists of windows on them.
use Rattle.std.proofs.Common.{◌≡◌, ◌&&◌, ℕ, Bool, true, false, List, Option, Some, None, refl, ap, ◌∙◌}
use Rattle.std.specs.Prelude.{if◌then◌else◌}
use Rattle.std.specs.List.{AllZip}
use Rattle.std.specs.Option.{option_map_or}
use Rattle.r9_geom.specs.declared.Point.{Point}
use Rattle.r9_geom.specs.declared.Rect.{Rect}
use Rattle.r9_geom.specs.Geometry.{carried, holds}
use Rattle.model_pixel.specs.Channels.{mask}
use Rattle.model_forest.specs.declared.Window.{Window}
use Rattle.model_forest.specs.World.{World, image_at}
use Rattle.model_forest.specs.View.{at}
use Rattle.model_forest.specs.Draw.{Drawing, after_draw, after_fill, after_load, drawn, in_area, mask_value, reaches, with_canvas}
use Rattle.model_forest.specs.Stack.{with_windows}
use Rattle.model_forest.specs.Steps.{after_set}
use Rattle.law_likeness.specs.renamed.Renamed.{AreRenamed, SameMask, SameWindow}
use Rattle.law_likeness.proofs.renamed.Views.{at_same, bare_same, reaches_same, uncovered_same, view_same}
use Rattle.law_likeness.proofs.renamed.Changes.{renamed_changed}

if_same : {X : Type 0} (x y : Bool) (u v s t : X) → x ≡ y → u ≡ v → s ≡ t → (if x then u else s) ≡ (if y then v else t)
if_same true true u v s t test one other = one
if_same false false u v s t test one other = other
if_same true false u v s t test one other = absurd cc
if_same false true u v s t test one other = absurd cc

and_same : (x y u v : Bool) → x ≡ y → u ≡ v → (x && u) ≡ (y && v)
and_same true true u v first second = second
and_same false false u v first second = refl
and_same true false u v first second = absurd cc
and_same false true u v first second = absurd cc

module _ (Same : ℕ → ℕ → Type 0) (a b : World) (same : AreRenamed Same a b) where
  pub renamed_canvas : (i j : ℕ) → Same i j → (area_a area_b : Point → Bool) (new_a new_b : Point → ℕ)
      → ((p : Point) → area_a p ≡ area_b p) → ((p : Point) → new_a p ≡ new_b p)
      → AreRenamed Same (with_canvas a i area_a new_a) (with_canvas b j area_b new_b)
  renamed_canvas i j is area_a area_b new_a new_b areas news =
      let face = same.faces i j is in
      renamed_changed Same a b same i j is _ _ (record {
        r = face.r;
        clipr = face.clipr;
        repl = face.repl;
        chan = face.chan;
        depth = face.depth;
        canvas = λ p.
            if_same _ _ _ _ _ _ (and_same _ _ _ _ (areas p) (bare_same Same a b p (image_at a i).windows (image_at b j).windows (same.windows i j is)))
            (news p) (face.canvas p);
      }) (same.windows i j is) refl refl

  pub renamed_load : (i j : ℕ) → Same i j → (r : Rect) (raws : Point → ℕ) → AreRenamed Same (after_load a i r raws) (after_load b j r raws)
  unfolding after_load
  renamed_load i j is r raws = renamed_canvas i j is (holds r) (holds r) raws raws (λ p. refl) (λ p. refl)

  pub renamed_fill : (i j : ℕ) → Same i j → (r : Rect) (raw : ℕ) → AreRenamed Same (after_fill a i r raw) (after_fill b j r raw)
  unfolding after_fill
  renamed_fill i j is r raw = renamed_canvas i j is (holds r) (holds r) (λ _. raw) (λ _. raw) (λ p. refl) (λ p. refl)

  pub renamed_set : (i j : ℕ) → Same i j → (repl : Bool) (clipr : Rect) → AreRenamed Same (after_set a i repl clipr) (after_set b j repl clipr)
  unfolding after_set
  renamed_set i j is repl clipr =
      let face = same.faces i j is in
      renamed_changed Same a b same i j is _ _
      (record { r = face.r; clipr = refl; repl = refl; chan = face.chan; depth = face.depth; canvas = face.canvas })
      (same.windows i j is) refl refl

  -- ---- one drawing, of the same images

  abbrev renamed : Drawing → (dst src : ℕ) → (mask : Option ℕ) → Drawing
  renamed d dst src mask = record d { dst = dst; src = src; mask = mask }

  mask_reached : (m n : Option ℕ) (p : Point) → SameMask Same m n
      → option_map_or (λ i. reaches (image_at a i) p) m true ≡ option_map_or (λ i. reaches (image_at b i) p) n true
  mask_reached (Some i) (Some j) p is = reaches_same Same a b same i j p is
  mask_reached None None p is = refl
  mask_reached (Some i) None p is = absurd is
  mask_reached None (Some j) p is = absurd is

  mask_same : (d : Drawing) (i j s t : ℕ) (m n : Option ℕ) (p : Point) → SameMask Same m n → mask_value a (renamed d i s m) p ≡ mask_value b (renamed d j t n) p
  mask_same d i j s t (Some k) (Some l) p is =
      ap (λ (chan : ℕ). mask chan (at a k (carried p d.r.min d.mp))) (same.faces k l is).chan
      ∙ ap (mask (image_at b l).chan) (at_same Same a b same k l (carried p d.r.min d.mp) is)
  mask_same d i j s t None None p is = refl
  mask_same d i j s t (Some k) None p is = absurd is
  mask_same d i j s t None (Some l) p is = absurd is

  area_same : (d : Drawing) (i j s t : ℕ) (m n : Option ℕ) (p : Point) → Same i j → Same s t → SameMask Same m n
      → in_area a (renamed d i s m) p ≡ in_area b (renamed d j t n) p
  area_same d i j s t m n p is source masked =
      let face = same.faces i j is in
      and_same _ _ _ _
      (and_same _ _ _ _
      (and_same _ _ (holds d.r p) (holds d.r p)
      (and_same _ _ (holds d.clip p) (holds d.clip p)
      (and_same _ _ _ _ (ap (λ (r : Rect). holds r p) face.r) (ap (λ (r : Rect). holds r p) face.clipr)) refl) refl)
      (reaches_same Same a b same s t (carried p d.r.min d.sp) source))
      (mask_reached m n (carried p d.r.min d.mp) masked)

  drawn_same : (d : Drawing) (i j s t : ℕ) (m n : Option ℕ) (p : Point) → Same i j → Same s t → SameMask Same m n
      → drawn a (renamed d i s m) p ≡ drawn b (renamed d j t n) p
  drawn_same d i j s t m n p is source masked =
      rw (
        mask_same d i j s t m n p masked,
        view_same Same a b same i j p is,
        at_same Same a b same s t (carried p d.r.min d.sp) source,
        (same.faces i j is).chan,
        (same.faces s t source).chan,
      ) refl

  pub renamed_draw : (d : Drawing) (i j s t : ℕ) (m n : Option ℕ) → Same i j → Same s t → SameMask Same m n
      → AreRenamed Same (after_draw a (renamed d i s m)) (after_draw b (renamed d j t n))
  unfolding after_draw
  renamed_draw d i j s t m n is source masked =
      renamed_canvas i j is (in_area a (renamed d i s m)) (in_area b (renamed d j t n)) (drawn a (renamed d i s m)) (drawn b (renamed d j t n))
      (λ p. area_same d i j s t m n p is source masked) (λ p. drawn_same d i j s t m n p is source masked)

  -- ---- other lists of windows

  pub renamed_windows : (i j : ℕ) → Same i j → (vs ws : List Window) → AllZip (SameWindow Same a b) vs ws
      → AreRenamed Same (with_windows a i vs) (with_windows b j ws)
  renamed_windows i j is vs ws lists =
      let face = same.faces i j is in
      renamed_changed Same a b same i j is _ _ (record {
        r = face.r;
        clipr = face.clipr;
        repl = face.repl;
        chan = face.chan;
        depth = face.depth;
        canvas = λ p.
            if_same _ _ _ _ _ _ (and_same _ _ _ _ (ap (λ (r : Rect). holds r p) face.r) (bare_same Same a b p vs ws lists))
            (uncovered_same Same a b same i j p is) refl;
      }) lists refl refl
