-- What is the same but for its number shows the same.
use Rattle.std.proofs.Common.{◌≡◌, ◌&&◌, ℕ, zero, suc, Bool, true, false, List, [], ◌∷◌, Some, refl, ap, ◌∙◌}
use Rattle.std.specs.Prelude.{is_none, if◌then◌else◌}
use Rattle.std.specs.List.{AllZip}
use Rattle.std.specs.Option.{option_map_or}
use Rattle.r9_geom.specs.declared.Point.{Point}
use Rattle.r9_geom.specs.declared.Rect.{Rect}
use Rattle.r9_geom.specs.Geometry.{holds, reduced}
use Rattle.model_forest.specs.declared.Window.{Window}
use Rattle.model_forest.specs.World.{World, deepest, fill_of, image_at}
use Rattle.model_forest.specs.View.{at, inward, is_bare, top_window, view, view_within}
use Rattle.model_forest.specs.Draw.{reaches}
use Rattle.model_forest.specs.Paint.{paint, paint_within, painted_over}
use Rattle.model_forest.specs.Stack.{filled, uncovered}
use Rattle.law_likeness.specs.renamed.Renamed.{AreRenamed, SameWindow}

module _ (Same : ℕ → ℕ → Type 0) (a b : World) where
  -- what the topmost windows at a point are asked is answered the same
  pub top_same : {X : Type 0} (f g : Window → X) (d e : X) (p : Point) (vs ws : List Window) → AllZip (SameWindow Same a b) vs ws
      → ((v w : Window) → SameWindow Same a b v w → f v ≡ g w) → d ≡ e
      → option_map_or f (top_window vs p) d ≡ option_map_or g (top_window ws p) e
  top_same f g d e p [] [] zip each default = default
  top_same f g d e p [] (w ∷ ws) zip each default = absurd zip
  top_same f g d e p (v ∷ vs) [] zip each default = absurd zip
  top_same {X = X} f g d e p (v ∷ vs) (w ∷ ws) zip each default =
      by (holds v.place p) (holds w.place p) (ap (λ (place : Rect). holds place p) zip.0.place) (each v w zip.0) (top_same f g d e p vs ws zip.1 each default)
    where
      by : (x y : Bool) → x ≡ y → f v ≡ g w → option_map_or f (top_window vs p) d ≡ option_map_or g (top_window ws p) e
          → option_map_or f (if x then Some v else top_window vs p) d ≡ option_map_or g (if y then Some w else top_window ws p) e
      by true true placed here more = here
      by false false placed here more = more
      by true false placed here more = absurd cc
      by false true placed here more = absurd cc

  pub bare_same : (p : Point) (vs ws : List Window) → AllZip (SameWindow Same a b) vs ws → is_bare vs p ≡ is_bare ws p
  bare_same p [] [] zip = refl
  bare_same p [] (w ∷ ws) zip = absurd zip
  bare_same p (v ∷ vs) [] zip = absurd zip
  bare_same p (v ∷ vs) (w ∷ ws) zip =
      by (holds v.place p) (holds w.place p) (ap (λ (place : Rect). holds place p) zip.0.place) (bare_same p vs ws zip.1)
    where
      by : (x y : Bool) → x ≡ y → is_bare vs p ≡ is_bare ws p
          → is_none (if x then Some v else top_window vs p) ≡ is_none (if y then Some w else top_window ws p)
      by true true placed more = refl
      by false false placed more = more
      by true false placed more = absurd cc
      by false true placed more = absurd cc

module _ (Same : ℕ → ℕ → Type 0) (a b : World) (same : AreRenamed Same a b) where
  within_same : (depth i j : ℕ) (p : Point) → Same i j → view_within depth a i p ≡ view_within depth b j p
  within_same zero i j p is = refl
  within_same (suc depth) i j p is =
      top_same Same a b (λ v. view_within depth a v.image (inward a v p)) (λ w. view_within depth b w.image (inward b w p)) _ _ p
      (image_at a i).windows (image_at b j).windows (same.windows i j is)
      (λ v w one. within_same depth v.image w.image (inward a v p) one.image
      ∙ ap (λ (q : Point). view_within depth b w.image q) (rw (one.place, (same.faces v.image w.image one.image).r) refl))
      ((same.faces i j is).canvas p)

  pub view_same : (i j : ℕ) (p : Point) → Same i j → view a i p ≡ view b j p
  unfolding view
  view_same i j p is = within_same (suc deepest) i j p is

  pub at_same : (i j : ℕ) (p : Point) → Same i j → at a i p ≡ at b j p
  at_same i j p is =
      let face = same.faces i j is in
      rw (face.repl, face.r) (view_same i j (if (image_at b j).repl then reduced (image_at b j).r p else p) is)

  pub reaches_same : (i j : ℕ) (p : Point) → Same i j → reaches (image_at a i) p ≡ reaches (image_at b j) p
  reaches_same i j p is = let face = same.faces i j is in rw (face.clipr, face.repl, face.r) refl

  -- what a window uncovers is filled the same
  filled_same : (chan : ℕ) (v w : Window) (p : Point) → SameWindow Same a b v w → filled a chan v p ≡ filled b chan w p
  filled_same chan v w p one =
      let f = fill_of a v.image in
      let g = fill_of b w.image in
      rw (reaches_same f g p one.fill, (same.faces f g one.fill).chan, at_same f g p one.fill) refl

  pub uncovered_same : (i j : ℕ) (p : Point) → Same i j → uncovered a i p ≡ uncovered b j p
  uncovered_same i j p is =
      rw (same.faces i j is).chan
      (top_same Same a b (λ v. filled a (image_at b j).chan v p) (λ w. filled b (image_at b j).chan w p) _ _ p
      (image_at a i).windows (image_at b j).windows (same.windows i j is)
      (λ v w one. filled_same (image_at b j).chan v w p one)
      ((same.faces i j is).canvas p))

  -- ---- painted from back to front

  painted_same : (r q : Rect) → r ≡ q → (f g : Window → Point → ℕ) (x y : Point → ℕ) (vs ws : List Window) → AllZip (SameWindow Same a b) vs ws
      → ((v w : Window) (p : Point) → SameWindow Same a b v w → f v p ≡ g w p) → ((p : Point) → x p ≡ y p) → (p : Point)
      → painted_over r f vs x p ≡ painted_over q g ws y p
  painted_same r q is f g x y [] [] zip each under p = under p
  painted_same r q is f g x y [] (w ∷ ws) zip each under p = absurd zip
  painted_same r q is f g x y (v ∷ vs) [] zip each under p = absurd zip
  painted_same r q is f g x y (v ∷ vs) (w ∷ ws) zip each under p =
      by (holds r p) (holds q p) (holds v.place p) (holds w.place p) (ap (λ (s : Rect). holds s p) is) (ap (λ (s : Rect). holds s p) zip.0.place)
      (each v w p zip.0) (painted_same r q is f g x y vs ws zip.1 each under p)
    where
      by : (s t k l : Bool) → s ≡ t → k ≡ l → f v p ≡ g w p → painted_over r f vs x p ≡ painted_over q g ws y p
          → (if s && k then f v p else painted_over r f vs x p) ≡ (if t && l then g w p else painted_over q g ws y p)
      by true true true true inside placed here more = here
      by true true false false inside placed here more = more
      by false false k l inside placed here more = more
      by true true true false inside placed here more = absurd cc
      by true true false true inside placed here more = absurd cc
      by true false k l inside placed here more = absurd cc
      by false true k l inside placed here more = absurd cc

  paint_within_same : (depth i j : ℕ) (p : Point) → Same i j → paint_within depth a i p ≡ paint_within depth b j p
  paint_within_same zero i j p is = refl
  paint_within_same (suc depth) i j p is =
      painted_same _ _ (same.faces i j is).r
      (λ v q. paint_within depth a v.image (inward a v q)) (λ w q. paint_within depth b w.image (inward b w q)) _ _
      (image_at a i).windows (image_at b j).windows (same.windows i j is)
      (λ v w q one. paint_within_same depth v.image w.image (inward a v q) one.image
      ∙ ap (λ (at : Point). paint_within depth b w.image at) (rw (one.place, (same.faces v.image w.image one.image).r) refl))
      (same.faces i j is).canvas p

  pub paint_same : (i j : ℕ) (p : Point) → Same i j → paint a i p ≡ paint b j p
  unfolding paint
  paint_same i j p is = paint_within_same (suc deepest) i j p is
