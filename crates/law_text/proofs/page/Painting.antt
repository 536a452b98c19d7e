-- What drawings in the window of a text show.
use Rattle.std.proofs.Common.{◌≡◌, ◌∙◌, ◌<◌, ℕ, Bool, true, false, ◌&&◌, cond, eqb, List, Some, refl, sym, subst, arith}
use Rattle.std.proofs.lemmas.Bool.{and_right, eq-eqb}
use Rattle.r9_geom.specs.declared.Point.{Point}
use Rattle.r9_geom.specs.declared.Rect.{Rect}
use Rattle.r9_geom.specs.Geometry.{holds, reduced}
use Rattle.model_pixel.specs.Channels.{mask}
use Rattle.model_pixel.specs.Rows.{row_pixel}
use Rattle.model_forest.specs.World.{Image, World, image_at}
use Rattle.model_forest.specs.View.{at, is_bare, view}
use Rattle.model_forest.specs.Draw.{Drawing, after_draw, drawn, in_area, reaches}
use Rattle.model_clients.specs.page.Text.{Shape, dot, everywhere, font_rect, grey8, page_rect, rgb24}
use Rattle.model_clients.specs.page.Page.{page, paper}
use Rattle.law_text.specs.page.Page.{AreApart, IsColour, IsSheet, Numbers, Shows}
use Rattle.law_text.proofs.page.Spots.{box_holds, reduced_dot, spot}

-- ---- what images give

pub sheet_view : (images : World) (i : ℕ) (r : Rect) (chan : ℕ) (pixel : Point → ℕ) (p : Point) → IsSheet (image_at images i) r chan pixel → holds r p ≡ true → view images i p ≡ pixel p
unfolding view
sheet_view images i r chan pixel p sheet held = rw sheet.windows (sheet.canvas p held)

pub sheet_at : (images : World) (i : ℕ) (r : Rect) (chan : ℕ) (pixel : Point → ℕ) (p : Point) → IsSheet (image_at images i) r chan pixel → holds r p ≡ true → at images i p ≡ pixel p
sheet_at images i r chan pixel p sheet held = rw sheet.repl (sheet_view images i r chan pixel p sheet held)

pub sheet_reaches : (image : Image) (r : Rect) (chan : ℕ) (pixel : Point → ℕ) (p : Point) → IsSheet image r chan pixel → holds r p ≡ true → reaches image p ≡ true
sheet_reaches image r chan pixel p sheet held = rw (sheet.clipr, sheet.repl, sheet.r, held) refl

pub colour_at : (images : World) (i raw x y : ℕ) → IsColour (image_at images i) raw → at images i (spot x y) ≡ raw
unfolding view
colour_at images i raw x y colour = rw (colour.repl, colour.windows, colour.r) (colour.canvas (reduced dot (spot x y)) (reduced_dot x y))

pub colour_reaches : (image : Image) (raw x y : ℕ) → IsColour image raw → x < 0x3fffffff → y < 0x3fffffff → reaches image (spot x y) ≡ true
colour_reaches image raw x y colour left top =
    let far : holds everywhere (spot x y) ≡ true = box_holds 0 0 0x3fffffff 0x3fffffff x y (record { left = omega arith; right = left; top = omega arith; bottom = top }) in
    rw (colour.clipr, colour.repl, far) refl

-- ---- what a drawing leaves

other_image : (images : World) (d : Drawing) (i : ℕ) → eqb i d.dst ≡ false → image_at (after_draw images d) i ≡ image_at images i
unfolding after_draw
other_image images d i other = rw other refl

drawn_image : (images : World) (d : Drawing) → image_at (after_draw images d) d.dst
    ≡ record (image_at images d.dst) {
      canvas = λ p. cond (in_area images d p && is_bare (image_at images d.dst).windows p) (drawn images d p) ((image_at images d.dst).canvas p);
    }
unfolding after_draw
drawn_image images d = rw (eq-eqb d.dst d.dst refl) refl

-- a stroke in the window
abbrev pub stroke : Numbers → (clip r : Rect) (src : ℕ) (sp : Point) (mask : ℕ) (mp : Point) → Drawing
stroke n clip r src sp mask mp = record { dst = n.window; clip = clip; r = r; src = src; sp = sp; mask = Some mask; mp = mp; op = 11 }

-- The window shows the next page where the stroke gives each point of its rectangle what that page has there, and the pages are
-- the same elsewhere.
pub repainted : (shape : Shape) (pixels : List ℕ) (n : Numbers) (rows next : List (List ℕ)) (images : World) (clip r : Rect) (src : ℕ) (sp : Point) (mask : ℕ) (mp : Point)
    → AreApart n → Shows shape pixels n rows images
    → ((p : Point) → holds (page_rect shape) p ≡ true → holds r p ≡ true → in_area images (stroke n clip r src sp mask mp) p ≡ true)
    → ((p : Point) → holds (page_rect shape) p ≡ true → holds r p ≡ true → drawn images (stroke n clip r src sp mask mp) p ≡ page shape pixels next p)
    → ((p : Point) → holds (page_rect shape) p ≡ true → holds r p ≡ false → page shape pixels rows p ≡ page shape pixels next p)
    → Shows shape pixels n next (after_draw images (stroke n clip r src sp mask mp))
repainted shape pixels n rows next images clip r src sp mask mp apart shows reached painted kept = record {
  white = subst (λ (image : Image). IsColour image paper) (sym (other_image images d n.white apart.white)) shows.white;
  black = subst (λ (image : Image). IsColour image 0) (sym (other_image images d n.black apart.black)) shows.black;
  letters = subst (λ (image : Image). IsSheet image (font_rect shape) grey8 (row_pixel (font_rect shape) 8 pixels)) (sym (other_image images d n.letters apart.letters)) shows.letters;
  window = subst (λ (image : Image). IsSheet image (page_rect shape) rgb24 (page shape pixels next)) (sym (drawn_image images d)) (record {
    r = shows.window.r;
    clipr = shows.window.clipr;
    repl = shows.window.repl;
    chan = shows.window.chan;
    canvas = λ p held. by p held (holds r p) refl;
    windows = shows.window.windows;
  });
}
  where
    d : Drawing
    d = stroke n clip r src sp mask mp

    by : (p : Point) → holds (page_rect shape) p ≡ true → (b : Bool) → holds r p ≡ b
        → cond (in_area images d p && is_bare (image_at images n.window).windows p) (drawn images d p) ((image_at images n.window).canvas p) ≡ page shape pixels next p
    by p held true within = rw (shows.window.windows, reached p held within) (painted p held within)
    by p held false without =
        let off : in_area images d p ≡ false = rw (without, and_right (holds (image_at images n.window).r p && holds (image_at images n.window).clipr p && holds clip p) false refl) refl in
        rw off (shows.window.canvas p held ∙ kept p held without)
