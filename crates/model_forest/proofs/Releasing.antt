-- An image that goes leaves the others where they stand.
use Rattle.std.proofs.Common.{◌≡◌, ℕ, Bool, true, false, List, ◌∷◌, Option, Some, None, refl, sym, ap, subst, ◌∙◌, arith}
use Rattle.std.specs.Prelude.{◌==◌, is_some, unwrap_or, if◌then◌else◌}
use Rattle.std.specs.Option.{option_map_or}
use Rattle.std.proofs.lemmas.Bool.{eqb-true}
use Rattle.std.proofs.lemmas.Bool.Decides.{nat_tests}
use Rattle.r9_geom.specs.declared.Point.{Point}
use Rattle.r9_geom.specs.declared.Rect.{Rect}
use Rattle.model_forest.specs.declared.Window.{Window}
use Rattle.model_forest.specs.World.{Image, World, image_at, no_image, parent_of, with_image, IsLive}
use Rattle.model_forest.specs.Stack.{after_window, moved, new_window, seen, uncovered, with_windows, without}
use Rattle.model_forest.specs.Steps.{after_origin, after_release, carried_rect, shifted_image}

-- two images that differ in their windows and their canvases at most
pub record SameFrame (old new : Image) : Type 0 where
  pub r : new.r ≡ old.r
  pub clipr : new.clipr ≡ old.clipr
  pub repl : new.repl ≡ old.repl
  pub chan : new.chan ≡ old.chan
  pub standing : new.standing ≡ old.standing
  pub depth : new.depth ≡ old.depth

pub frame-same : (image : Image) → SameFrame image image
frame-same image = record { r = refl; clipr = refl; repl = refl; chan = refl; standing = refl; depth = refl }

pub frame-after : (a b c : Image) → SameFrame a b → SameFrame b c → SameFrame a c
frame-after a b c f g = record {
  r = g.r ∙ f.r;
  clipr = g.clipr ∙ f.clipr;
  repl = g.repl ∙ f.repl;
  chan = g.chan ∙ f.chan;
  standing = g.standing ∙ f.standing;
  depth = g.depth ∙ f.depth;
}

-- an image with another list
abbrev listed_at : World → ℕ → List Window → Image
listed_at world p ws =
    let old = image_at world p in
    record old { windows = ws; canvas = seen old.r ws (uncovered world p) }

-- another list of windows leaves each image where it stands
pub windows-frame : (world : World) (p n : ℕ) (ws : List Window) → SameFrame (image_at world n) (image_at (with_windows world p ws) n)
windows-frame world p n ws = by (n == p) refl
  where
    by : (b : Bool) → (n == p) ≡ b → SameFrame (image_at world n) (unwrap_or (if b then Some (listed_at world p ws) else world n) no_image)
    by true e =
        let same : image_at world n ≡ image_at world p = ap (λ (k : ℕ). image_at world k) (eqb-true n p e) in
        let P : Image → Type 0 = λ old. SameFrame old (listed_at world p ws) in
        subst P (sym same) (record { r = refl; clipr = refl; repl = refl; chan = refl; standing = refl; depth = refl })
    by false e = frame-same (image_at world n)

-- and none comes or goes
pub windows-live : (world : World) (p n : ℕ) (ws : List Window) → IsLive world p → is_some (with_windows world p ws n) ≡ is_some (world n)
windows-live world p n ws live = by (n == p) refl
  where
    by : (b : Bool) → (n == p) ≡ b → is_some (if b then Some (listed_at world p ws) else world n) ≡ is_some (world n)
    by true e = sym (ap (λ (k : ℕ). is_some (world k)) (eqb-true n p e) ∙ live)
    by false e = refl

-- the world in which the list of the image that another stands on, if there is one, has changed
abbrev pub relisted : World → (List Window → List Window) → Option ℕ → World
relisted world change parent = option_map_or (λ p. with_windows world p (change (image_at world p).windows)) parent world

pub relisted-frame : (world : World) (change : List Window → List Window) (n : ℕ) (parent : Option ℕ) → SameFrame (image_at world n) (image_at (relisted world change parent) n)
relisted-frame world change n None = frame-same (image_at world n)
relisted-frame world change n (Some p) = windows-frame world p n (change (image_at world p).windows)

pub relisted-live : (world : World) (change : List Window → List Window) (n : ℕ) (parent : Option ℕ) → ((p : ℕ) → parent ≡ Some p → IsLive world p) → is_some (relisted world change parent n) ≡ is_some (world n)
relisted-live world change n None live = refl
relisted-live world change n (Some p) live = windows-live world p n (change (image_at world p).windows) (live p refl)

-- the image has gone
pub released-none : (world : World) (i n : ℕ) → (n == i) ≡ true → after_release world i n ≡ None
unfolding after_release
released-none world i n e = ap (λ (b : Bool). if b then None else relisted world (without i) (parent_of world i) n) e

-- the others stay
pub released-live : (world : World) (i n : ℕ) → ((p : ℕ) → parent_of world i ≡ Some p → IsLive world p) → (n == i) ≡ false → is_some (after_release world i n) ≡ is_some (world n)
unfolding after_release
released-live world i n live e =
    ap (λ (b : Bool). is_some (if b then None else relisted world (without i) (parent_of world i) n)) e ∙ relisted-live world (without i) n (parent_of world i) live

-- each where it stands, and the parent with another list and canvas at most
pub released-frame : (world : World) (i n : ℕ) → (n == i) ≡ false → SameFrame (image_at world n) (image_at (after_release world i) n)
unfolding after_release
released-frame world i n e =
    let P : Bool → Type 0 = λ b. SameFrame (image_at world n) (unwrap_or (if b then None else relisted world (without i) (parent_of world i) n) no_image) in
    subst P (sym e) (relisted-frame world (without i) n (parent_of world i))

-- ---- what stays where a window comes or moves

-- the images of one number in two worlds live both or not, and stand alike
pub record Stays (old new : World) (n : ℕ) : Type 0 where
  pub live : is_some (new n) ≡ is_some (old n)
  pub frame : SameFrame (image_at old n) (image_at new n)

pub stays-same : (old new : World) (n : ℕ) → new n ≡ old n → Stays old new n
stays-same old new n e = record {
  live = ap is_some e;
  frame = (let P : Option Image → Type 0 = λ o. SameFrame (image_at old n) (unwrap_or o no_image) in subst P (sym e) (frame-same (image_at old n)));
}

pub stays-after : (a b c : World) (n : ℕ) → Stays a b n → Stays b c n → Stays a c n
stays-after a b c n f g = record { live = g.live ∙ f.live; frame = frame-after _ _ _ f.frame g.frame }

pub changed-other : (world : World) (i n : ℕ) (slot : Option Image) → (n == i) ≡ false → with_image world i slot n ≡ world n
changed-other world i n slot e = ap (λ (b : Bool). if b then slot else world n) e

pub changed-at : (world : World) (i : ℕ) (slot : Option Image) → with_image world i slot i ≡ slot
changed-at world i slot = let same : (i == i) ≡ true = grind (arith, nat_tests) in ap (λ (b : Bool). if b then slot else world i) same

pub windows-stay : (world : World) (p n : ℕ) (ws : List Window) → IsLive world p → Stays world (with_windows world p ws) n
windows-stay world p n ws live = record { live = windows-live world p n ws live; frame = windows-frame world p n ws }

pub relisted-stays : (world : World) (change : List Window → List Window) (n : ℕ) (parent : Option ℕ) → ((p : ℕ) → parent ≡ Some p → IsLive world p) → Stays world (relisted world change parent) n
relisted-stays world change n parent live = record { live = relisted-live world change n parent live; frame = relisted-frame world change n parent }

-- a new window leaves the others where they stand
pub window-others : (world : World) (i parent fill : ℕ) (r : Rect) (raw n : ℕ) → IsLive world parent → (parent == i) ≡ false → (n == i) ≡ false → Stays world (after_window world i parent fill r raw) n
unfolding after_window
window-others world i parent fill r raw n live apart other =
    let image : Image = new_window world parent fill r raw in
    let more : World = with_image world i (Some image) in
    let there : IsLive more parent = ap is_some (changed-other world i parent (Some image) apart) ∙ live in
    stays-after world more _ n
    (stays-same world more n (changed-other world i n (Some image) other))
    (windows-stay more parent n (record { image = i; place = r } ∷ (image_at world parent).windows) there)

-- and stands on its parent
pub window-live : (world : World) (i parent fill : ℕ) (r : Rect) (raw : ℕ) → IsLive world parent → (parent == i) ≡ false → IsLive (after_window world i parent fill r raw) i
unfolding after_window
window-live world i parent fill r raw live apart =
    let image : Image = new_window world parent fill r raw in
    let more : World = with_image world i (Some image) in
    let there : IsLive more parent = ap is_some (changed-other world i parent (Some image) apart) ∙ live in
    windows-live more parent i (record { image = i; place = r } ∷ (image_at world parent).windows) there ∙ ap is_some (changed-at world i (Some image))

pub window-frame : (world : World) (i parent fill : ℕ) (r : Rect) (raw : ℕ) → SameFrame (new_window world parent fill r raw) (image_at (after_window world i parent fill r raw) i)
unfolding after_window
window-frame world i parent fill r raw =
    let image : Image = new_window world parent fill r raw in
    let more : World = with_image world i (Some image) in
    let P : Option Image → Type 0 = λ o. SameFrame (unwrap_or o no_image) (image_at (with_windows more parent (record { image = i; place = r } ∷ (image_at world parent).windows)) i) in
    subst P (changed-at world i (Some image)) (windows-frame more parent i (record { image = i; place = r } ∷ (image_at world parent).windows))

-- a window that moves leaves the others where they stand
pub origin-others : (world : World) (i : ℕ) (min corner : Point) (n : ℕ) → ((p : ℕ) → parent_of world i ≡ Some p → IsLive world p) → (n == i) ≡ false → Stays world (after_origin world i min corner) n
unfolding after_origin
origin-others world i min corner n live other =
    let change : List Window → List Window = moved i (carried_rect (image_at world i).r (image_at world i).r.min corner) in
    let listed : World = relisted world change (parent_of world i) in
    stays-after world listed _ n
    (relisted-stays world change n (parent_of world i) live)
    (stays-same listed _ n (changed-other listed i n (Some (shifted_image (image_at world i) min)) other))

pub origin-at : (world : World) (i : ℕ) (min corner : Point) → after_origin world i min corner i ≡ Some (shifted_image (image_at world i) min)
unfolding after_origin
origin-at world i min corner =
    changed-at (relisted world (moved i (carried_rect (image_at world i).r (image_at world i).r.min corner)) (parent_of world i)) i (Some (shifted_image (image_at world i) min))
