-- A window that comes on an image, with another list of the windows there.
use Rattle.std.specs.Prelude.{◌≡◌, ◌≢◌, ◌+◌, ◌<◌, ℕ, Bool, true, false, List, [], Some}
use Rattle.std.specs.List.{list_any}
use Rattle.r9_geom.specs.declared.Point.{Point}
use Rattle.r9_geom.specs.declared.Rect.{Rect}
use Rattle.model_forest.specs.declared.Window.{Window}
use Rattle.model_forest.specs.Stack.{seen, with_windows, without}
use Rattle.model_forest.specs.View.{is_bare}
use Rattle.model_forest.specs.World.{Image, World, image_at, with_image}
use Rattle.model_kept.specs.Cells.{above, cell_count, cell_part, hides}
use Rattle.r9_cells.specs.Fitting.{hides_cell, hides_listed, meets, standing_cell, IsWindowAt}
use Rattle.model_kept.specs.Keeping.{place_among}
use Rattle.model_kept.specs.Restack.{with_list}

-- a window on another image, of its channels and one level above it, without its pixels
abbrev pub bare_window : World → (parent fill : ℕ) → Rect → Image
bare_window world parent fill r = record {
  r = r;
  clipr = r;
  repl = false;
  chan = (image_at world parent).chan;
  standing = Some (record { parent = parent; fill = fill });
  depth = (image_at world parent).depth + 1;
  canvas = λ _. 0;
  windows = [];
}

-- and with them
abbrev pub coming_window : World → (parent fill : ℕ) → Rect → (Point → ℕ) → Image
coming_window world parent fill r pixels = record (bare_window world parent fill r) { canvas = seen r [] pixels }

-- the world when it came, without its pixels in no list yet and in a list, and with them
abbrev pub with_coming : World → (i parent fill : ℕ) → Rect → World
with_coming world i parent fill r = with_image world i (Some (bare_window world parent fill r))

abbrev pub listed : World → (i parent fill : ℕ) → Rect → List Window → World
listed world i parent fill r ws = with_list (with_coming world i parent fill r) parent ws

abbrev pub after_coming : World → (i parent fill : ℕ) → Rect → (Point → ℕ) → List Window → World
after_coming world i parent fill r pixels ws =
    with_windows (with_image world i (Some (coming_window world parent fill r pixels))) parent ws

-- the window stands in another list of image p, where the others stand as they did, and what stands above them still does;
-- nothing becomes bare
pub record IsComing (world : World) (p : ℕ) (w : Window) (ws : List Window) : Type 0 where
  pub others : without w.image ws ≡ without w.image (image_at world p).windows
  pub places : (n : ℕ) → n ≢ w.image → place_among ws n ≡ place_among (image_at world p).windows n
  pub covered : (n : ℕ) (test : Window → Bool) → n ≢ w.image → list_any test (above n (image_at world p).windows) ≡ true → list_any test (above n ws) ≡ true
  pub bare : (z : Point) → is_bare ws z ≡ true → is_bare (image_at world p).windows z ≡ true

-- in a later list of image q, which may be p too, what is hidden was hidden before, or is by the list, but for cells that meet one of
-- these areas
abbrev pub IsLeft : World → ℕ → List Window → ℕ → List Window → List Rect → Type 0
IsLeft world p list q later areas =
    (at : ℕ) (w : Window) (k : ℕ) → IsWindowAt later at w → k < cell_count (image_at world w.image).r → hides_cell (image_at world q).r later w.image (image_at world w.image).r k ≡ true
    → hides world w.image (cell_part (image_at world w.image).r k) ≡ false → hides_listed world p list w.image k ≡ false → meets areas (standing_cell later w.image (image_at world w.image).r k) ≡ true

-- and of the window that comes, image i of that rectangle
abbrev pub IsLeftOf : World → ℕ → List Window → ℕ → List Window → List Rect → ℕ → Rect → Type 0
IsLeftOf world p list q later areas i r =
    (at : ℕ) (w : Window) (k : ℕ) → IsWindowAt later at w → w.image ≡ i → k < cell_count r → hides_cell (image_at world q).r later i r k ≡ true
    → hides_cell (image_at world p).r list i r k ≡ false → meets areas (standing_cell later i r k) ≡ true
