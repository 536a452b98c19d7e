-- Windows of a list one after the other.
use Rattle.std.proofs.Common.{◌≡◌, ◌∙◌, ℕ, ◌+◌, ◌<◌, ◌≤◌, Bool, false, List, ◌∷◌, Option, length, get_or, drop, drop-cons, add-one, sym, ap, subst, arith}
use Rattle.std.specs.Prelude.{◌||◌}
use Rattle.std.specs.List.{list_any, sum_by}
use Rattle.std.proofs.lemmas.List.{at_drop_all}
use Rattle.std.proofs.lemmas.List.Sums.{sum_by-cons}
use Rattle.r9_geom.specs.declared.Rect.{Rect}
use Rattle.r9_geom.specs.Geometry.{IsOrdered, IsRectNear}
use Rattle.model_forest.specs.declared.Window.{Window}
use Rattle.model_forest.specs.World.{no_rect}
use Rattle.model_kept.specs.Cells.{cell_count}
use Rattle.r9_cells.specs.Rows.{row_at}
use Rattle.r9_cells.specs.Fitting.{IsCelled}

-- what is read past the end of a list of windows
abbrev pub no_window : Window
no_window = record { image = 0; place = no_rect }

next : (ws : List Window) (k : ℕ) → k < length ws → drop k ws ≡ get_or ws k no_window ∷ drop (k + 1) ws
next ws k below = drop-cons ws k no_window below ∙ ap (λ n. get_or ws k no_window ∷ drop n ws) (sym (add-one k))

pub sum_next : (f : Window → ℕ) (ws : List Window) (k : ℕ) → k < length ws → sum_by f (drop k ws) ≡ f (get_or ws k no_window) + sum_by f (drop (k + 1) ws)
sum_next f ws k below = ap (sum_by f) (next ws k below) ∙ sum_by-cons f (get_or ws k no_window) (drop (k + 1) ws)

pub any_next : (f : Window → Bool) (ws : List Window) (k : ℕ) → k < length ws → list_any f (drop k ws) ≡ (f (get_or ws k no_window) || list_any f (drop (k + 1) ws))
any_next f ws k below = ap (list_any f) (next ws k below)

pub any_done : (f : Window → Bool) (ws : List Window) (k : ℕ) → length ws ≤ k → list_any f (drop k ws) ≡ false
any_done f ws k past = at_drop_all (list_any f) ws k past

-- the row of an image has its cells still
pub celled_still : (rows new : List (List (Option ℕ))) (i : ℕ) (r s : Rect) → IsCelled rows i r → length new ≡ length rows → ((j : ℕ) → length (row_at new j) ≡ length (row_at rows j)) → s ≡ r → IsCelled new i s
celled_still rows new i r s is same long s_is = record {
  near = subst IsRectNear (sym s_is) is.near;
  ordered = subst IsOrdered (sym s_is) is.ordered;
  image = omega (arith, same, is.image);
  cells = long i ∙ is.cells ∙ ap cell_count (sym s_is);
}
