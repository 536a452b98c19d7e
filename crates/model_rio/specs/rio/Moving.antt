-- Windows that move, get another size or go, and what becomes of the windows in them.
use Rattle.std.specs.Prelude.{ℕ, zero, suc, ◌==◌, Bool, true, not, List, [], ◌∷◌, ◌++◌, reverse, filter, fold, Ok, Err, if◌then◌else◌}
use Rattle.r9_geom.specs.declared.Rect.{Rect}
use Rattle.r9_geom.specs.declared.Point.{Point}
use Rattle.r9_geom.specs.Geometry.{shifted}
use Rattle.r9_event.specs.declared.event.rio.Note.TheVariants as note
use Rattle.r9_event.specs.declared.event.rio.Order.TheVariants as order
use Rattle.r9_event.specs.window.Ways.{way}
use Rattle.model_text.specs.text.Outcome.{Outcome, ◌>>=◌}
use Rattle.model_files.specs.wctl.Rectangle.{is_near}
use Rattle.model_rio.specs.rio.Table.{Window, Table, is_host, windows_in, made_in, path_of, name_by}
use Rattle.model_rio.specs.rio.Step.{Step, ordered, noted, with_windows, in_place, without, retired, next_generation}

-- a window with a new rectangle and the next name
abbrev pub renewed : Rect → Window → Window
renewed r w = record w { r = r; generation = next_generation w.generation }

-- the name of the next image of a window
abbrev pub next_name : Table → Window → List ℕ
next_name table w = name_by (path_of table w.host ++ w.number ∷ []) (next_generation w.generation)

-- The window gets a new image, which takes the old one's place and contents, or is empty, and a note.
unfoldable pub replaced : Bool → Window → Rect → Step → Step
replaced keep w r step =
    let name = next_name step.table w in
    noted w.serial (if keep then note.Moved name r else note.Resized name r)
    (ordered (order.Replace w.serial w.host r name keep w.hidden) (with_windows (in_place (renewed r w)) step))

-- one window after the other, until one is refused
abbrev pub each : (Window → Step → Outcome Step) → List Window → Step → Outcome Step
each change [] step = Ok step
each change (w ∷ ws) step = change w step >>= each change ws

-- a window that follows its host goes by so much, but not out of the coordinates of windows
abbrev pub carried : (Window → Rect → Step → Outcome Step) → Point → Window → Step → Outcome Step
carried move by w step = if is_near (shifted w.r by) then move w (shifted w.r by) step else Err 47

-- The rio in a window that was replaced stands on the window's new image, which is filled where it is empty; then each
-- of its windows is moved, from the bottom up.
abbrev pub followed : (Window → Rect → Step → Outcome Step) → ℕ → Bool → Point → Step → Outcome Step
followed move host fill by step = follows (is_host step.table host)
  where
    follows : Bool → Outcome Step
    follows true = each (carried move by) (reverse (windows_in step.table host)) (ordered (order.Host host fill) step)
    follows _ = Ok step

-- A window gets a rectangle and keeps its contents or not, and the windows of the rio in it follow.
unfoldable pub moved : (levels : ℕ) → (keep : Bool) → Window → Rect → Step → Outcome Step
moved zero keep w r step = Ok step
moved (suc levels) keep w r step =
    followed (moved levels true) w.serial (not keep) (way w.r r) (replaced keep w r step)

-- a window, and the rio in it, are in the table no longer
abbrev pub forgotten : ℕ → Step → Step
forgotten serial step = record step {
  table = record step.table {
    rios = filter (λ rio. not (rio.host == serial)) step.table.rios;
    windows = without serial step.table.windows;
  };
}

-- a window is gone, when those in it have gone
unfoldable pub dropped : Window → Step → Step
dropped w step =
    noted w.serial note.Deleted (ordered (order.Drop w.serial) (forgotten w.serial (retired w.host w.serial step)))

-- A window is deleted; the windows of the rio in it are deleted first, in ascending serial.
unfoldable pub deleted : (levels : ℕ) → Window → Step → Step
deleted zero w step = step
deleted (suc levels) w step = dropped w (fold (λ step v. deleted levels v step) step (made_in step.table w.serial))
