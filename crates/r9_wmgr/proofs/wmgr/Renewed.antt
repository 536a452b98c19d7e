-- A window in which no rio runs gets a rectangle.
use Rattle.std.proofs.Common.{◌≡◌, ◌∙◌, ℕ, Bool, false, List, [], ◌∷◌, ◌++◌, Ok, refl}
use Rattle.std.specs.Prelude.{if◌then◌else◌}
use Rattle.r9_geom.specs.declared.Rect.{Rect}
use Rattle.r9_event.specs.declared.event.rio.Note.{Note}
use Rattle.r9_event.specs.declared.event.rio.Note.TheVariants as note
use Rattle.r9_event.specs.declared.event.rio.Order.{Order}
use Rattle.r9_event.specs.declared.event.rio.Order.TheVariants as order
use Rattle.r9_event.specs.declared.window.Window.{Window}
use Rattle.model_rio.specs.rio.Table.{Table, is_host, path_of, name_by}
use Rattle.model_rio.specs.rio.Step.{begun, in_place}
use Rattle.model_rio.specs.rio.Moving.{renewed, moved, replaced}
use Rattle.r9_wmgr.proofs.wmgr.Levels.{moved_alone}

-- the name of the image that a window has next
abbrev pub named : Table → Window → ℕ → List ℕ
named table w generation = name_by (path_of table w.host ++ w.number ∷ []) generation

-- the table, the order and the note make its step
pub renewed_alone : (keep : Bool) (w next : Window) (r : Rect) (old new : Table) (orders : List Order) (notes : List (ℕ × Note)) → is_host old w.serial ≡ false → next ≡ renewed r w
    → orders ≡ order.Replace w.serial w.host next.r (named old w next.generation) keep w.hidden ∷ []
    → notes ≡ (w.serial, (if keep then note.Moved (named old w next.generation) next.r else note.Resized (named old w next.generation) next.r)) ∷ []
    → new ≡ record old { windows = in_place next old.windows } → moved 9 keep w r (begun old) ≡ Ok (record { table = new; orders = orders; notes = notes })
unfolding replaced
renewed_alone keep w next r old new orders notes alone e are told is =
    moved_alone keep w r (begun old) alone ∙ (rw (is, are, told, e) refl)
