-- A note that was told is what the definition makes of it.
use Rattle.std.proofs.Common.{◌≡◌, ℕ, List, Option, Some, None, refl, ap, ◌∙◌}
use Rattle.std.specs.Prelude.{option_map}
use Rattle.std.specs.Option.{option_map_or}
use Rattle.r9_event.specs.declared.event.rio.Note.{Note}
use Rattle.r9_event.specs.declared.event.rio.Order.{Order}
use Rattle.model_draw.specs.draw.World as draw
use Rattle.model_draw.specs.draw.Orders.{carried_out}
use Rattle.model_rio.specs.window.Pane.{Pane}
use Rattle.model_alone.specs.alone.Lone.{noted_alone, orders_of, window_noted}
use Rattle.r9_draw.specs.draw.World.{world_of}
use Rattle.r9_isol.specs.declared.isol.desktop.Desktop.{Desktop}
use Rattle.r9_isol.specs.declared.isol.desktop.Window.{Window}
use Rattle.r9_isol.specs.isol.World.{parts_of}

abbrev seen : Option Window → Option (ℕ × Pane)
seen w = option_map (λ w. (w.serial, w.pane)) w

serial_seen : (o : Option Window) → option_map_or (λ (w : Window). w.serial) o 0 ≡ option_map_or (λ (w : ℕ × Pane). w.0) (seen o) 0
serial_seen (Some w) = refl
serial_seen None = refl

pub told : (d : Desktop) (device : draw.World) (was window : Option Window) (serial : ℕ) (orders : List Order) (n : Note) → serial ≡ option_map_or (λ (w : Window). w.serial) d.window 0
    → orders ≡ orders_of serial n → device ≡ carried_out (world_of d.device) orders → was ≡ d.window → seen window ≡ window_noted (seen was) n
    → record (parts_of d) { device = device; window = seen window } ≡ noted_alone (parts_of d) n
told d device was window serial orders n first ordered done kept noted =
    let to : device ≡ carried_out (world_of d.device) (orders_of (option_map_or (λ (w : ℕ × Pane). w.0) (seen d.window) 0) n) =
    done ∙ ap (carried_out (world_of d.device)) (ordered ∙ ap (λ k. orders_of k n) (first ∙ serial_seen d.window)) in
    let now : seen window ≡ window_noted (seen d.window) n = noted ∙ ap (λ (o : Option Window). window_noted (seen o) n) kept in
    λ i. record (parts_of d) { device = to i; window = now i }
