-- In all that a history leads to, images are stacked.
use Rattle.std.proofs.Common.{◌≡◌, ◌==◌, ℕ, true, false, List, [], ◌∷◌, Some, None, refl, arith}
use Rattle.std.proofs.lemmas.List.Elements.{All-head, All-nil, All-tail}
use Rattle.r9_geom.specs.declared.Rect.{Rect}
use Rattle.r9_event.specs.event.Orders.{EndNoConnection, EndsNoConnection}
use Rattle.r9_event.specs.declared.event.event.Event.{Event}
use Rattle.r9_event.specs.declared.event.event.Opening.{Opening}
use Rattle.r9_event.specs.declared.event.rio.Order.{Order}
use Rattle.model_forest.specs.World.{World as Images}
use Rattle.model_forest.specs.Steps.{after_image}
use Rattle.model_draw.specs.draw.World.{World, started}
use Rattle.model_draw.specs.draw.Memory.{reached}
use Rattle.model_draw.specs.draw.Orders.{carried_out, dot, everywhere, ordered, with_root_rio}
use Rattle.model_rio.proofs.rio.Orders.{acts_keep_connections}
use Rattle.model_history.specs.event.Legal.{IsLegal}
use Rattle.model_world.specs.Desktop.{Desktop, stepped}
use Rattle.model_world.specs.Replay.{replay}
use Rattle.model_world.specs.World.{display_of, opened}
use Rattle.law_shown.specs.fitting.Fitting.{AllFit}
use Rattle.law_others.specs.orders.Leading.{Leads, acts, there, uses}
use Rattle.law_others.proofs.orders.Histories.{history_leads}
use Rattle.law_devices.proofs.sides.Keeping.{IsKept, order_kept, orders_kept, used_kept}
use Rattle.law_devices.proofs.sides.Display.{history_kept}
use Rattle.law_screen.proofs.Growing.{NobodyOn, ground_of, put_each}
use Rattle.law_screen.proofs.Coming.{image_comes}
use Rattle.law_screen.proofs.Stacked.{AreStacked, set_stacked}
use Rattle.law_screen.proofs.Placed.{IsPlaced, image_placed}
use Rattle.law_screen.proofs.Messages.{HasStacks, reached_keeps, used_stacked}
use Rattle.law_screen.proofs.Orders.{order_stacked}

has_stacks : (w : World) → IsKept w → AreStacked w.images → HasStacks w
has_stacks w kept stacked = record { steady = kept.steady; stacked = stacked }

orders_stacked : (orders : List Order) (w : World) → AllFit w orders → EndNoConnection orders → IsKept w → AreStacked w.images → (let next : World = carried_out w orders in AreStacked next.images)
orders_stacked [] w all none kept stacked = stacked
orders_stacked (o ∷ orders) w all none kept stacked =
    orders_stacked orders (ordered w o) all.1 (All-tail EndsNoConnection o orders none) (order_kept w o kept all.0 (All-head EndsNoConnection o orders none)) (order_stacked w (has_stacks w kept stacked) o all.0)

-- ---- what a history leads to

record HoldsStacks (desktop : Desktop) : Type 0 where
  kept : IsKept desktop.device
  stacked : AreStacked desktop.device.images

led_stacks : (start desktop : Desktop) → HoldsStacks start → Leads start desktop → HoldsStacks desktop
unfolding stepped
led_stacks start desktop is there = is
led_stacks start desktop is (acts before a step leads spelled e fit) =
    let was = led_stacks start before is leads in
    let none = acts_keep_connections before.table a step e in
    record { kept = orders_kept step.orders before.device fit none was.kept; stacked = orders_stacked step.orders before.device fit none was.kept was.stacked }
led_stacks start desktop is (uses before next leads table used) =
    let was = led_stacks start before is leads in
    record { kept = used_kept before.device next.device used was.kept; stacked = used_stacked before.device next.device used (has_stacks before.device was.kept was.stacked) }

new_stacked : (w : Images) (n : ℕ) (r : Rect) (chan raw : ℕ) → w n ≡ None → NobodyOn w n → AreStacked w → AreStacked (after_image w n r chan raw)
new_stacked w n r chan raw free nobody is = record {
  placed = image_placed w n r chan raw free is.placed;
  grown = image_comes w n free nobody is.placed is.grown r chan raw;
}

first_stacked : (opening : Opening) → AreStacked (opened opening).desktop.device.images
unfolding started with_root_rio after_image
first_stacked opening =
    let nothing : Images = λ i. None in
    let display : Images = (started (display_of opening)).images in
    let none : AreStacked nothing = record { placed = λ i. All-nil (IsPlaced nothing i); grown = record { above = λ i p stands. absurd cc; listed = λ i p stands. absurd cc; once = λ p i. omega arith } } in
    let one : AreStacked display = new_stacked nothing 0 _ _ _ refl (λ i stands. absurd cc) none in
    let bare : NobodyOn display 1 = λ i. put_each nothing 0 _ (λ j x. ground_of x ≡ Some 1 → ⊥) (λ stands. cc) (λ j other stands. cc) i in
    set_stacked _ _ true everywhere (new_stacked display 1 dot _ _ refl bare one)

history_stacks : (opening : Opening) (events : List Event) → IsLegal events → HoldsStacks (replay opening events).desktop
history_stacks opening events legal =
    led_stacks (opened opening).desktop (replay opening events).desktop (record { kept = history_kept opening [] tt; stacked = first_stacked opening }) (history_leads opening events legal)

pub history_stacked : (opening : Opening) (events : List Event) → IsLegal events → HasStacks (replay opening events).desktop.device
history_stacked opening events legal = (let is = history_stacks opening events legal in has_stacks (replay opening events).desktop.device is.kept is.stacked)

pub message_stacked : (opening : Opening) (events : List Event) (connection done : ℕ) (bytes rest : List ℕ) (device : World) → IsLegal events → (connection == 0) ≡ false
    → reached done connection (replay opening events).desktop.device bytes ≡ Some (device, rest) → HasStacks device
message_stacked opening events connection done bytes rest device legal other e = reached_keeps done connection (replay opening events).desktop.device bytes device rest other (history_stacked opening events legal) e
