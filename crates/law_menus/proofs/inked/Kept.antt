-- What a client draws bands with stays through the texts that a desk writes for an event.
use Rattle.std.proofs.Common.{◌≡◌, ◌∙◌, ◌+◌, ℕ, List, Option, refl, sym, ap, subst, arith}
use Rattle.std.specs.Prelude.{All, unwrap_or}
use Rattle.std.proofs.lemmas.List.Elements.{All-weaker}
use Rattle.r9_event.specs.declared.event.rio.Order.{Order}
use Rattle.model_files.specs.declared.mouse.Mouse.{Mouse}
use Rattle.model_forest.specs.World.{Image, no_image}
use Rattle.model_draw.specs.draw.World.{Opening, World as Device}
use Rattle.model_draw.specs.draw.Orders.{carried_out}
use Rattle.model_rio.specs.rio.Table.{Table}
use Rattle.law_shown.specs.fitting.Fitting.{Shows}
use Rattle.law_others.specs.managed.Ending.{LeavesManager}
use Rattle.law_others.proofs.managed.Carrying.{carried_steady}
use Rattle.model_client.specs.desk.Table.{Desk}
use Rattle.model_world.specs.World.{World}
use Rattle.law_text.specs.page.Page.{IsColour}
use Rattle.law_menus.specs.pens.Pens.{IsOnWindow}
use Rattle.law_menus.proofs.pens.Orders.{leaves_manager, orders_leave}
use Rattle.law_menus.specs.inked.Inked.{IsInked, IsNamedOrder, IsPen, connection}
use Rattle.law_menus.specs.inked.Carried.{IsCarried}
use Rattle.law_menus.proofs.inked.Names.{carried_called}

-- an image as it was is one of the same colour
same_colour : (old new : Device) (i raw : ℕ) → new.images i ≡ old.images i → IsColour (unwrap_or (old.images i) no_image) raw → IsColour (unwrap_or (new.images i) no_image) raw
same_colour old new i raw same colour = subst (λ (slot : Option Image). IsColour (unwrap_or slot no_image) raw) (sym same) colour

-- Orders on windows leave it, where the device shows a table then.
pub inked_ordered : (device : Device) (table next : Table) (orders : List Order) → IsInked device table → All IsOnWindow orders → All IsNamedOrder orders → Shows (carried_out device orders) next
    → IsInked (carried_out device orders) next
inked_ordered device table next orders inked on named shows =
    let after : Device = carried_out device orders in
    let left = orders_leave (IsPen inked.number) device orders inked.apart inked.numbers inked.steady on in
    let called = carried_called device.opening device orders on named (record { names = inked.ties; opened = refl }) in
    record {
      steady = carried_steady orders device (All-weaker IsOnWindow LeavesManager (λ order is. leaves_manager (IsPen inked.number) order is) orders on) inked.steady;
      shows = shows;
      numbers = left.numbers;
      ties = called.names;
      channels = ap (λ (o : Opening). o.chan) called.opened ∙ inked.channels;
      number = inked.number;
      apart = left.apart;
      ids = λ id some few. left.stays.book.ids connection id (refl, some) ∙ inked.ids id some few;
      free = left.stays.book.ids connection 7 (refl, omega arith) ∙ inked.free;
      white = same_colour device after (inked.number 1) _ (left.stays.images.same (inked.number 1) (1, omega arith, omega arith, refl)) inked.white;
      inks = λ item few. same_colour device after (inked.number (2 + item)) _
          (left.stays.images.same (inked.number (2 + item)) (2 + item, omega arith, omega (arith, few), refl)) (inked.inks item few);
      client = inked.client;
      connected = left.stays.clients connection refl ∙ inked.connected;
      over = inked.over;
    }

-- What a desk writes for an event leaves it.
pub inked_after : (d : Desk) (e : Mouse) (world : World) (carried : IsCarried d e world) → IsInked world.desktop.device world.desktop.table → IsInked carried.left.desktop.device carried.left.desktop.table
inked_after d e world carried inked =
    subst (λ (device : Device). IsInked device carried.left.desktop.table) (sym carried.device)
    (inked_ordered world.desktop.device world.desktop.table carried.left.desktop.table carried.orders inked carried.on carried.named
    (subst (λ (device : Device). Shows device carried.left.desktop.table) carried.device (carried.shows inked.steady.orderly inked.shows)))
