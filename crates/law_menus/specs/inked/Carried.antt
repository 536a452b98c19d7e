-- What the texts that a desk writes for an event do to the draw device (rio(4), draw(3)).
use Rattle.std.specs.Prelude.{◌≡◌, ◌∷◌, List, [], false, All}
use Rattle.r9_geom.specs.declared.Rect.{Rect}
use Rattle.r9_event.specs.declared.event.rio.Order.{Order}
use Rattle.r9_event.specs.declared.event.rio.Order.TheVariants.{Make}
use Rattle.model_files.specs.declared.mouse.Mouse.{Mouse}
use Rattle.model_rio.specs.rio.Table.{name_by}
use Rattle.model_draw.specs.draw.Orders.{carried_out}
use Rattle.law_shown.specs.shown.Showing.{IsOrderly}
use Rattle.law_shown.specs.fitting.Fitting.{Shows}
use Rattle.model_client.specs.declared.desk.Act.TheVariants.{New}
use Rattle.model_client.specs.desk.Table.{Desk}
use Rattle.model_client.specs.desk.Asked.{asked}
use Rattle.model_client.specs.desk.Pilot.{after, written}
use Rattle.model_world.specs.World.{World}
use Rattle.law_text.specs.client.Saying.{AreAnswered}
use Rattle.law_desk.specs.piloted.Following.{IsDeskIn}
use Rattle.law_menus.specs.pens.Pens.{IsOnWindow}
use Rattle.law_desk.specs.steered.Steered.{messages, replies_to}
use Rattle.law_menus.specs.inked.Inked.{IsNamedOrder}

-- What a desk writes for an event is answered, the windows are then those of its table, and the draw device had orders on windows, each
-- with a name of its window, after which it shows them. A new window was one order.
pub record IsCarried (d : Desk) (e : Mouse) (world : World) : Type 0 where
  pub left : World
  pub answered : AreAnswered world (messages (written d e)) left (replies_to (written d e))
  pub at : IsDeskIn (after d e) left
  pub orders : List Order
  pub device : left.desktop.device ≡ carried_out world.desktop.device orders
  pub on : All IsOnWindow orders
  pub named : All IsNamedOrder orders
  pub shows : IsOrderly world.desktop.device → Shows world.desktop.device world.desktop.table → Shows left.desktop.device left.desktop.table
  pub made : (r : Rect) → (asked d e).act ≡ New r → orders ≡ Make d.next 0 r (name_by (d.next ∷ []) 1) false 1 ∷ []
