-- The window manager's orders leave a client that points what it draws bands with.
use Rattle.std.proofs.Common.{◌≡◌, ◌<◌, ℕ, ◌==◌, ◌&&◌, false, List, [], ◌∷◌, All, refl, arith, ne_eqb}
use Rattle.std.proofs.lemmas.List.Elements.{All-head, All-tail}
use Rattle.r9_event.specs.declared.event.rio.Order.{Order}
use Rattle.r9_event.specs.declared.event.rio.Order.TheVariants.{Make, Place, Replace, Raise, Lower, Drop, Host, Leave, Size}
use Rattle.model_draw_parts.specs.images.Book.{owner}
use Rattle.model_draw.specs.draw.World.{World}
use Rattle.model_draw.specs.draw.Orders.{carried_out, manager, ordered}
use Rattle.law_shown.specs.shown.Showing.{IsOrderly}
use Rattle.law_likeness.specs.likeness.Likeness.{AreNumbered}
use Rattle.model_world.specs.Whole.{client}
use Rattle.law_others.specs.apart.Apart.{IsApart, Stays}
use Rattle.law_others.proofs.apart.Devices.{stays_apart, stays_itself, stays_then}
use Rattle.law_likeness.specs.whole.Steady.{IsSteady}
use Rattle.law_others.specs.managed.Ending.{LeavesManager}
use Rattle.law_others.proofs.managed.Carrying.{ordered_steady}
use Rattle.law_others.specs.others.Others.{IsManaged, IsOtherOrder, IsOtherWindow}
use Rattle.law_others.proofs.others.Orders.{ordered_stays}
use Rattle.law_menus.specs.pens.Pens.{IsOnWindow, pens}

module _ (image : ℕ → Type 0) where
  -- the manager has none of it
  managed : IsManaged (pens image)
  managed = record { screens = λ id is. is; client = λ is. absurd (let same : 0 ≡ client 1 1 = is in omega (arith, same)) }

  other_id : (window k x : ℕ) → k ≡ client 1 1 → 0 < x → ((manager == owner k x) && (window == x)) ≡ false
  other_id window k x is some =
      let counted : (x == 0) ≡ false = ne_eqb x 0 (λ e. omega (arith, e, some)) in
      rw (counted, is) refl

  beside : (window : ℕ) → (window == 0) ≡ false → IsOtherWindow (pens image) window
  beside window counted = record {
    counted = counted;
    id = record { ids = λ k x is. other_id window k x is.0 is.1; display = counted };
    none = λ is. absurd (let same : 0 ≡ client 1 1 = is.0 in omega (arith, same));
  }

  other_order : (order : Order) → IsOnWindow order → IsOtherOrder (pens image) order
  other_order (Make window host r name hide depth) is = beside window is
  other_order (Place window at) is = beside window is
  other_order (Replace window host r name keep hidden) is = beside window is
  other_order (Raise window) is = beside window is
  other_order (Lower window) is = beside window is
  other_order (Drop window) is = beside window is
  other_order (Host window fill) is = beside window is
  other_order (Leave k) is = absurd is
  other_order (Size width height) is = absurd is

  -- what an order on a window leaves
  pub record AreLeft (old new : World) : Type 0 where
    pub stays : Stays (pens image) old new
    pub apart : IsApart (pens image) new
    pub numbers : AreNumbered new.book

  pub order_leaves : (device : World) (order : Order) → IsApart (pens image) device → AreNumbered device.book → IsOrderly device → IsOnWindow order → AreLeft device (ordered device order)
  order_leaves device order apart numbers orderly on =
      let stays = ordered_stays (pens image) managed device order apart numbers orderly (λ name is. absurd is) (other_order order on) in
      record { stays = stays; apart = stays_apart (pens image) device (ordered device order) apart stays; numbers = stays.numbers numbers }

  pub leaves_manager : (order : Order) → IsOnWindow order → LeavesManager order
  leaves_manager (Make window host r name hide depth) is = tt
  leaves_manager (Place window at) is = tt
  leaves_manager (Replace window host r name keep hidden) is = tt
  leaves_manager (Raise window) is = tt
  leaves_manager (Lower window) is = tt
  leaves_manager (Drop window) is = tt
  leaves_manager (Host window fill) is = tt
  leaves_manager (Leave k) is = absurd is
  leaves_manager (Size width height) is = absurd is

  -- and what many of them leave
  pub orders_leave : (device : World) (orders : List Order) → IsApart (pens image) device → AreNumbered device.book → IsSteady device → All IsOnWindow orders → AreLeft device (carried_out device orders)
  orders_leave device [] apart numbers steady on = record { stays = stays_itself (pens image) device; apart = apart; numbers = numbers }
  orders_leave device (order ∷ orders) apart numbers steady on =
      let here = All-head IsOnWindow order orders on in
      let one = order_leaves device order apart numbers steady.orderly here in
      let rest = orders_leave (ordered device order) orders one.apart one.numbers (ordered_steady device order (leaves_manager order here) steady) (All-tail IsOnWindow order orders on) in
      record { stays = stays_then (pens image) device (ordered device order) (carried_out device (order ∷ orders)) one.stays rest.stays; apart = rest.apart; numbers = rest.numbers }
