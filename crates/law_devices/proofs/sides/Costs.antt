-- What gives the display another size asks for as much as it has pixels.
use Rattle.std.proofs.Common.{◌≡◌, ◌≤◌, ◌⊎◌, ◌+◌, ◌*◌, ℕ, Bool, true, false, List, [], ◌∷◌, Option, Some, None, Ok, inl, inr, refl, sym, ap, ap₂, subst, ◌∙◌, arith}
use Rattle.std.specs.Prelude.{◌&&◌, if◌then◌else◌}
use Rattle.std.specs.Option.{option_map_or}
use Rattle.std.proofs.lemmas.List.Elements.{All-head, All-tail}
use Rattle.r9_geom.specs.declared.Rect.{Rect}
use Rattle.r9_geom.specs.Geometry.{area_of, height, width}
use Rattle.r9_event.specs.event.Orders.{EndNoConnection, EndsNoConnection}
use Rattle.r9_event.specs.declared.event.event.Event.{Event}
use Rattle.r9_event.specs.declared.event.event.Event.TheVariants.{Begin, Msg, Take, End, Stop}
use Rattle.r9_event.specs.declared.event.event.Opening.{Opening}
use Rattle.r9_event.specs.declared.event.rio.Order.{Order}
use Rattle.r9_event.specs.declared.event.rio.Order.TheVariants.{Make, Place, Replace, Raise, Lower, Drop, Host, Leave, Size}
use Rattle.model_text.specs.text.Map.{lookup}
use Rattle.model_history.specs.event.Legal.{IsLegal}
use Rattle.model_pixel.specs.Channels.{colour_of, pack}
use Rattle.model_exchanged.specs.resize.Resize.{after_resize}
use Rattle.model_exchanged.proofs.resize.Shown.{resize-at}
use Rattle.model_rio.specs.rio.Act.{Act}
use Rattle.model_rio.specs.rio.Rio.{rio}
use Rattle.model_rio.specs.rio.Step.{Step}
use Rattle.model_rio.proofs.rio.Orders.{acts_keep_connections}
use Rattle.model_draw_parts.specs.declared.images.ImageId.{ImageId}
use Rattle.model_draw.specs.draw.World.{World as Device, at_number, with_images}
use Rattle.model_draw.specs.draw.Orders.{carried_out, fits, image_shown, is_side, ordered, resize_display}
use Rattle.model_draw.specs.cost.Cost.{order_cost, orders_cost}
use Rattle.law_likeness.specs.likeness.Likeness.{SameShape}
use Rattle.law_others.specs.sized.Sizes.{sides_of}
use Rattle.law_others.proofs.sized.Acts.{box_height, box_width}
use Rattle.law_shown.proofs.shown.Tests.{split}
use Rattle.law_shown.proofs.lasting.Messages.{Still}
use Rattle.law_others.specs.apart.Apart.{Stays}
use Rattle.law_others.specs.others.Others.{IsNoSize, nothing}
use Rattle.law_others.proofs.others.Display.{IsCounted, has_counted, new_counted, others_stay}
use Rattle.law_shown.specs.fitting.Fitting.{AllFit, IsSpelled}
use Rattle.model_world.specs.Session.{Session}
use Rattle.model_world.specs.Desktop.{Desktop, stepped}
use Rattle.model_world.specs.World.{World, opened}
use Rattle.model_world.specs.Replay.{ended, replay, served, step}
use Rattle.law_others.specs.orders.Leading.{IsDrawn, Uses}
use Rattle.law_others.proofs.orders.Leading.{Keeps, led_beside, led_by, led_itself}
use Rattle.law_others.proofs.orders.Histories.{IsServed, ended_served, heard_served, history_served}
use Rattle.law_devices.specs.sides.Display.{HasPaid}
use Rattle.law_devices.proofs.sides.Keeping.{IsKept, order_kept, orders_kept, used_kept, used_shaped}
use Rattle.law_devices.proofs.sides.Display.{history_kept}

same_shape : (old new : Device) (cost : ℕ) → SameShape (at_number new 0) (at_number old 0) → HasPaid old new cost
same_shape old new cost same = inl (ap sides_of same.r)

-- one thing after another, the costs of which are added
then_paid : (first second third : Device) (a b cost : ℕ) → a + b ≤ cost → HasPaid first second a → HasPaid second third b → HasPaid first third cost
then_paid first second third a b cost more (inl same) (inl again) = inl (again ∙ same)
then_paid first second third a b cost more (inr paid) (inl again) =
    let area : area_of (at_number third 0).r ≡ area_of (at_number second 0).r = ap (λ (sides : ℕ × ℕ). sides.0 * sides.1) again in
    inr (omega (arith, more, paid, area))
then_paid first second third a b cost more before (inr paid) = inr (omega (arith, more, paid))

-- ---- orders

module _ (w : Device) (kept : IsKept w) where
  shown : image_shown w 0 ≡ 0
  shown = ap (λ o. option_map_or (λ (e : ImageId). e.image) o 0) kept.furnished.named

  size_paid : (columns rows : ℕ) → fits w (Size columns rows) ≡ true → HasPaid w (ordered w (Size columns rows)) (order_cost w (Size columns rows))
  unfolding resize_display order_cost
  size_paid columns rows fit =
      let raw = pack (at_number w 0).chan (colour_of 0x777777ff) in
      let is : ordered w (Size columns rows) ≡ with_images w (after_resize w.images 0 columns rows raw) =
      rw fit (ap (λ (i : ℕ). with_images w (after_resize w.images i columns rows (pack (at_number w i).chan (colour_of 0x777777ff)))) shown) in
      let area : area_of (at_number (with_images w (after_resize w.images 0 columns rows raw)) 0).r ≡ columns * rows =
      subst (λ image. area_of image.r ≡ columns * rows) (sym (resize-at w.images 0 columns rows raw)) (ap₂ (λ (a b : ℕ). a * b) (box_width columns rows) (box_height columns rows)) in
      let all : area_of (at_number (ordered w (Size columns rows)) 0).r ≡ columns * rows = ap (λ (next : Device). area_of (at_number next 0).r) is ∙ area in
      inr (omega (arith, all))

  window_paid : (o : Order) → IsNoSize o → IsCounted w kept.furnished o → HasPaid w (ordered w o) (order_cost w o)
  window_paid o fixed counted =
      let stays : Stays nothing w (ordered w o) = others_stay w kept.furnished kept.steady.orderly o fixed counted in
      same_shape w (ordered w o) (order_cost w o) stays.shape

  order_paid : (o : Order) → fits w o ≡ true → EndsNoConnection o → HasPaid w (ordered w o) (order_cost w o)
  order_paid (Make window host r name hide depth) fit none = window_paid (Make window host r name hide depth) tt (new_counted w window kept.furnished.named (split _ _ (split _ _ fit).0).1)
  order_paid (Place window at) fit none = window_paid (Place window at) tt (has_counted w window (split _ _ fit).0)
  order_paid (Replace window host r name keep hidden) fit none = window_paid (Replace window host r name keep hidden) tt (has_counted w window (split _ _ (split _ _ (split _ _ fit).0).0).0)
  order_paid (Raise window) fit none = window_paid (Raise window) tt (has_counted w window fit)
  order_paid (Lower window) fit none = window_paid (Lower window) tt (has_counted w window fit)
  order_paid (Drop window) fit none = window_paid (Drop window) tt (has_counted w window fit)
  order_paid (Host window fill) fit none = window_paid (Host window fill) tt (has_counted w window (split _ _ (split _ _ fit).0).0)
  order_paid (Leave client) fit none = absurd none
  order_paid (Size columns rows) fit none = size_paid columns rows fit

counted : (b : Bool) (cost : ℕ) → b ≡ true → (if b then cost else 0) ≡ cost
counted true cost e = refl
counted false cost e = absurd cc

orders_paid : (orders : List Order) (w : Device) → AllFit w orders → EndNoConnection orders → IsKept w → HasPaid w (carried_out w orders) (orders_cost w orders)
orders_paid [] w all none kept = inl refl
orders_paid (o ∷ orders) w all none kept =
    let first = All-head EndsNoConnection o orders none in
    let sum : orders_cost w (o ∷ orders) ≡ order_cost w o + orders_cost (ordered w o) orders = ap (λ (n : ℕ). n + orders_cost (ordered w o) orders) (counted (fits w o) (order_cost w o) all.0) in
    then_paid w (ordered w o) (carried_out (ordered w o) orders) (order_cost w o) (orders_cost (ordered w o) orders) (orders_cost w (o ∷ orders)) (omega (arith, sum)) (order_paid w kept o all.0 first)
    (orders_paid orders (ordered w o) all.1 (All-tail EndsNoConnection o orders none) (order_kept w o kept all.0 first))

-- ---- a turn

-- what is so of each desktop of a turn that began with a device
record IsPaid (before : Device) (desktop : Desktop) : Type 0 where
  drawn : IsDrawn desktop
  kept : IsKept desktop.device
  paid : HasPaid before desktop.device desktop.cost

acted_paid : (before : Device) (desktop : Desktop) (a : Act) (out : Step) → IsPaid before desktop → rio desktop.table a ≡ Ok out → AllFit desktop.device out.orders → IsDrawn (stepped desktop out)
    → IsPaid before (stepped desktop out)
unfolding stepped
acted_paid before desktop a out is e fit drawn =
    let none = acts_keep_connections desktop.table a out e in
    record {
      drawn = drawn;
      kept = orders_kept out.orders desktop.device fit none is.kept;
      paid = then_paid before desktop.device (carried_out desktop.device out.orders) desktop.cost (orders_cost desktop.device out.orders) (desktop.cost + orders_cost desktop.device out.orders) (omega arith) is.paid
          (orders_paid out.orders desktop.device fit none is.kept);
    }

paid_keeps : (before : Device) → Keeps (IsPaid before)
paid_keeps before = record {
  drawn = λ desktop is. is.drawn;
  acted = λ desktop a out is spelled e fit drawn. acted_paid before desktop a out is e fit drawn;
  beside = λ desktop after table device cost is. record {
    drawn = (let led = led_beside desktop desktop after table device (led_itself desktop is.drawn) in led.drawn);
    kept = subst IsKept (sym device) is.kept;
    paid = subst (λ (d : Device). HasPaid before d after.cost) (sym device) (subst (HasPaid before desktop.device) (sym cost) is.paid);
  };
  used = λ desktop device cost more is used still. record {
    drawn = (let led = led_by desktop desktop device cost (led_itself desktop is.drawn) used still in led.drawn);
    kept = used_kept desktop.device device used is.kept;
    paid = then_paid before desktop.device device desktop.cost 0 cost (omega (arith, more)) is.paid (same_shape desktop.device device 0 (used_shaped desktop.device device used is.kept.steady.orderly is.kept.furnished));
  };
}

-- ---- each event

module _ (world : World) (is : IsServed IsDrawn world) (kept : IsKept world.desktop.device) where
  abbrev Paid : Event → Type 0
  Paid event = HasPaid world.desktop.device (step world event).world.desktop.device (step world event).cost

  first : IsServed (IsPaid world.desktop.device) world
  first = record { led = record { drawn = is.led; kept = kept; paid = inl refl }; order = is.order; begun = is.begun }

  message_paid : (c : ℕ) (bytes : List ℕ) (mark : Option ℕ) (found : Option Session) → lookup world.sessions c ≡ found
      → HasPaid world.desktop.device (served world c bytes mark found).world.desktop.device (served world c bytes mark found).cost
  message_paid c bytes mark None at = inl refl
  message_paid c bytes mark (Some session) at = (let left = heard_served (IsPaid world.desktop.device) (paid_keeps world.desktop.device) world c bytes mark session first at in left.led.paid)

  end_paid : (c : ℕ) (found : Option Session) → lookup world.sessions c ≡ found → HasPaid world.desktop.device (ended world c found).world.desktop.device (ended world c found).cost
  end_paid c None at = inl refl
  end_paid c (Some session) at = (let left = ended_served (IsPaid world.desktop.device) (paid_keeps world.desktop.device) world c session first at in left.led.paid)

  step_paid : (event : Event) → Paid event
  step_paid (Begin c) = inl refl
  step_paid (Msg c bytes mark) = message_paid c bytes mark (lookup world.sessions c) refl
  step_paid (Take c) = inl refl
  step_paid (End c) = end_paid c (lookup world.sessions c) refl
  step_paid Stop = inl refl

pub history_paid : (opening : Opening) (events : List Event) (event : Event) → IsLegal events
    → HasPaid (replay opening events).desktop.device (step (replay opening events) event).world.desktop.device (step (replay opening events) event).cost
history_paid opening events event legal =
    let is = history_served opening events legal in
    step_paid (replay opening events) (record { led = is.led.drawn; order = is.order; begun = is.begun }) (history_kept opening events legal) event
