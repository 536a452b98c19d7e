-- Orders that an event of the mouse gives are on windows, and name none.
use Rattle.std.proofs.Common.{◌≡◌, ◌∙◌, ℕ, zero, suc, ◌<◌, ◌==◌, ◌&&◌, Bool, true, false, not, List, [], ◌∷◌, ◌++◌, Option, Some, None, All, refl, sym, subst, arith, ne_eqb}
use Rattle.std.proofs.lemmas.Bool.{cond_both}
use Rattle.std.proofs.lemmas.List.Elements.{All-nil, All-push}
use Rattle.r9_geom.specs.Geometry.{holds}
use Rattle.r9_event.specs.declared.event.rio.Order.{Order}
use Rattle.r9_event.specs.declared.event.rio.Order.TheVariants as order
use Rattle.model_files.specs.declared.mouse.Mouse.{Mouse}
use Rattle.model_rio.specs.rio.Table.{Free, Held, Hold, Nobody, Window, current_of, hold_of, is_host, topmost}
use Rattle.model_rio.specs.rio.Step.{Step, is_same, ordered, raised, told_current, with_current, with_hold, with_rio, with_windows}
use Rattle.model_rio.specs.rio.Routing.{given, moused, point_of, pressed, reacted, receiver}
use Rattle.law_shown.proofs.fitting.Lists.{Each, each_found}
use Rattle.law_shown.proofs.fitting.Stepping.{each_raised}
use Rattle.law_menus.specs.pens.Pens.{IsOnWindow}
use Rattle.law_menus.specs.inked.Inked.{IsNamedOrder}

-- ---- lists of orders

pub record AreFine (orders : List Order) : Type 0 where
  pub on : All IsOnWindow orders
  pub named : All IsNamedOrder orders

pub none_fine : AreFine []
none_fine = record { on = All-nil IsOnWindow; named = All-nil IsNamedOrder }

pub more_fine : (orders : List Order) (o : Order) → IsOnWindow o → IsNamedOrder o → AreFine orders → AreFine (orders ++ o ∷ [])
more_fine orders o on named are = record { on = All-push IsOnWindow orders o are.on on; named = All-push IsNamedOrder orders o are.named named }

-- a serial is not the display's
pub counted : (serial : ℕ) → 0 < serial → (serial == 0) ≡ false
counted serial some = ne_eqb serial 0 (λ same. omega (arith, some, same))

-- ---- the current window

told_orders : (o : Option ℕ) (is : Bool) (step : Step) → (told_current o is step).orders ≡ step.orders
told_orders None is step = refl
told_orders (Some serial) is step = refl

told_windows : (o : Option ℕ) (is : Bool) (step : Step) → (told_current o is step).table.windows ≡ step.table.windows
told_windows None is step = refl
told_windows (Some serial) is step = refl

module _ (host : ℕ) (new : Option ℕ) (step : Step) where
  abbrev next : Step
  next = with_rio host (λ rio. record rio { current = new }) step

  abbrev told : Step
  told = told_current new true (told_current (current_of step.table host) false next)

  pub current_orders : (with_current host new step).orders ≡ step.orders
  unfolding with_current
  current_orders =
      cond_both (is_same (current_of step.table host) new) step told (λ (s : Step). s.orders ≡ step.orders) (λ _. refl)
      (λ _. told_orders new true (told_current (current_of step.table host) false next) ∙ told_orders (current_of step.table host) false next)

  current_windows : (with_current host new step).table.windows ≡ step.table.windows
  unfolding with_current
  current_windows =
      cond_both (is_same (current_of step.table host) new) step told (λ (s : Step). s.table.windows ≡ step.table.windows) (λ _. refl)
      (λ _. told_windows new true (told_current (current_of step.table host) false next) ∙ told_windows (current_of step.table host) false next)

-- ---- an event of the mouse

-- a step so far, in which each window has a serial
pub record IsFine (step : Step) : Type 0 where
  pub windows : Each (λ w. 0 < w.serial) step.table.windows
  pub orders : AreFine step.orders

current_fine : (host : ℕ) (new : Option ℕ) (step : Step) → IsFine step → IsFine (with_current host new step)
current_fine host new step fine = record {
  windows = subst (Each (λ (w : Window). 0 < w.serial)) (sym (current_windows host new step)) fine.windows;
  orders = subst AreFine (sym (current_orders host new step)) fine.orders;
}

hold_fine : (host : ℕ) (hold : Hold) (step : Step) → IsFine step → IsFine (with_hold host hold step)
hold_fine host hold step fine = record { windows = fine.windows; orders = fine.orders }

raised_fine : (w : Window) (step : Step) → 0 < w.serial → IsFine step → IsFine (ordered (order.Raise w.serial) (with_windows (raised w) step))
raised_fine w step some fine = record {
  windows = each_raised (λ v. 0 < v.serial) w step.table.windows some fine.windows;
  orders = more_fine step.orders (order.Raise w.serial) (counted w.serial some) tt fine.orders;
}

pressed_fine : (host : ℕ) (o : Option Window) (step : Step) → (p : (w : Window) → o ≡ Some w → 0 < w.serial) → IsFine step → IsFine (pressed host o step)
pressed_fine host None step some fine = hold_fine host Nobody step fine
pressed_fine host (Some w) step some fine =
    let up : Step = ordered (order.Raise w.serial) (with_windows (raised w) step) in
    hold_fine host (Held w.serial) (with_current host (Some w.serial) up) (current_fine host (Some w.serial) up (raised_fine w step (some w refl) fine))

reacted_fine : (e : Mouse) (host : ℕ) (step : Step) → IsFine step → IsFine (reacted e host step)
unfolding reacted
reacted_fine e host step fine = by_hold (hold_of step.table host) (e.buttons == 0) refl refl
  where
    by_hold : (hold : Hold) (released : Bool) → hold_of step.table host ≡ hold → (e.buttons == 0) ≡ released → IsFine (reacted e host step)
    by_hold Free true at up = rw (at, up) fine
    by_hold Free false at up =
        rw (at, up) (pressed_fine host (topmost step.table host (point_of e)) step
        (λ w is. each_found (λ v. 0 < v.serial) (λ v. (v.host == host) && not v.hidden && holds v.r (point_of e)) step.table.windows w fine.windows is) fine)
    by_hold (Held serial) true at up = rw (at, up) (hold_fine host Free step fine)
    by_hold Nobody true at up = rw (at, up) (hold_fine host Free step fine)
    by_hold (Held serial) false at up = rw (at, up) fine
    by_hold Nobody false at up = rw (at, up) fine

given_fine : (pass : ℕ → Step → Step) → ((host : ℕ) (step : Step) → IsFine step → IsFine (pass host step)) → (e : Mouse) (to : Option ℕ) (step : Step) → IsFine step → IsFine (given pass e to step)
given_fine pass passes e None step fine = fine
given_fine pass passes e (Some serial) step fine = by_test (is_host step.table serial) refl
  where
    by_test : (b : Bool) → is_host step.table serial ≡ b → IsFine (given pass e (Some serial) step)
    by_test true at = rw at (passes serial step fine)
    by_test false at = rw at (record { windows = fine.windows; orders = fine.orders })

pub moused_fine : (levels : ℕ) (e : Mouse) (host : ℕ) (step : Step) → IsFine step → IsFine (moused levels e host step)
unfolding moused
moused_fine zero e host step fine = fine
moused_fine (suc levels) e host step fine =
    given_fine (moused levels e) (moused_fine levels e) e (receiver step.table e host (hold_of step.table host)) (reacted e host step) (reacted_fine e host step fine)
