-- Steps of the windows whose orders fit.
use Rattle.std.proofs.Common.{◌≡◌, ℕ, Bool, true, false, List, [], ◌∷◌, ◌++◌, Option, Some, None, refl, sym, ap, subst, ◌∙◌}
use Rattle.std.specs.Prelude.{◌==◌, not, if◌then◌else◌}
use Rattle.std.proofs.lemmas.Bool.{cond_both}
use Rattle.r9_event.specs.declared.event.rio.Order.{Order}
use Rattle.model_rio.specs.rio.Table.{Window, Rio, Table, Nobody, current_of, hold_of, Hold}
use Rattle.model_rio.specs.rio.Step.{Step, changed, in_place, is_held, is_same, lowered, not_current, raised, retired, told_current, with_current, with_hold, with_rio, without}
use Rattle.model_draw.specs.draw.World.{World}
use Rattle.model_draw.specs.draw.Orders.{after_order, carried_out, fits, manager}
use Rattle.model_draw.specs.draw.Orders as draw
use Rattle.law_shown.specs.shown.Showing.{IsOrderly, ShowsRio, ShowsWindow}
use Rattle.law_shown.specs.fitting.Fitting.{AllFit, Shows}
use Rattle.law_shown.proofs.fitting.Lists.{Each, all_of, each_append, each_filter, each_map, each_of, each_then}
use Rattle.law_shown.proofs.shown.Following.{Follows, none}

-- each order is carried out to an orderly device
abbrev pub AllOrderly : World → List Order → Type 0
AllOrderly device [] = Unit {0}
AllOrderly device (o ∷ orders) = IsOrderly device × AllOrderly (draw.ordered device o) orders

-- Orders that fit, and a table that the device shows to which they are carried out.
pub record Fits (device : World) (orders : List Order) (table : Table) : Type 0 where
  pub all : AllFit device orders
  pub before : AllOrderly device orders
  pub orderly : IsOrderly (carried_out device orders)
  pub shows : Shows (carried_out device orders) table

abbrev pub IsFit : World → Step → Type 0
IsFit device step = Fits device step.orders step.table

-- the device to which the orders of a step so far are carried out
abbrev pub now : World → Step → World
now device step = carried_out device step.orders

-- ---- one order more

all_more : (device : World) (orders : List Order) (o : Order) → AllFit device orders → fits (carried_out device orders) o ≡ true → AllFit device (orders ++ o ∷ [])
all_more device [] o all fit = (fit, tt)
all_more device (p ∷ orders) o all fit = (all.0, all_more (draw.ordered device p) orders o all.1 fit)

orderly_more : (device : World) (orders : List Order) (o : Order) → AllOrderly device orders → IsOrderly (carried_out device orders) → AllOrderly device (orders ++ o ∷ [])
orderly_more device [] o before orderly = (orderly, tt)
orderly_more device (p ∷ orders) o before orderly = (before.0, orderly_more (draw.ordered device p) orders o before.1 orderly)

pub one_more : (device : World) (orders : List Order) (o : Order) → fits (carried_out device orders) o ≡ true → carried_out device (orders ++ o ∷ []) ≡ after_order (carried_out device orders) o
one_more device [] o fit = ap (λ (b : Bool). if b then after_order device o else device) fit
one_more device (p ∷ orders) o fit = one_more (draw.ordered device p) orders o fit

pub fits_more : (device : World) (orders : List Order) (o : Order) (table next : Table) → Fits device orders table → fits (carried_out device orders) o ≡ true → IsOrderly (after_order (carried_out device orders) o)
    → Shows (after_order (carried_out device orders) o) next → Fits device (orders ++ o ∷ []) next
fits_more device orders o table next are fit orderly shows =
    let is = sym (one_more device orders o fit) in
    record {
      all = all_more device orders o are.all fit;
      before = orderly_more device orders o are.before are.orderly;
      orderly = subst IsOrderly is orderly;
      shows = subst (λ (w : World). Shows w next) is shows;
    }

-- another table that the device shows
pub fits_other : (device : World) (orders : List Order) (table next : Table) → Fits device orders table → Shows (carried_out device orders) next → Fits device orders next
fits_other device orders table next are shows = record { all = are.all; before = are.before; orderly = are.orderly; shows = shows }

-- ---- tables that change

-- what a device shows of a table, list by list
pub windows_of : (w : World) (table : Table) → Shows w table → Each (λ v. ShowsWindow w v.serial v.r) table.windows
windows_of w table shows = each_of (λ v. ShowsWindow w v.serial v.r) table.windows shows.windows

pub rios_of : (w : World) (table : Table) → Shows w table → Each (λ rio. ShowsRio w rio.host) (table.root ∷ table.rios)
rios_of w table shows = each_of (λ rio. ShowsRio w rio.host) (table.root ∷ table.rios) shows.rios

pub root_shown : (w : World) (table : Table) → Shows w table → ShowsRio w 0
root_shown w table shows = subst (ShowsRio w) shows.rooted (rios_of w table shows).0

-- other windows of the same table
pub shows_windows : (w : World) (table : Table) (windows : List Window) → Shows w table → Each (λ v. ShowsWindow w v.serial v.r) windows → Shows w (record table { windows = windows })
shows_windows w table windows shows each = record { rooted = shows.rooted; windows = all_of (λ v. ShowsWindow w v.serial v.r) windows each; rios = shows.rios; fresh = shows.fresh }

-- what a device keeps that follows another
pub shows_follow : (old new : World) (table : Table) → Follows none none old new → Shows old table → Shows new table
shows_follow old new table f shows = record {
  rooted = shows.rooted;
  windows = all_of (λ v. ShowsWindow new v.serial v.r) table.windows (each_then (λ v. ShowsWindow old v.serial v.r) (λ v. ShowsWindow new v.serial v.r) (λ v is. f.windows v.serial v.r refl is) table.windows (windows_of old table shows));
  rios = all_of (λ rio. ShowsRio new rio.host) (table.root ∷ table.rios) (each_then (λ rio. ShowsRio old rio.host) (λ rio. ShowsRio new rio.host) (λ rio is. f.rios rio.host refl is) (table.root ∷ table.rios) (rios_of old table shows));
  fresh = λ serial later. f.fresh serial refl (shows.fresh serial later);
}

pub each_in_place : (P : Window → Type 0) (w : Window) (ws : List Window) → P w → Each P ws → Each P (in_place w ws)
each_in_place P w ws is each = each_map P P (λ v. if v.serial == w.serial then w else v) (λ v was. cond_both (v.serial == w.serial) w v P (λ _. is) (λ _. was)) ws each

each_without : (P : Window → Type 0) (serial : ℕ) (ws : List Window) → Each P ws → Each P (without serial ws)
each_without P serial ws each = each_filter P P (λ v. not (v.serial == serial)) (λ v _ is. is) ws each

pub each_raised : (P : Window → Type 0) (w : Window) (ws : List Window) → P w → Each P ws → Each P (raised w ws)
each_raised P w ws is each = (is, each_without P w.serial ws each)

pub each_lowered : (P : Window → Type 0) (w : Window) (ws : List Window) → P w → Each P ws → Each P (lowered w ws)
each_lowered P w ws is each = each_append P (without w.serial ws) (w ∷ []) (each_without P w.serial ws each) (is, tt)

-- ---- what orders nothing

rio_fit : (device : World) (host : ℕ) (change : Rio → Rio) → ((rio : Rio) → (change rio).host ≡ rio.host) → (step : Step) → IsFit device step → IsFit device (with_rio host change step)
rio_fit device host change keeps step fit =
    let w = now device step in
    fits_other device step.orders step.table (with_rio host change step).table fit
    (record {
      rooted = hosts step.table.root ∙ fit.shows.rooted;
      windows = fit.shows.windows;
      rios = all_of (λ rio. ShowsRio w rio.host) ((with_rio host change step).table.root ∷ (with_rio host change step).table.rios)
          (each_map (λ rio. ShowsRio w rio.host) (λ rio. ShowsRio w rio.host) (changed host change) (λ rio is. subst (ShowsRio w) (sym (hosts rio)) is) (step.table.root ∷ step.table.rios) (rios_of w step.table fit.shows));
      fresh = fit.shows.fresh;
    })
  where
    hosts : (rio : Rio) → (changed host change rio).host ≡ rio.host
    hosts rio = cond_both (rio.host == host) (change rio) rio (λ z. z.host ≡ rio.host) (λ _. keeps rio) (λ _. refl)

pub hold_fit : (device : World) (host : ℕ) (hold : Hold) (step : Step) → IsFit device step → IsFit device (with_hold host hold step)
hold_fit device host hold step fit = rio_fit device host (λ rio. record rio { hold = hold }) (λ rio. refl) step fit

pub next_fit : (device : World) (host : ℕ) (next : ℕ → ℕ) (step : Step) → IsFit device step → IsFit device (with_rio host (λ rio. record rio { next = next rio.next }) step)
next_fit device host next step fit = rio_fit device host (λ rio. record rio { next = next rio.next }) (λ rio. refl) step fit

told_fit : (device : World) (o : Option ℕ) (is : Bool) (step : Step) → IsFit device step → IsFit device (told_current o is step)
told_fit device None is step fit = fit
told_fit device (Some serial) is step fit = fit

pub current_fit : (device : World) (host : ℕ) (new : Option ℕ) (step : Step) → IsFit device step → IsFit device (with_current host new step)
unfolding with_current
current_fit device host new step fit =
    let old = current_of step.table host in
    let next : Step = with_rio host (λ rio. record rio { current = new }) step in
    cond_both (is_same old new) step (told_current new true (told_current old false next)) (IsFit device) (λ _. fit)
    (λ _. told_fit device new true (told_current old false next) (told_fit device old false next (rio_fit device host (λ rio. record rio { current = new }) (λ rio. refl) step fit)))

-- and what it leaves as it was
told_orders : (o : Option ℕ) (is : Bool) (step : Step) → (told_current o is step).orders ≡ step.orders
told_orders None is step = refl
told_orders (Some serial) is step = refl

told_windows : (o : Option ℕ) (is : Bool) (step : Step) → (told_current o is step).table.windows ≡ step.table.windows
told_windows None is step = refl
told_windows (Some serial) is step = refl

current_orders : (host : ℕ) (new : Option ℕ) (step : Step) → (with_current host new step).orders ≡ step.orders
unfolding with_current
current_orders host new step =
    let old = current_of step.table host in
    let next : Step = with_rio host (λ rio. record rio { current = new }) step in
    cond_both (is_same old new) step (told_current new true (told_current old false next)) (λ (s : Step). s.orders ≡ step.orders) (λ _. refl)
    (λ _. told_orders new true (told_current old false next) ∙ told_orders old false next)

current_windows : (host : ℕ) (new : Option ℕ) (step : Step) → (with_current host new step).table.windows ≡ step.table.windows
unfolding with_current
current_windows host new step =
    let old = current_of step.table host in
    let next : Step = with_rio host (λ rio. record rio { current = new }) step in
    cond_both (is_same old new) step (told_current new true (told_current old false next)) (λ (s : Step). s.table.windows ≡ step.table.windows) (λ _. refl)
    (λ _. told_windows new true (told_current old false next) ∙ told_windows old false next)

pub retired_fit : (device : World) (host serial : ℕ) (step : Step) → IsFit device step → IsFit device (retired host serial step)
unfolding retired
retired_fit device host serial step fit =
    let idle = not_current host serial step in
    let before : IsFit device idle = cond_both (is_same (current_of step.table host) (Some serial)) (with_current host None step) step (IsFit device) (λ _. current_fit device host None step fit) (λ _. fit) in
    cond_both (is_held serial (hold_of idle.table host)) (with_hold host Nobody idle) idle (IsFit device) (λ _. hold_fit device host Nobody idle before) (λ _. before)

pub retired_orders : (host serial : ℕ) (step : Step) → (retired host serial step).orders ≡ step.orders
unfolding retired
retired_orders host serial step =
    let idle = not_current host serial step in
    let before : idle.orders ≡ step.orders = cond_both (is_same (current_of step.table host) (Some serial)) (with_current host None step) step (λ (s : Step). s.orders ≡ step.orders) (λ _. current_orders host None step) (λ _. refl) in
    cond_both (is_held serial (hold_of idle.table host)) (with_hold host Nobody idle) idle (λ (s : Step). s.orders ≡ step.orders) (λ _. before) (λ _. before)

pub retired_windows : (host serial : ℕ) (step : Step) → (retired host serial step).table.windows ≡ step.table.windows
unfolding retired
retired_windows host serial step =
    let idle = not_current host serial step in
    let before : idle.table.windows ≡ step.table.windows =
    cond_both (is_same (current_of step.table host) (Some serial)) (with_current host None step) step (λ (s : Step). s.table.windows ≡ step.table.windows) (λ _. current_windows host None step) (λ _. refl) in
    cond_both (is_held serial (hold_of idle.table host)) (with_hold host Nobody idle) idle (λ (s : Step). s.table.windows ≡ step.table.windows) (λ _. before) (λ _. before)
