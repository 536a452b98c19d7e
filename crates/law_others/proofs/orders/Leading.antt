-- A desktop that is drawn, and to which another leads.
use Rattle.std.proofs.Common.{◌≡◌, ◌≤◌, ℕ, Ok, refl, sym, subst}
use Rattle.model_rio.specs.rio.Table.{Table}
use Rattle.model_rio.specs.rio.Sound.{IsSound}
use Rattle.model_draw.specs.draw.World.{World}
use Rattle.model_rio.specs.rio.Act.{Act}
use Rattle.model_rio.specs.rio.Rio.{rio}
use Rattle.model_rio.specs.rio.Step.{Step}
use Rattle.model_world.specs.Desktop.{Desktop, stepped}
use Rattle.law_shown.specs.shown.Showing.{IsOrderly}
use Rattle.law_shown.specs.fitting.Fitting.{AllFit, IsSpelled, Shows}
use Rattle.law_others.specs.orders.Leading.{IsDrawn}
use Rattle.law_others.specs.orders.Leading.{Leads, Uses, acts, rests, there, uses}
use Rattle.law_shown.proofs.lasting.Messages.{Still}
use Rattle.law_others.specs.others.Others.{IsFurnished}
use Rattle.law_others.proofs.orders.Furnished.{used_furnished}
use Rattle.law_shown.proofs.fitting.Stepping.{shows_follow}

-- What is so of a desktop and stays so of those to which a session leads: it is drawn, and an act whose orders all fit, a use of the device, and what
-- touches neither the table nor the device nor what was asked for, keep it.
pub record Keeps (Led : Desktop → Type 0) : Type 0 where
  pub drawn : (desktop : Desktop) → Led desktop → IsDrawn desktop
  pub acted : (desktop : Desktop) (a : Act) (step : Step) → Led desktop → IsSpelled a → rio desktop.table a ≡ Ok step → AllFit desktop.device step.orders → IsDrawn (stepped desktop step)
      → Led (stepped desktop step)
  pub beside : (desktop after : Desktop) → after.table ≡ desktop.table → after.device ≡ desktop.device → after.cost ≡ desktop.cost → Led desktop → Led after
  pub used : (desktop : Desktop) (device : World) (cost : ℕ) → desktop.cost ≤ cost → Led desktop → Uses desktop.device device → Still desktop.device device
      → Led (record desktop { device = device; cost = cost })

pub record IsLed (start desktop : Desktop) : Type 0 where
  pub drawn : IsDrawn desktop
  pub leads : Leads start desktop

pub led_itself : (desktop : Desktop) → IsDrawn desktop → IsLed desktop desktop
led_itself desktop drawn = record { drawn = drawn; leads = there }

-- something else than the table and the device may change
pub led_beside : (start desktop after : Desktop) → after.table ≡ desktop.table → after.device ≡ desktop.device → IsLed start desktop → IsLed start after
led_beside start desktop after table device is = record {
  drawn = record {
    sound = subst IsSound (sym table) is.drawn.sound;
    orderly = subst IsOrderly (sym device) is.drawn.orderly;
    furnished = subst IsFurnished (sym device) is.drawn.furnished;
    shows = subst (λ (t : Table). Shows after.device t) (sym table) (subst (λ (d : World). Shows d desktop.table) (sym device) is.drawn.shows);
  };
  leads = uses desktop after is.leads table (subst (Uses desktop.device) (sym device) rests);
}

-- and the device by a use of it, whatever was asked for that
pub led_by : (start desktop : Desktop) (device : World) (cost : ℕ) → IsLed start desktop → Uses desktop.device device → Still desktop.device device → IsLed start (record desktop { device = device; cost = cost })
led_by start desktop device cost is used still = record {
  drawn = record { sound = is.drawn.sound; orderly = still.orderly; furnished = used_furnished desktop.device device used is.drawn.orderly is.drawn.furnished; shows = shows_follow desktop.device device desktop.table still is.drawn.shows };
  leads = uses desktop (record desktop { device = device; cost = cost }) is.leads refl used;
}

pub led_keeps : (start : Desktop) → Keeps (IsLed start)
led_keeps start = record {
  drawn = λ desktop is. is.drawn;
  acted = λ desktop a step is spelled e fit drawn. record { drawn = drawn; leads = acts desktop a step is.leads spelled e fit };
  beside = λ desktop after table device cost is. led_beside start desktop after table device is;
  used = λ desktop device cost more is used still. led_by start desktop device cost is used still;
}
