-- What leads from one desktop to another: acts of the windows, and what connections of sessions do with the draw device.
use Rattle.std.specs.Prelude.{◌≡◌, ◌==◌, ℕ, false, List, Option, Ok}
use Rattle.model_rio.specs.rio.Act.{Act}
use Rattle.model_rio.specs.rio.Rio.{rio}
use Rattle.model_rio.specs.rio.Step.{Step}
use Rattle.model_rio.specs.rio.Sound.{IsSound}
use Rattle.model_draw.specs.draw.World.{World, after_connect, after_leave}
use Rattle.model_draw.specs.draw.Act.{written}
use Rattle.model_draw.specs.draw.Files.{read_data, write_ctl}
use Rattle.model_world.specs.Desktop.{Desktop, stepped}
use Rattle.law_shown.specs.shown.Showing.{IsOrderly}
use Rattle.law_others.specs.others.Others.{IsFurnished}
use Rattle.law_shown.specs.fitting.Fitting.{AllFit, IsSpelled, Shows}

-- What each desktop keeps that a history leads to: the draw device shows the table, and has its display.
pub record IsDrawn (desktop : Desktop) : Type 0 where
  pub sound : IsSound desktop.table
  pub orderly : IsOrderly desktop.device
  pub furnished : IsFurnished desktop.device
  pub shows : Shows desktop.device desktop.table

-- what a connection that is not the window manager leaves of a device, or nothing that happens to it
pub data Uses (device : World) : World → Type 0 where
  rests : Uses device device
  writes : (k : ℕ) (bytes : List ℕ) (mark : Option ℕ) → (k == 0) ≡ false → Uses device (written k device bytes mark).world
  reads : (k most : ℕ) (got : List ℕ × World) → read_data k device most ≡ Ok got → Uses device got.1
  chooses : (k : ℕ) (bytes : List ℕ) (next : World) → write_ctl k device bytes ≡ Ok next → Uses device next
  begins : (k : ℕ) → Uses device (after_connect device k)
  ends : (k : ℕ) → (k == 0) ≡ false → Uses device (after_leave device k)

-- A desktop leads to another by acts, each order of which fits the device to which those before it were carried out, and by
-- uses of the device that leave the table.
pub data Leads (start : Desktop) : Desktop → Type 0 where
  there : Leads start start
  acts :
      (desktop : Desktop) (a : Act) (step : Step)
      → Leads start desktop
      → IsSpelled a
      → rio desktop.table a ≡ Ok step
      → AllFit desktop.device step.orders
      → Leads start (stepped desktop step)
  uses :
      (desktop next : Desktop)
      → Leads start desktop
      → next.table ≡ desktop.table
      → Uses desktop.device next.device
      → Leads start next
