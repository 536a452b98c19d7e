-- What a table of windows and a draw device have to do with each other, and orders that fit one after the other.
use Rattle.std.specs.Prelude.{◌≡◌, ◌<◌, ℕ, true, List, [], ◌∷◌, None, All}
use Rattle.r9_event.specs.declared.event.rio.Order.{Order}
use Rattle.model_files.specs.declared.wctl.Choice.{Choice}
use Rattle.model_files.specs.declared.wctl.Choice.TheVariants.{Minx, Miny}
use Rattle.model_files.specs.wctl.Command as wctl
use Rattle.model_rio.specs.rio.Table.{Table}
use Rattle.model_rio.specs.rio.Act.{Act}
use Rattle.model_rio.specs.rio.Act as act
use Rattle.model_draw_parts.specs.images.Book.{image_id}
use Rattle.model_draw.specs.draw.World.{World}
use Rattle.model_draw.specs.draw.Orders.{fits, has_display, is_side, manager, ordered}
use Rattle.law_shown.specs.shown.Showing.{ShowsRio, ShowsWindow}

-- The windows and the rios of a table are there, and no serial that was not given has an image.
pub record Shows (device : World) (table : Table) : Type 0 where
  pub rooted : table.root.host ≡ 0
  pub windows : All (λ w. ShowsWindow device w.serial w.r) table.windows
  pub rios : All (λ rio. ShowsRio device rio.host) (table.root ∷ table.rios)
  pub fresh : (serial : ℕ) → table.serials < serial → image_id device.book manager serial ≡ None

-- ---- acts

-- each order fits the device to which those before it were carried out
abbrev pub AllFit : World → List Order → Type 0
AllFit device [] = Unit {0}
AllFit device (order ∷ orders) = (fits device order ≡ true) × AllFit (ordered device order) orders

-- an option that moves a rectangle and leaves its size
abbrev pub IsWay : Choice → Type 0
IsWay (Minx amount) = Unit {0}
IsWay (Miny amount) = Unit {0}
IsWay _ = ⊥

-- a command to move has only such options, and another size of the display such sides, as those have that texts spell
abbrev pub IsSpelled : Act → Type 0
IsSpelled (act.Command window (wctl.Move options)) = All IsWay options
IsSpelled (act.Size width height) = (is_side width ≡ true) × (is_side height ≡ true)
IsSpelled _ = Unit {0}

-- where an act gives the display another size, the display can get one
abbrev pub FindsDisplay : World → Act → Type 0
FindsDisplay device (act.Size width height) = has_display device ≡ true
FindsDisplay device _ = Unit {0}
