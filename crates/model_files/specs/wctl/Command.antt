-- Commands for windows (rio(4)) as plain values.
use Rattle.std.specs.Prelude.{ℕ, Bool, List}
pub use Rattle.model_files.specs.declared.wctl.Amount.{Amount}
pub use Rattle.model_files.specs.declared.wctl.Amount.TheVariants.{Is, Plus, Minus}
pub use Rattle.model_files.specs.declared.wctl.Choice.{Choice}
pub use Rattle.model_files.specs.declared.wctl.Choice.TheVariants.{R, Minx, Miny, Maxx, Maxy, Dx, Dy}

-- What a command asks for. The options of a rectangle stand in their order.
pub data Wctl : Type 0 where
  New : (options : List Choice) (hide : Bool) → Wctl
  Resize : (options : List Choice) → Wctl
  Move : (options : List Choice) → Wctl
  Top : Wctl
  Bottom : Wctl
  Hide : Wctl
  Unhide : Wctl
  Current : Wctl
  Delete : Wctl
  Scroll : (scrolls : Bool) → Wctl
  Set : Wctl
  Host : Wctl

-- a command, and the path of the window that it names, empty where it names none
pub record Command : Type 0 where
  pub what : Wctl
  pub id : List ℕ
