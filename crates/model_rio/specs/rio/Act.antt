-- What may happen to the windows.
use Rattle.std.specs.Prelude.{ℕ, Bool, List}
use Rattle.model_files.specs.declared.mouse.Mouse.{Mouse as Pointer}
use Rattle.model_files.specs.declared.wctl.Choice.{Choice}
use Rattle.model_files.specs.wctl.Command.{Wctl}

pub data Act : Type 0 where
  -- a new window in the rio of this host
  New : (rio : ℕ) (options : List Choice) (hide : Bool) → Act
  -- a command to a window
  Command : (window : ℕ) (what : Wctl) → Act
  Mouse : (pointer : Pointer) → Act
  -- characters of UTF-8
  Keys : (bytes : List ℕ) → Act
  -- nobody uses the window any more
  Gone : (window : ℕ) → Act
  -- the display has another size
  Size : (width height : ℕ) → Act
