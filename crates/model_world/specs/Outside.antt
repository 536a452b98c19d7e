-- What a session finds outside itself: the draw device and the windows. A whole server is such an outside, and what a session
-- does is defined once, over any.
use Rattle.std.specs.Prelude.{ℕ, List, Option}
use Rattle.model_text.specs.text.Outcome.{Outcome}
use Rattle.model_history.specs.declared.words.Size.{Size}
use Rattle.model_files.specs.tree.Attach.{Attach}
use Rattle.model_files.specs.tree.Node.{Node}
use Rattle.model_files.specs.tree.Tree.{View}
use Rattle.model_rio.specs.window.Heard.{Heard}
use Rattle.model_files.specs.declared.mouse.Mouse.{Mouse as Pointer}
use Rattle.model_rio.specs.window.Pane.{Pane}

-- Over states of the outside. The connections are those of one session, by their numbers in it; windows are named by their
-- serials. A refusal in place of a new state changes nothing.
pub record Outside (S : Type 0) : Type 0 where
  -- what the walks and listings of a file depend on, where the session has these connections
  pub view : S → (connections : List ℕ) → Node → View
  -- the window that the name of an attach asks for, 0 for the device tree
  pub attached : S → Attach → Outcome (S × ℕ)
  -- the session has no fid any more whose attach named one of these windows
  pub left : S → (windows : List ℕ) → S
  -- what a window's files have after all that happened at it, and one thing more that happens
  pub pane : S → (window : ℕ) → Pane
  pub hear : S → (window : ℕ) → Heard → S
  -- a command that is written to a window's `wctl`, and to the device tree's
  pub command : S → (window : ℕ) → List ℕ → Outcome S
  pub device_command : S → List ℕ → Outcome S
  -- what the mouse does, and what is typed, characters of UTF-8
  pub mouse : S → Pointer → S
  pub keys : S → List ℕ → S
  -- the image file of a window, and for 0 of the display
  pub picture : S → (window : ℕ) → List ℕ
  -- the sides of the display, and another size of it
  pub size : S → Size
  pub with_size : S → Size → Outcome S
  -- what was cut last in the rio of a host, and other such text
  pub snarf : S → (host : ℕ) → List ℕ
  pub with_snarf : S → (host : ℕ) → List ℕ → S
  -- a connection begins, and ends
  pub connect : S → ℕ → S
  pub leave : S → ℕ → S
  -- a data write with its mark, and the refusal of one that may leave something all the same
  pub write_data : S → ℕ → List ℕ → Option ℕ → S × Option ℕ
  -- a data read of at most so many bytes
  pub read_data : S → ℕ → ℕ → Outcome (List ℕ × S)
  -- what ctl tells of a connection, and the choice of the image id that it describes
  pub read_ctl : S → ℕ → Outcome (List ℕ)
  pub write_ctl : S → ℕ → List ℕ → Outcome S
