-- The message that stands first in bytes, as it is looked at.
use Rattle.std.specs.Prelude.{◌≡◌, ◌≤◌, ◌++◌, ℕ, Bool, true, false, List, length, drop, Option, Some, None, Ok, Err}
use Rattle.r9_event.specs.declared.event.own.Use.{Use}
use Rattle.model_draw_parts.specs.dmsg.Message.{Message, LowY}
use Rattle.model_draw_parts.specs.dmsg.Reading.{first_message}
use Rattle.model_draw.specs.draw.Act.{spelled}
use Rattle.model_rio.specs.window.Pane.{Pane}
use Rattle.model_alone.specs.alone.Uses.{look_used}
use Rattle.r9_used.specs.declared.looked.first.First.{First}

-- it is a `y`
abbrev pub is_write : Message → Bool
is_write (LowY id r) = true
is_write m = false

-- the message that stands first in bytes, of which so much is known, was added with what it uses
pub record IsLooked (panes : List (ℕ × Pane)) (bytes : List ℕ) (before : List Use) (first : First) (after : List Use) : Type 0 where
  pub message : Message
  pub spells : spelled (first_message bytes) ≡ Ok (message, drop first.len bytes)
  pub within : first.len ≤ length bytes
  pub write : first.has_rows ≡ is_write message
  pub uses_are : after ≡ before ++ look_used panes message

-- no message stands first in bytes, and nothing was added
pub record IsNone (bytes : List ℕ) (before after : List Use) : Type 0 where
  pub refusal : ℕ
  pub spells : spelled (first_message bytes) ≡ Err refusal
  pub kept : after ≡ before

-- one of both
abbrev pub IsFirst : List (ℕ × Pane) → (bytes : List ℕ) → (before : List Use) → Option First → (after : List Use) → Type 0
IsFirst panes bytes before (Some first) after = IsLooked panes bytes before first after
IsFirst panes bytes before None after = IsNone bytes before after
