-- A reply that is one message of 9P, no longer than its session has agreed on (intro(5), version(5)).
use Rattle.std.specs.Prelude.{◌≡◌, ◌<◌, ◌≤◌, ◌^◌, ◌⊎◌, ℕ, List, length, Option, Some}
use Rattle.std.specs.Option.{option_map}
use Rattle.r9_event.specs.declared.event.event.Reply.{Reply}
use Rattle.model_text.specs.text.Map.{lookup}
use Rattle.model_files.specs.wire.Message.{R, Rread, Rstat}
use Rattle.model_files.specs.wire.Spelling.{spelling_of_r}
use Rattle.model_files.specs.declared.mouse.Mouse.{Mouse as Pointer}
use Rattle.model_files.specs.mouse.Pointer.{text}
use Rattle.model_rio.specs.window.Heard.{Known, wctl_text}
use Rattle.model_forest.specs.World.{Image}
use Rattle.model_draw.specs.draw.Files.{description}
use Rattle.model_world.specs.World.{World}
use Rattle.model_world.specs.Standing.{tag_of_r}

-- These bytes tell what is wider than its field of 11 characters: of an event of the mouse, of a window in `wctl`, or of an image in
-- `ctl`.
pub data IsWideText (bytes : List ℕ) : Type 0 where
  of_mouse : (letter : ℕ) (e : Pointer) → bytes ≡ text letter e → 49 < length bytes → IsWideText bytes
  of_window : (known : Known) → bytes ≡ wctl_text known → 72 < length bytes → IsWideText bytes
  of_image : (number id : ℕ) (image : Image) → bytes ≡ description number id image → 144 < length bytes → IsWideText bytes

-- the reply gives such bytes, or tells of a file whose name is so wide
abbrev pub IsWide : R → Type 0
IsWide (Rread tag bytes) = IsWideText bytes
IsWide (Rstat tag stat) = 11 < length stat.name
IsWide _ = ⊥

-- The reply is spelled as a message, whose tag fits its field, and is no longer than was agreed, if anything was.
pub record IsAnswer (agreed : Option ℕ) (reply : Reply) : Type 0 where
  pub msize : ℕ
  pub lives : agreed ≡ Some msize
  pub message : R
  pub tag : tag_of_r message < 2 ^ 16
  pub spelled : reply.bytes ≡ spelling_of_r message
  pub short : (length reply.bytes ≤ msize) ⊎ IsWide message

-- the greatest size of a message that a session has agreed on, or begins with
abbrev pub msize_in : World → ℕ → Option ℕ
msize_in world c = option_map (λ session. session.msize) (lookup world.sessions c)

-- so it is of the session that it goes to
abbrev pub IsAnswerIn : World → Reply → Type 0
IsAnswerIn world reply = IsAnswer (msize_in world reply.session) reply
