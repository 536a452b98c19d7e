-- The lines of what the client says, and when it may be said.
use Rattle.std.specs.Prelude.{◌≡◌, ◌≤◌, ◌+◌, ℕ, List, [], ◌∷◌, ◌++◌, length, map}
use Rattle.std.specs.List.{flat_map}
use Rattle.model_text.specs.text.Number.{two_bytes, four_bytes, eight_bytes}
use Rattle.model_files.specs.wire.Message.{T, Topen, Twalk}
use Rattle.model_files.specs.wire.Spelling.{SpellsT, spelling_of_t}
use Rattle.model_history.specs.records.Line.{event_line}
use Rattle.model_clients.specs.client.Saying.{says}
use Rattle.law_text.specs.client.Saying.{AreMessages}

-- a message that has a spelling of a size that was agreed on
pub record CanSay (m : T) : Type 0 where
  pub spelled : SpellsT (spelling_of_t m) m
  pub short : length (spelling_of_t m) ≤ 65560

abbrev pub lines_of : List T → List ℕ
lines_of messages = flat_map event_line (map says messages)

-- the lines of messages, each of them whole, came behind what was there before
pub record IsSaid (before after : List ℕ) (messages : List T) : Type 0 where
  pub lines : after ≡ before ++ lines_of messages
  pub whole : AreMessages messages

-- how the client opens a file of its tree, whose root is fid 0
abbrev pub opens : (names : List (List ℕ)) (fid mode : ℕ) → List T
opens names fid mode = Twalk 1 0 fid names ∷ Topen 1 fid mode ∷ []

-- what stands before so many bytes in the message that writes them to a file
unfoldable pub write_head : (fid len : ℕ) → List ℕ
write_head fid len = four_bytes (23 + len) ++ (118 ∷ []) ++ two_bytes 1 ++ four_bytes fid ++ eight_bytes 0 ++ four_bytes len
