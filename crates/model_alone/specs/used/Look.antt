-- What a message used by which a session could notice another one, told apart by when it can be seen: before the message is answered, right
-- after that, and at the end of its event.
use Rattle.std.specs.Prelude.{ℕ, ◌&&◌, ◌==◌, Bool, true, false, not, List, [], ◌∷◌, Option, Some, None, Ok, Err, if◌then◌else◌}
use Rattle.std.specs.List.{flat_map}
use Rattle.std.specs.Option.{option_map_or}
use Rattle.r9_event.specs.declared.event.own.Use.{Use}
use Rattle.r9_event.specs.declared.event.own.Use.TheVariants as uses
use Rattle.model_text.specs.text.Outcome.{Outcome}
use Rattle.model_files.specs.wire.Message.{T, Tattach, Twalk, Topen, Tread, Twrite, R, Rerror, no_tag, tag_of_t}
use Rattle.model_files.specs.wire.Reading.{message_of}
use Rattle.model_rio.specs.rio.Table.{Table}
use Rattle.model_files.specs.declared.tree.Kind.{Kind}
use Rattle.model_files.specs.declared.tree.Kind.TheVariants as kind
use Rattle.model_files.specs.tree.Node.{Node}
use Rattle.model_files.specs.tree.Attach.{attach_of}
use Rattle.model_world.specs.Session.{Session}
use Rattle.model_world.specs.Answer.{Taking, Reads, taking}
use Rattle.model_world.specs.Desktop.{Desktop}
use Rattle.model_world.specs.Reading.{count_within}
use Rattle.model_world.specs.Walking.{walked}
use Rattle.model_world.specs.Whole.{client, desktop_for}
use Rattle.model_alone.specs.alone.Uses.{asks_for_windows, chooses_display, file_of_read, if_bound, is_fresh, is_in_root, is_name_looked_at, look_used, looked_at, open_used, reached_file, reading_used, step_used, window_at}

-- what is seen of a message before it is answered
pub data Look : Type 0 where
  -- this is used, be the message refused or not
  Uses : List Use → Look
  -- this is used unless the message is refused
  UsesIfDone : List Use → Look
  -- the name of an attach is looked at; whether it asks for a new window
  Attaches : (fid : ℕ) → (fresh : Bool) → Look
  -- draw messages are written to a connection
  Draws : (connection : ℕ) → List ℕ → Look

-- ---- before the answer

abbrev pub look_at_file : Node → List ℕ → Kind → Look
look_at_file node bytes kind.Data = Draws node.connection bytes
look_at_file node bytes kind.Ctl = Uses (if chooses_display bytes then uses.Own 7 ∷ [] else [])
look_at_file node bytes kind.Wctl = Uses (if asks_for_windows bytes then uses.Own 9 ∷ [] else [])
look_at_file node bytes _ = Uses []

abbrev pub look_at_write : List ℕ → Outcome Node → Look
look_at_write bytes (Ok node) = look_at_file node bytes node.kind
look_at_write bytes (Err n) = Uses []

abbrev pub look_at_attach : Session → (fid afid : ℕ) → (name : List ℕ) → Look
look_at_attach session fid afid name = if is_name_looked_at session fid afid then Attaches fid (is_fresh (attach_of name)) else Uses []

abbrev pub look_at_walk : (c : ℕ) → Session → Desktop → (fid : ℕ) → (names : List (List ℕ)) → Look
look_at_walk c session desktop fid names =
    UsesIfDone (if_bound session fid (λ from. flat_map step_used (walked ((desktop_for c).view desktop session.connections) from.node names).0))

abbrev pub look_at_open : Session → (fid : ℕ) → Look
look_at_open session fid = UsesIfDone (if_bound session fid (λ f. open_used f.node.kind))

abbrev pub look_at_message : (c : ℕ) → Session → Desktop → T → Look
look_at_message c session desktop (Tattach tag fid afid uname aname) = look_at_attach session fid afid aname
look_at_message c session desktop (Twalk tag fid newfid names) = look_at_walk c session desktop fid names
look_at_message c session desktop (Topen tag fid mode) = look_at_open session fid
look_at_message c session desktop (Tread tag fid offset count) =
    Uses (reading_used c desktop offset (count_within session count) (file_of_read c session desktop fid))
look_at_message c session desktop (Twrite tag fid offset bytes) = look_at_write bytes (reached_file c session desktop fid)
look_at_message c session desktop _ = Uses []

abbrev pub look_at_read : (c : ℕ) → Session → Desktop → Option T → Look
look_at_read c session desktop None = Uses []
look_at_read c session desktop (Some m) =
    if session.agreed && not (tag_of_t m == no_tag) then look_at_message c session desktop m else Uses []

abbrev pub look_at_taken : (c : ℕ) → Session → Desktop → List ℕ → Taking → Look
look_at_taken c session desktop bytes Reads = look_at_read c session desktop (message_of bytes)
look_at_taken c session desktop bytes _ = Uses []

-- What is seen of the bytes of a message before it is answered.
unfoldable pub look_at : (c : ℕ) → Session → Desktop → List ℕ → Look
look_at c session desktop bytes = look_at_taken c session desktop bytes (taking session bytes)

-- ---- after it

-- a reply refuses
abbrev pub is_refusal : Option R → Bool
is_refusal (Some (Rerror tag text)) = true
is_refusal _ = false

-- What the message used but for an attach, from the desktop before it, and from its reply.
abbrev pub used_then : (c : ℕ) → Desktop → (mark : Option ℕ) → (reply : Option R) → Look → List Use
used_then c desktop mark reply (Uses used) = used
used_then c desktop mark reply (UsesIfDone used) = if is_refusal reply then [] else used
used_then c desktop mark reply (Attaches fid fresh) = []
used_then c desktop mark reply (Draws connection bytes) =
    flat_map (look_used desktop.panes) (looked_at (client c connection) desktop.device bytes mark)

-- ---- at the end of the event

-- the window that an attach led to, where its session lives
abbrev pub window_after : (after : Option Session) → (fid : ℕ) → Option ℕ
window_after after fid = option_map_or (λ session. window_at session fid) after None

-- What an attach used, from the session, where it lives, and the windows that there are then.
abbrev pub used_last : (after : Option Session) → Table → Look → List Use
used_last after table (Attaches fid fresh) = uses.Attach fresh (window_after after fid) (is_in_root table (window_after after fid)) ∷ []
used_last after table _ = []
