-- What an event used by which a session could notice another one: by this it is judged whether a session is alone (attach(5), draw(3),
-- rio(4)).
use Rattle.std.specs.Prelude.{ℕ, zero, suc, ◌+◌, ◌==◌, ◌&&◌, ◌||◌, Bool, true, false, not, nat_lt, is_none, List, [], ◌∷◌, ◌++◌, find, codes, slice_get, Option, Some, None, Ok, Err, if◌then◌else◌}
use Rattle.std.specs.List.{filter_map, flat_map, list_any}
use Rattle.std.specs.Option.{option_map, option_map_or, unwrap_or}
use Rattle.std.specs.Str.{bytes_eq}
use Rattle.r9_event.specs.declared.event.event.Event.{Event}
use Rattle.r9_event.specs.declared.event.event.Event.TheVariants.{Msg}
use Rattle.r9_event.specs.declared.event.own.Use.{Use}
use Rattle.r9_event.specs.declared.event.own.Use.TheVariants as uses
use Rattle.model_text.specs.text.Map.{lookup}
use Rattle.model_text.specs.text.Outcome.{Outcome, ◌>>=◌, refuse_if}
use Rattle.model_files.specs.wire.Message.{T, Tattach, Twalk, Topen, Tread, Twrite, no_fid, no_tag, tag_of_t}
use Rattle.model_files.specs.wire.Reading.{message_of}
use Rattle.model_files.specs.wctl.Words.{words_of, without_last_newline}
use Rattle.model_draw_parts.specs.dmsg.Message.{Message, LowB, UpA, LowC, LowD, UpD, LowF, UpF, LowI, LowL, UpN, LowN, LowO, UpO, LowR, LowS, UpS, LowT, LowV, LowX, LowY}
use Rattle.model_draw_parts.specs.dmsg.Reading.{first_message}
use Rattle.model_draw.specs.draw.World as draw
use Rattle.model_draw.specs.draw.World.{client_of}
use Rattle.model_draw.specs.draw.Making.{flag}
use Rattle.model_draw.specs.draw.Act.{act, behind, spelled, no_memory, Written, written}
use Rattle.model_rio.specs.window.Pane.{Pane}
use Rattle.model_rio.specs.rio.Table.{Table, window_of, is_host}
use Rattle.model_files.specs.declared.tree.Kind.{Kind}
use Rattle.model_files.specs.declared.tree.Kind.TheVariants as kind
use Rattle.model_files.specs.tree.Node.{Node, reads, writes}
use Rattle.model_files.specs.tree.Attach.{Attach, Fresh, attach_of}
use Rattle.model_files.specs.tree.Tree.{check_live}
use Rattle.model_world.specs.Session.{Fid, Session}
use Rattle.model_world.specs.Fids.{fid_of, is_bound, is_full}
use Rattle.model_world.specs.Walking.{walked, walk_answer, open_answer}
use Rattle.model_world.specs.Reading.{count_within, ctl_len, is_open_for}
use Rattle.model_world.specs.Answer.{Taking, Reads, taking}
use Rattle.model_world.specs.Desktop.{Desktop}
use Rattle.model_world.specs.Whole.{client, desktop_for}
use Rattle.model_world.specs.World.{World}

-- what something that was not refused used
abbrev pub if_done : {A : Type 0} → Outcome A → List Use → List Use
if_done (Ok x) used = used
if_done (Err n) used = []

-- what a fid that is bound used
abbrev pub if_bound : Session → (fid : ℕ) → (Fid → List Use) → List Use
if_bound session fid used = option_map_or used (lookup session.fids fid) []

-- ---- attaches

-- the name of an attach is looked at
abbrev pub is_name_looked_at : Session → (fid afid : ℕ) → Bool
is_name_looked_at session fid afid = (afid == no_fid) && not (is_bound session fid) && not (is_full session)

-- the name asks for a new window
abbrev pub is_fresh : Attach → Bool
is_fresh (Fresh path command) = true
is_fresh _ = false

-- the window whose attach led to a fid, None for the device tree, and where no such fid is bound
abbrev pub window_at : Session → (fid : ℕ) → Option ℕ
window_at session fid = option_map_or (λ f. if f.node.root == 0 then None else Some f.node.root) (lookup session.fids fid) None

-- the window is one of the root rio
abbrev pub is_in_root : Table → (window : Option ℕ) → Bool
is_in_root table window = option_map_or (λ serial. option_map_or (λ w. w.host == 0) (window_of table serial) false) window false

abbrev pub attach_used : Table → (name : List ℕ) → (window : Option ℕ) → Use
attach_used table name window = uses.Attach (is_fresh (attach_of name)) window (is_in_root table window)

-- ---- walks and opens

-- a walk comes to the directory of windows, or through it into a window
abbrev pub node_used : Node → Kind → List Use
node_used node kind.Wsys = uses.Own 6 ∷ []
node_used node kind.Listed = uses.Walk node.serial ∷ []
node_used node _ = []

abbrev pub step_used : Node → List Use
step_used node = node_used node node.kind

-- what a rio has for all its windows is opened
abbrev pub open_used : Kind → List Use
open_used kind.Screen = uses.Own 6 ∷ []
open_used kind.Snarf = uses.Own 6 ∷ []
open_used kind.Wsys = uses.Own 6 ∷ []
open_used _ = []

-- ---- draw messages

-- the ids of images that a message names, but for one that is to be made
abbrev pub images_named : Message → List ℕ
images_named (LowB id screenid refresh chan repl r clipr color) = []
images_named (UpA id imageid fillid public) = imageid ∷ fillid ∷ []
images_named (LowC dstid repl clipr) = dstid ∷ []
images_named (LowD dstid srcid maskid dstr srcp maskp) = dstid ∷ srcid ∷ maskid ∷ []
images_named (UpD debug) = []
images_named (LowF id) = id ∷ []
images_named (UpF id) = []
images_named (LowI id n ascent) = id ∷ []
images_named (LowL cacheid srcid index r sp left width) = cacheid ∷ srcid ∷ []
images_named (UpN id tied name) = id ∷ []
images_named (LowN id name) = []
images_named (LowO id rmin scr) = id ∷ []
images_named (UpO op) = []
images_named (LowR id r) = id ∷ []
images_named (LowS writing) = writing.dstid ∷ writing.srcid ∷ writing.fontid ∷ []
images_named (UpS id chan) = []
images_named (LowT top ids) = ids
images_named LowV = []
images_named (LowX writing bgid bgp) = writing.dstid ∷ writing.srcid ∷ writing.fontid ∷ bgid ∷ []
images_named (LowY id r) = id ∷ []

-- the window whose image has a name
abbrev pub window_named : List (ℕ × Pane) → (name : List ℕ) → Option ℕ
window_named panes name = option_map (λ entry. entry.0) (find (λ entry. bytes_eq entry.1.known.name name) panes)

-- a message reaches names and screens that all connections share
abbrev pub shared_used : List (ℕ × Pane) → Message → List Use
shared_used panes (UpA id imageid fillid public) = if flag public then uses.Own 8 ∷ [] else []
shared_used panes (UpN id tied name) = uses.Own 8 ∷ []
shared_used panes (LowN id name) = uses.Name (window_named panes name) ∷ []
shared_used panes (UpS id chan) = uses.Own 8 ∷ []
shared_used panes _ = []

-- the display is image 0
abbrev pub look_used : List (ℕ × Pane) → Message → List Use
look_used panes m = (if list_any (λ id. id == 0) (images_named m) then uses.Own 7 ∷ [] else []) ++ shared_used panes m

-- The messages that stand first in the bytes of a write, so many at most: those that are done, and the one that is refused, unless
-- the bytes spell none there.
abbrev pub messages_within : (most : ℕ) → (k : ℕ) → draw.World → List ℕ → List Message
messages_within zero k device bytes = []
messages_within (suc most) k device bytes =
    elim (spelled (first_message bytes)) [
      | Ok m ↦
          m.0 ∷ elim (act k device m.0 m.1) [ Ok next ↦ messages_within most k next (behind k device m.0 m.1) | Err refusal ↦ [] ]
      | Err refusal ↦ []
    ]

-- where memory ran out the message is not looked at before which it did
abbrev pub most_looked_at : Written → ℕ
most_looked_at after = if option_map_or (λ n. n == no_memory) after.refusal false then after.done else after.done + 1

-- the messages of a write that are looked at
unfoldable pub looked_at : (k : ℕ) → draw.World → List ℕ → (mark : Option ℕ) → List Message
looked_at k device bytes mark = messages_within (most_looked_at (written k device bytes mark)) k device bytes

-- ---- reads and writes

-- the file that a read or a write reaches
abbrev pub file_reached : (allows : ℕ → Bool) → (c : ℕ) → Session → Desktop → (number : ℕ) → Outcome Node
file_reached allows c session desktop number = do
  fid ← fid_of session number
  _ ← refuse_if (is_none fid.mode) 37
  _ ← refuse_if (not (is_open_for allows fid)) 38
  _ ← check_live ((desktop_for c).view desktop session.connections fid.node) fid.node
  Ok fid.node

-- the file that a read reaches, and that a write does
abbrev pub file_of_read : (c : ℕ) → Session → Desktop → (number : ℕ) → Outcome Node
file_of_read c session desktop number = file_reached reads c session desktop number

abbrev pub reached_file : (c : ℕ) → Session → Desktop → (number : ℕ) → Outcome Node
reached_file c session desktop number = file_reached writes c session desktop number

-- a read of the `ctl` of a connection tells of the display, which has changed its size
abbrev pub tells_size : (k : ℕ) → Desktop → (offset count : ℕ) → Bool
tells_size k desktop offset count =
    desktop.sized && (offset == 0) && not (nat_lt count ctl_len) && ((client_of desktop.device k).described == 0)

abbrev pub contents_used : (c : ℕ) → Desktop → Node → (offset count : ℕ) → Kind → List Use
contents_used c desktop node offset count kind.Ctl = if tells_size (client c node.connection) desktop offset count then uses.Own 12 ∷ [] else []
contents_used c desktop node offset count _ = []

abbrev pub reading_used : (c : ℕ) → Desktop → (offset count : ℕ) → Outcome Node → List Use
reading_used c desktop offset count (Ok node) = contents_used c desktop node offset count node.kind
reading_used c desktop offset count (Err n) = []

-- the four bytes of image id 0, which `ctl` then describes
abbrev pub chooses_display : List ℕ → Bool
chooses_display bytes = bytes_eq bytes (0 ∷ 0 ∷ 0 ∷ 0 ∷ [])

abbrev pub first_word : List ℕ → List ℕ
first_word text = unwrap_or (slice_get (words_of (without_last_newline text)) 0) []

-- the text asks for a window more, or for a rio in the window
abbrev pub asks_for_windows : List ℕ → Bool
asks_for_windows text = bytes_eq (first_word text) (codes "new") || bytes_eq (first_word text) (codes "host")

abbrev pub file_used : (c : ℕ) → Desktop → Node → List ℕ → (mark : Option ℕ) → Kind → List Use
file_used c desktop node bytes mark kind.Data =
    flat_map (look_used desktop.panes) (looked_at (client c node.connection) desktop.device bytes mark)
file_used c desktop node bytes mark kind.Ctl = if chooses_display bytes then uses.Own 7 ∷ [] else []
file_used c desktop node bytes mark kind.Wctl = if asks_for_windows bytes then uses.Own 9 ∷ [] else []
file_used c desktop node bytes mark _ = []

abbrev pub write_used : (c : ℕ) → Desktop → List ℕ → (mark : Option ℕ) → Outcome Node → List Use
write_used c desktop bytes mark (Ok node) = file_used c desktop node bytes mark node.kind
write_used c desktop bytes mark (Err n) = []

-- ---- messages, and events

-- what a message used, from the world before it, and from what stands after it
abbrev pub message_used : (c : ℕ) → Session → Desktop → (after : Session) → Table → (mark : Option ℕ) → T → List Use
message_used c session desktop after table mark (Tattach tag fid afid uname aname) =
    if is_name_looked_at session fid afid then attach_used table aname (window_at after fid) ∷ [] else []
message_used c session desktop after table mark (Twalk tag fid newfid names) =
    if_done (walk_answer (desktop_for c) session desktop tag fid newfid names)
    (if_bound session fid (λ from. flat_map step_used (walked ((desktop_for c).view desktop session.connections) from.node names).0))
message_used c session desktop after table mark (Topen tag fid mode) =
    if_done (open_answer (desktop_for c) session desktop tag fid mode) (if_bound session fid (λ f. open_used f.node.kind))
message_used c session desktop after table mark (Tread tag fid offset count) =
    reading_used c desktop offset (count_within session count) (file_of_read c session desktop fid)
message_used c session desktop after table mark (Twrite tag fid offset bytes) =
    write_used c desktop bytes mark (reached_file c session desktop fid)
message_used c session desktop after table mark _ = []

-- what bytes used, where the session answers what they spell
abbrev pub read_used : (c : ℕ) → Session → Desktop → (after : Session) → Table → (mark : Option ℕ) → Option T → List Use
read_used c session desktop after table mark None = []
read_used c session desktop after table mark (Some m) =
    if session.agreed && not (tag_of_t m == no_tag) then message_used c session desktop after table mark m else []

abbrev pub bytes_used : (c : ℕ) → Session → Desktop → (after : Session) → Table → (mark : Option ℕ) → List ℕ → Taking → List Use
bytes_used c session desktop after table mark bytes Reads = read_used c session desktop after table mark (message_of bytes)
bytes_used c session desktop after table mark bytes _ = []

abbrev pub session_used : (c : ℕ) → World → (next : World) → List ℕ → (mark : Option ℕ) → Option Session → List Use
session_used c world next bytes mark None = []
session_used c world next bytes mark (Some session) =
    bytes_used c session world.desktop (unwrap_or (lookup next.sessions c) session) next.desktop.table mark bytes (taking session bytes)

-- the windows that became hosts of rios
abbrev pub new_hosts : Table → (next : Table) → List Use
new_hosts table next = filter_map (λ rio. if is_host table rio.host then None else Some (uses.Host rio.host)) next.rios

-- What an event used, from the world before it and the one after it, in order.
unfoldable pub event_used : World → (next : World) → Event → List Use
event_used world next (Msg c bytes mark) =
    session_used c world next bytes mark (lookup world.sessions c) ++ new_hosts world.desktop.table next.desktop.table
event_used world next event = []
