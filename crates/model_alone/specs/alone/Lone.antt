-- A session alone with its window: a world of one session and one window, which takes what the session is told.
use Rattle.std.specs.Prelude.{ℕ, zero, suc, ◌==◌, Bool, true, false, List, [], ◌∷◌, ◌++◌, length, Option, Some, None, Ok, Err, if◌then◌else◌}
use Rattle.std.specs.List.{fold, filter_map, last_or}
use Rattle.std.specs.Option.{option_map, option_map_or, unwrap_or}
use Rattle.r9_event.specs.declared.event.event.Opening.{Opening}
use Rattle.r9_event.specs.declared.event.own.Item.{Item}
use Rattle.r9_event.specs.declared.event.own.Item.TheVariants.{Sent, Noted}
use Rattle.r9_event.specs.declared.event.rio.Note.{Note}
use Rattle.r9_event.specs.declared.event.rio.Note.TheVariants as note
use Rattle.r9_event.specs.declared.event.rio.Order.{Order}
use Rattle.r9_event.specs.declared.event.rio.Order.TheVariants as order
use Rattle.model_text.specs.text.Outcome.{Outcome, ◌>>=◌, value_or_refuse}
use Rattle.model_files.specs.wire.Message.{R}
use Rattle.model_files.specs.wire.Spelling.{spelling_of_r}
use Rattle.model_files.specs.wctl.Command.{Wctl}
use Rattle.model_files.specs.wctl.Command as wctl
use Rattle.model_files.specs.wctl.Reading.{command_of}
use Rattle.model_files.specs.wctl.Rectangle.{applied}
use Rattle.model_draw.specs.draw.World as draw
use Rattle.model_draw.specs.draw.Act.{no_memory, written, written_within}
use Rattle.model_draw.specs.draw.Files.{read_ctl, read_data, write_ctl}
use Rattle.model_draw.specs.draw.Orders.{carried_out, picture_of, with_root_rio}
use Rattle.model_rio.specs.window.Heard as heard
use Rattle.model_rio.specs.window.Heard.{Heard}
use Rattle.model_rio.specs.window.Pane.{Pane, new_pane, pane_heard}
use Rattle.model_files.specs.tree.Attach.{Attach, Fresh}
use Rattle.model_world.specs.Session.{Session, fresh}
use Rattle.model_world.specs.Outside.{Outside}
use Rattle.model_world.specs.Fids.{Left}
use Rattle.model_world.specs.Answer.{answer}
use Rattle.model_world.specs.Waiting.{one_answered}
use Rattle.model_world.specs.Whole.{client}
use Rattle.model_world.specs.World.{display_of}

-- ---- the draw device

-- The device as a server starts it. A session that is alone names its display in no message, and `ctl` tells of it what it was opened with.
unfoldable pub started_alone : draw.Opening → draw.World
started_alone opening = with_root_rio (draw.started opening)

-- A write of a connection. With a mark so many messages are done, and the next one is not looked at: memory ran out.
abbrev pub written_alone : (k : ℕ) → draw.World → List ℕ → (mark : Option ℕ) → draw.World × Option ℕ
written_alone k device bytes None = ((written k device bytes None).world, (written k device bytes None).refusal)
written_alone k device bytes (Some n) =
    let after = written_within n k device None 0 bytes in
    (after.world, Some (unwrap_or after.refusal no_memory))

-- ---- what a session finds outside itself

-- the draw device; the window by its serial, with what its files have; and the serial of the window that is made in this step
pub record LoneDesktop : Type 0 where
  pub device : draw.World
  pub window : Option (ℕ × Pane)
  pub made : Option ℕ

abbrev pub first_lone_desktop : Opening → LoneDesktop
first_lone_desktop opening = record { device = started_alone (display_of opening); window = None; made = None }

-- the window lives that has this serial
abbrev pub is_window : LoneDesktop → (serial : ℕ) → Bool
is_window desktop serial = option_map_or (λ w. w.0 == serial) desktop.window false

-- what the window's files have; nothing where there is no such window
abbrev pub pane_alone : LoneDesktop → (serial : ℕ) → Pane
pane_alone desktop serial = option_map_or (λ w. if w.0 == serial then w.1 else new_pane) desktop.window new_pane

abbrev pub window_heard : Option (ℕ × Pane) → Heard → Option (ℕ × Pane)
window_heard window h = option_map (λ w. (w.0, pane_heard w.1 h)) window

-- something more happens at a window
abbrev pub heard_alone : LoneDesktop → (serial : ℕ) → Heard → LoneDesktop
heard_alone desktop serial h =
    if is_window desktop serial then record desktop { window = window_heard desktop.window h } else desktop

-- an attach for a new window gives the one that is made in this step
abbrev pub attached_alone : LoneDesktop → Attach → Outcome (LoneDesktop × ℕ)
attached_alone desktop (Fresh path command) = value_or_refuse desktop.made 41 >>= λ serial. Ok (desktop, serial)
attached_alone desktop asked = Err 41

-- a command is refused by its text and by the rectangle that it makes alone
abbrev pub refused_by_rectangle : LoneDesktop → (serial : ℕ) → Wctl → Outcome LoneDesktop
refused_by_rectangle desktop serial (wctl.Resize options) =
    value_or_refuse (applied false options (pane_alone desktop serial).known.r) 47 >>= λ r. Ok desktop
refused_by_rectangle desktop serial (wctl.Move options) =
    value_or_refuse (applied true options (pane_alone desktop serial).known.r) 47 >>= λ r. Ok desktop
refused_by_rectangle desktop serial what = Ok desktop

-- What it does comes with the notes.
unfoldable pub commanded_alone : LoneDesktop → (serial : ℕ) → List ℕ → Outcome LoneDesktop
commanded_alone desktop serial text = do
  command ← value_or_refuse (command_of false text) 47
  refused_by_rectangle desktop serial command.what

abbrev pub with_device : LoneDesktop → draw.World → LoneDesktop
with_device desktop device = record desktop { device = device }

-- What a session finds outside itself, as session 1. Of what is shared with others it finds nothing.
abbrev pub lone_desktop : Outside LoneDesktop
lone_desktop = record {
  view = λ desktop connections node. record { connections = connections; host = 0; windows = []; live = is_window desktop node.serial };
  attached = attached_alone;
  left = λ desktop windows. desktop;
  pane = pane_alone;
  hear = heard_alone;
  command = commanded_alone;
  device_command = λ desktop text. Err 47;
  mouse = λ desktop e. desktop;
  keys = λ desktop bytes. desktop;
  picture = λ desktop window. picture_of desktop.device window;
  size = λ desktop. record { width = 0; height = 0 };
  with_size = λ desktop size. Ok desktop;
  snarf = λ desktop host. [];
  with_snarf = λ desktop host bytes. desktop;
  connect = λ desktop n. with_device desktop (draw.after_connect desktop.device (client 1 n));
  leave = λ desktop n. with_device desktop (draw.after_leave desktop.device (client 1 n));
  write_data = λ desktop n bytes mark.
      let after = written_alone (client 1 n) desktop.device bytes mark in (with_device desktop after.0, after.1);
  read_data = λ desktop n most. read_data (client 1 n) desktop.device most >>= λ got. Ok (got.0, with_device desktop got.1);
  read_ctl = λ desktop n. read_ctl (client 1 n) desktop.device n;
  write_ctl = λ desktop n bytes. write_ctl (client 1 n) desktop.device bytes >>= λ device. Ok (with_device desktop device);
}

-- ---- notes

-- the order to the draw device that a note stands for
abbrev pub orders_of : (serial : ℕ) → Note → List Order
orders_of serial (note.Made number made name r depth) = order.Make made 0 r name false depth ∷ []
orders_of serial (note.Moved name r) = order.Replace serial 0 r name true false ∷ []
orders_of serial (note.Resized name r) = order.Replace serial 0 r name false false ∷ []
orders_of serial note.Deleted = order.Drop serial ∷ []
orders_of serial _ = []

-- the window begins with its first note, and goes with its last
abbrev pub window_noted : Option (ℕ × Pane) → Note → Option (ℕ × Pane)
window_noted window (note.Made number serial name r depth) =
    Some (serial, pane_heard new_pane (heard.Noted (note.Made number serial name r depth)))
window_noted window note.Deleted = None
window_noted window n = window_heard window (heard.Noted n)

abbrev pub noted_alone : LoneDesktop → Note → LoneDesktop
noted_alone desktop n = record desktop {
  device = carried_out desktop.device (orders_of (option_map_or (λ w. w.0) desktop.window 0) n);
  window = window_noted desktop.window n;
}

-- ---- steps

pub record LoneWorld : Type 0 where
  pub session : Session
  pub desktop : LoneDesktop

abbrev pub first_lone_world : Opening → LoneWorld
first_lone_world opening = record { session = fresh; desktop = first_lone_desktop opening }

abbrev pub note_in : Item → Option Note
note_in (Noted n) = Some n
note_in (Sent bytes mark) = None

abbrev pub made_by : Note → Option ℕ
made_by (note.Made number serial name r depth) = Some serial
made_by _ = None

-- the notes of a step, and the window that one of them tells of
abbrev pub notes_in : List Item → List Note
notes_in items = filter_map note_in items

abbrev pub made_in : List Item → Option ℕ
made_in items = last_or None (filter_map made_by (notes_in items))

abbrev pub replied : Option R → List (List ℕ)
replied None = []
replied (Some reply) = spelling_of_r reply ∷ []

abbrev pub left_by : Left LoneDesktop → LoneWorld
left_by after = record { session = after.session; desktop = after.rest }

abbrev pub and_replies : List (List ℕ) → LoneWorld × List (List ℕ) → LoneWorld × List (List ℕ)
and_replies replies more = (more.0, replies ++ more.1)

-- the message of a step is answered
abbrev pub answered_alone : LoneWorld → List Item → LoneWorld × List (List ℕ)
answered_alone world (Sent bytes mark ∷ items) =
    let after = answer lone_desktop world.session world.desktop bytes mark in (left_by after, replied after.reply)
answered_alone world items = (world, [])

-- reads that wait are answered, the earliest that can be each time, so often at most
unfoldable pub settled_alone : (most : ℕ) → LoneWorld → LoneWorld × List (List ℕ)
settled_alone zero world = (world, [])
settled_alone (suc most) world =
    option_map_or (λ after. and_replies (replied after.reply) (settled_alone most (left_by after)))
    (one_answered lone_desktop world.session world.desktop) (world, [])

abbrev pub with_notes : LoneWorld → List Note → LoneWorld
with_notes world notes = record world { desktop = fold noted_alone world.desktop notes }

abbrev pub all_settled : LoneWorld → LoneWorld × List (List ℕ)
all_settled world = settled_alone (length world.session.waiting) world

-- the message is answered, then the notes are taken, and then reads that wait are answered
unfoldable pub lone_step : LoneWorld → List Item → LoneWorld × List (List ℕ)
lone_step world items =
    let after = answered_alone (record world { desktop = record world.desktop { made = made_in items } }) items in
    and_replies after.1 (all_settled (with_notes after.0 (notes_in items)))

abbrev pub lone_from : LoneWorld → List (List Item) → List (List ℕ)
lone_from world [] = []
lone_from world (items ∷ steps) = (lone_step world items).1 ++ lone_from (lone_step world items).0 steps

-- The bytes of the replies to what a session is told, in order.
unfoldable pub lone : Opening → (steps : List (List Item)) → List (List ℕ)
lone opening steps = lone_from (first_lone_world opening) steps
