-- What a session of a whole server finds outside itself (attach(5), draw(3), rio(4)).
use Rattle.std.specs.Prelude.{ℕ, ◌+◌, ◌*◌, ◌^◌, ◌==◌, true, false, not, List, [], ◌∷◌, length, map, is_some, Option, Some, Ok, Err, if◌then◌else◌}
use Rattle.std.specs.List.{fold}
use Rattle.std.specs.Option.{option_map_or, unwrap_or}
use Rattle.model_text.specs.text.Map.{lookup, with}
use Rattle.model_text.specs.text.Outcome.{Outcome, ◌>>=◌, refuse_if, value_or_refuse}
use Rattle.model_history.specs.declared.words.Size.{Size}
use Rattle.r9_geom.specs.Geometry.{width, height}
use Rattle.model_files.specs.wctl.Command.{Wctl}
use Rattle.model_files.specs.wctl.Command as wctl
use Rattle.model_files.specs.wctl.Reading.{command_of}
use Rattle.model_rio.specs.rio.Table.{Table, window_of, is_host, made_in, found}
use Rattle.model_rio.specs.rio.Act as act
use Rattle.model_files.specs.declared.mouse.Mouse.{Mouse as Pointer}
use Rattle.model_rio.specs.rio.Rio.{rio}
use Rattle.model_files.specs.declared.tree.Kind.{Kind}
use Rattle.model_files.specs.declared.tree.Kind.TheVariants as kind
use Rattle.model_files.specs.tree.Node.{Node}
use Rattle.model_files.specs.tree.Tree.{View}
use Rattle.model_files.specs.tree.Attach.{Attach, Whole, Existing, Fresh, Unknown}
use Rattle.model_draw.specs.draw.World as draw
use Rattle.model_draw.specs.draw.Act.{written}
use Rattle.model_draw.specs.draw.Files.{read_data, read_ctl, write_ctl}
use Rattle.model_draw.specs.draw.Orders.{picture_of}
use Rattle.model_draw.specs.cost.Cost.{leave_cost, messages_cost}
use Rattle.model_world.specs.Outside.{Outside}
use Rattle.model_world.specs.Desktop.{Desktop, pane_of, pane_told, stepped_or, stepped_if, users_of, is_user, with_user, without_user}

-- ---- the tree

-- the host of the rio that a node has to do with: its own for what belongs to a rio, else the one that its window is in
abbrev pub host_by : Table → Node → Kind → ℕ
host_by table node kind.Wsys = node.serial
host_by table node kind.Screen = node.serial
host_by table node kind.Snarf = node.serial
host_by table node _ = option_map_or (λ w. w.host) (window_of table node.serial) 0

unfoldable pub view_of : Table → (connections : List ℕ) → Node → View
view_of table connections node =
    let host = host_by table node node.kind in
    record {
      connections = connections;
      host = host;
      windows = map (λ w. (w.number, w.serial)) (made_in table host);
      live = is_some (window_of table node.serial);
    }

-- ---- commands

-- the window of a path must host a rio; the empty path is the root's
abbrev pub host_of : Table → (path : List ℕ) → (refusal : ℕ) → Outcome ℕ
host_of table [] n = Ok 0
host_of table (number ∷ numbers) n = do
  serial ← value_or_refuse (found table (number ∷ numbers)) n
  _ ← refuse_if (not (is_host table serial)) n
  Ok serial

-- the window of a path
abbrev pub serial_of : Table → (path : List ℕ) → (refusal : ℕ) → Outcome ℕ
serial_of table path n = value_or_refuse (found table path) n

-- a new window in the rio of a host, where the command is one for that
abbrev pub made_by : Desktop → (host : ℕ) → Wctl → Outcome Desktop
made_by desktop host (wctl.New options hide) = stepped_or desktop (rio desktop.table (act.New host options hide))
made_by desktop host what = Err 47

-- a command to a window
unfoldable pub commanded : Desktop → (window : ℕ) → List ℕ → Outcome Desktop
commanded desktop window text = do
  command ← value_or_refuse (command_of false text) 47
  stepped_or desktop (rio desktop.table (act.Command window command.what))

-- A command to the device names its window by a path. A new window is made in the rio of that window.
abbrev pub device_commanded_by : Desktop → (path : List ℕ) → Wctl → Outcome Desktop
device_commanded_by desktop path (wctl.New options hide) = do
  host ← host_of desktop.table path 47
  stepped_or desktop (rio desktop.table (act.New host options hide))
device_commanded_by desktop path what = do
  window ← serial_of desktop.table path 47
  stepped_or desktop (rio desktop.table (act.Command window what))

unfoldable pub device_commanded : Desktop → List ℕ → Outcome Desktop
device_commanded desktop text = do
  command ← value_or_refuse (command_of true text) 47
  device_commanded_by desktop command.id command.what

-- ---- input

-- an event of the mouse, which is where it was last then, and what is typed, which begin at the root rio
unfoldable pub moused : Desktop → Pointer → Desktop
moused desktop e = record (stepped_if desktop (rio desktop.table (act.Mouse e))) { pointer = Some (record { x = e.x; y = e.y }) }

unfoldable pub typed : Desktop → (keys : List ℕ) → Desktop
typed desktop keys = stepped_if desktop (rio desktop.table (act.Keys keys))

-- ---- the size of the display

abbrev pub size_of : Table → Size
size_of table = record { width = width table.r; height = height table.r }

unfoldable pub resized : Desktop → Size → Outcome Desktop
resized desktop size = stepped_or desktop (rio desktop.table (act.Size size.width size.height))

-- ---- attaching, and leaving

-- a new window, whose serial is the last that was given
unfoldable pub window_made : Desktop → (path : List ℕ) → (text : List ℕ) → Outcome (Desktop × ℕ)
window_made desktop path text = do
  host ← host_of desktop.table path 41
  command ← value_or_refuse (command_of false text) 47
  next ← made_by desktop host command.what
  Ok (next, next.table.serials)

-- a session uses a window from now on
abbrev pub used_by : (session : ℕ) → Desktop × ℕ → Desktop × ℕ
used_by session (desktop, window) = (record desktop { users = with_user desktop.users window session }, window)

unfoldable pub attached : (session : ℕ) → Desktop → Attach → Outcome (Desktop × ℕ)
attached session desktop Whole = Ok (desktop, 0)
attached session desktop Unknown = Err 41
attached session desktop (Existing path) = serial_of desktop.table path 41 >>= λ window. Ok (used_by session (desktop, window))
attached session desktop (Fresh path text) = window_made desktop path text >>= λ made. Ok (used_by session made)

-- A session uses a window no longer. A window that none uses any more is deleted.
unfoldable pub left_one : (session : ℕ) → Desktop → (window : ℕ) → Desktop
left_one session desktop window =
    if not (is_user desktop.users window session) then desktop
    else
    let left = record desktop { users = without_user desktop.users window session } in
    if length (users_of left.users window) == 0 then stepped_if left (rio left.table (act.Gone window)) else left

-- ---- all of it

-- The draw device's number of a session's connection: each session has 2^26 of its own.
abbrev pub client : (session connection : ℕ) → ℕ
client session connection = 2 ^ 26 * session + connection

abbrev pub with_device : Desktop → draw.World → Desktop
with_device desktop device = record desktop { device = device }

-- the draw device has become another, and what made it so costs so much
abbrev pub with_cost : Desktop → draw.World → (cost : ℕ) → Desktop
with_cost desktop device cost = record desktop { device = device; cost = desktop.cost + cost }

unfoldable pub written_data : (k : ℕ) → Desktop → List ℕ → Option ℕ → Desktop × Option ℕ
written_data k desktop bytes mark =
    let after = written k desktop.device bytes mark in
    (with_cost desktop after.world (messages_cost after.done k desktop.device bytes), after.refusal)

abbrev pub connection_left : (k : ℕ) → Desktop → Desktop
connection_left k desktop = with_cost desktop (draw.after_leave desktop.device k) (leave_cost desktop.device k)

unfoldable pub data_read : (k : ℕ) → Desktop → (most : ℕ) → Outcome (List ℕ × Desktop)
data_read k desktop most = read_data k desktop.device most >>= λ got. Ok (got.0, with_device desktop got.1)

unfoldable pub ctl_written : (k : ℕ) → Desktop → List ℕ → Outcome Desktop
ctl_written k desktop bytes = write_ctl k desktop.device bytes >>= λ device. Ok (with_device desktop device)

abbrev pub desktop_for : (session : ℕ) → Outside Desktop
desktop_for session = record {
  view = λ desktop connections node. view_of desktop.table connections node;
  attached = attached session;
  left = λ desktop windows. fold (left_one session) desktop windows;
  pane = λ desktop window. pane_of desktop.panes window;
  hear = λ desktop window h. record desktop { panes = pane_told desktop.panes window h };
  command = commanded;
  device_command = device_commanded;
  mouse = moused;
  keys = typed;
  picture = λ desktop window. picture_of desktop.device window;
  size = λ desktop. size_of desktop.table;
  with_size = resized;
  snarf = λ desktop host. unwrap_or (lookup desktop.snarfs host) [];
  with_snarf = λ desktop host bytes. record desktop { snarfs = with desktop.snarfs host bytes };
  connect = λ desktop n. with_device desktop (draw.after_connect desktop.device (client session n));
  leave = λ desktop n. connection_left (client session n) desktop;
  write_data = λ desktop n bytes mark. written_data (client session n) desktop bytes mark;
  read_data = λ desktop n most. data_read (client session n) desktop most;
  read_ctl = λ desktop n. read_ctl (client session n) desktop.device n;
  write_ctl = λ desktop n bytes. ctl_written (client session n) desktop bytes;
}
