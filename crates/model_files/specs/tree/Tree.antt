-- The tree of files as a session sees it (draw(3), rio(4)).
use Rattle.std.specs.Prelude.{ℕ, ◌==◌, Bool, not, ◌&&◌, nat_le, List, [], ◌∷◌, ◌++◌, map, codes, Ok, if◌then◌else◌}
use Rattle.std.specs.List.{find, list_any}
use Rattle.std.specs.Option.{option_map_or}
use Rattle.std.specs.Map.{lookup}
use Rattle.std.specs.Fmt.{decimal}
use Rattle.std.specs.Str.{bytes_eq}
use Rattle.model_text.specs.text.Outcome.{Outcome, ◌>>=◌, refuse_if, value_or_refuse}
use Rattle.model_files.specs.wire.Message.{Stat}
use Rattle.model_files.specs.declared.tree.Kind.{Kind}
use Rattle.model_files.specs.declared.tree.Kind.TheVariants.{Device, Draw, New, Connection, Ctl, Data, Refresh, Mousein, Kbdin, Screen, Snarf, DeviceWctl, Wsys, Window, Cons, Consctl, Label, Mouse, Text, Wctl, Winid, Winname, Picture, Listed, Hwsize}
use Rattle.model_files.specs.tree.Node.{Node, Owner, OfSession, OfConnection, OfRio, OfWindow, row, qid, is_directory}

-- What of the world a node's walks and listings depend on: the session's connections, in ascending order; the host of
-- the rio in question, which is the root's for the device tree, its own for what belongs to a rio, and for a window's
-- files that of the rio that the window is in; that rio's windows as numbers and serials, in ascending number; and
-- whether the node's window lives.
pub record View : Type 0 where
  pub connections : List ℕ
  pub host : ℕ
  pub windows : List (ℕ × ℕ)
  pub live : Bool

-- ---- directories

-- the file of a kind in a directory: the one of the session, or of the directory's connection, rio or window
abbrev pub owned : View → Node → Kind → Owner → Node
owned view node kind OfSession = record { kind = kind; connection = 0; serial = 0; root = node.root }
owned view node kind OfConnection = record { kind = kind; connection = node.connection; serial = 0; root = node.root }
owned view node kind OfRio = record { kind = kind; connection = 0; serial = view.host; root = node.root }
owned view node kind OfWindow = record { kind = kind; connection = 0; serial = node.serial; root = node.root }

abbrev pub placed : View → Node → Kind → Node
placed view node kind = owned view node kind (row kind).owner

-- the kinds of the files that a directory always has, in the order of its listing
unfoldable pub kinds_in : Kind → List Kind
kinds_in Device = Draw ∷ Hwsize ∷ Kbdin ∷ Mousein ∷ Screen ∷ Snarf ∷ DeviceWctl ∷ Wsys ∷ []
kinds_in Draw = New ∷ []
kinds_in Connection = Ctl ∷ Data ∷ Refresh ∷ []
kinds_in Window = Cons ∷ Consctl ∷ Draw ∷ Label ∷ Mouse ∷ Screen ∷ Snarf ∷ Text ∷ Wctl ∷ Winid ∷ Winname ∷ Picture ∷ Wsys ∷ []
kinds_in Listed = Cons ∷ Consctl ∷ Label ∷ Mouse ∷ Screen ∷ Snarf ∷ Text ∷ Wctl ∷ Winid ∷ Winname ∷ Picture ∷ []
kinds_in kind = []

-- the directory of a connection, and that of a window
abbrev pub connection_at : Node → ℕ → Node
connection_at node number = record { kind = Connection; connection = number; serial = 0; root = node.root }

abbrev pub window_at : Node → ℕ → Node
window_at node serial = record { kind = Listed; connection = 0; serial = serial; root = node.root }

-- the directories that are named by numbers: the connections in draw, and the windows in wsys
abbrev pub numbered_in : View → Node → Kind → List (ℕ × Node)
numbered_in view node Draw = map (λ n. (n, connection_at node n)) view.connections
numbered_in view node Wsys = map (λ w. (w.0, window_at node w.1)) view.windows
numbered_in view node kind = []

-- the files of a directory by their names, in the order of its listing
unfoldable pub files : View → Node → List (List ℕ × Node)
files view node =
    map (λ kind. ((row kind).name, placed view node kind)) (kinds_in node.kind)
    ++ map (λ entry. (decimal entry.0, entry.1)) (numbered_in view node node.kind)

-- ---- stats

-- what stat(5) tells of a file with a name
unfoldable pub stat_named : List ℕ → Node → Stat
stat_named name node = record {
  kind = 0;
  dev = 0;
  qid = qid node;
  mode = (row node.kind).mode;
  atime = 0;
  mtime = 0;
  length = 0;
  name = name;
  uid = codes "rio9";
  gid = codes "rio9";
  muid = codes "rio9";
}

-- the number of a window among those of a rio
abbrev pub number_of : View → ℕ → ℕ
number_of view serial = option_map_or (λ w. w.0) (find (λ w. w.1 == serial) view.windows) 0

abbrev pub name_by : View → Node → Kind → List ℕ
name_by view node Connection = decimal node.connection
name_by view node Listed = decimal (number_of view node.serial)
name_by view node kind = (row kind).name

unfoldable pub name_of : View → Node → List ℕ
name_of view node = name_by view node node.kind

unfoldable pub stat : View → Node → Stat
stat view node = stat_named (name_of view node) node

-- ---- walks

-- the root of the tree that an attach gave: a window's, or the device tree's where there is none
abbrev pub root_of : ℕ → Node
root_of root = if root == 0 then record { kind = Device; connection = 0; serial = 0; root = 0 }
    else record { kind = Window; connection = 0; serial = root; root = root }

-- the directory above a directory
abbrev pub above : View → Node → Kind → Node
above view node Connection = placed view node Draw
above view node Listed = placed view node Wsys
above view node kind = root_of node.root

-- a window that a node tells of is gone
abbrev pub is_gone : View → Node → Bool
is_gone view node = not (node.serial == 0) && not view.live

-- the directory of a connection, and its files
abbrev pub is_of_connection : Kind → Bool
is_of_connection kind = nat_le 4 (row kind).number && nat_le (row kind).number 7

-- a connection that a node belongs to is gone
abbrev pub is_ended : View → Node → Bool
is_ended view node = is_of_connection node.kind && not (list_any (λ n. n == node.connection) view.connections)

-- 42 the window is gone, 34 the connection is
unfoldable pub check_live : View → Node → Outcome (Unit {0})
check_live view node = do
  _ ← refuse_if (is_gone view node) 42
  refuse_if (is_ended view node) 34

-- One step of a walk from a node (walk(5)): 42 its window is gone, 34 its connection is gone or it has no such file,
-- 35 it is no directory. Two periods lead to the directory above, and at the root of the attach to itself.
unfoldable pub walk : View → Node → List ℕ → Outcome Node
walk view node name = do
  _ ← check_live view node
  _ ← refuse_if (not (is_directory node)) 35
  if bytes_eq name (codes "..") then Ok (above view node node.kind)
      else value_or_refuse (lookup (bytes_eq name) (files view node)) 34
