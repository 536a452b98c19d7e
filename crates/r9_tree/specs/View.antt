-- Nodes and views of the code as those of the definitions.
use Rattle.std.specs.Prelude.{◌≡◌, ◌≤◌, ℕ, List, length}
use Rattle.std.specs.List.{All, zip}
use Rattle.std.specs.Str.{IsUtf8}
use Rattle.r9_tree.specs.declared.node.Node.{Node}
use Rattle.r9_tree.specs.declared.node.TreeView.{TreeView}
use Rattle.model_files.specs.tree.Node as model
use Rattle.model_files.specs.tree.Tree.{View}

-- the number of a kind of file
abbrev pub IsKind : ℕ → Type 0
IsKind number = (1 ≤ number) × (number ≤ 25)

-- the greatest number of a connection
abbrev pub most_connections : ℕ
most_connections = 67_108_863

pub record IsNode (node : Node) : Type 0 where
  pub kind : IsKind node.kind
  pub connection : node.connection ≤ most_connections

abbrev pub node_of : Node → model.Node
node_of node = record {
  kind = model.kind_numbered node.kind;
  connection = node.connection;
  serial = node.serial;
  root = node.root;
}

pub record IsView (view : TreeView) : Type 0 where
  pub connections : All (λ n. n ≤ most_connections) view.connections
  pub windows : length view.numbers ≡ length view.serials

abbrev pub view_of : TreeView → View
view_of view = record {
  connections = view.connections;
  host = view.host;
  windows = zip view.numbers view.serials;
  live = view.live;
}

-- the name of a file
pub record IsName (name : List ℕ) : Type 0 where
  pub utf8 : IsUtf8 name
  pub short : length name ≤ 10
