-- The file of a kind in a directory, by its fields.
use Rattle.std.proofs.Common.{◌≡◌, refl}
use Rattle.model_files.specs.declared.tree.Kind.{Kind}
use Rattle.model_files.specs.tree.Node.{Node, Owner, OfSession, OfConnection, OfRio, OfWindow}
use Rattle.model_files.specs.tree.Tree.{View, owned}

pub owned_is : (view : View) (node : Node) (kind : Kind) (owner : Owner)
    → owned view node kind owner ≡ record {
      kind = kind;
      connection = (owned view node kind owner).connection;
      serial = (owned view node kind owner).serial;
      root = node.root;
    }
owned_is view node kind OfSession = refl
owned_is view node kind OfConnection = refl
owned_is view node kind OfRio = refl
owned_is view node kind OfWindow = refl
