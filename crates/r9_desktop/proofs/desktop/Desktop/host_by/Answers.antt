use Rattle.std.proofs.Common.{sym}
use Rattle.r9_tree.specs.View.{node_of}
use Rattle.r9_desktop.proofs.OfRio.{host-rio}
use Rattle.r9_desktop.proofs.desktop.Desktop.host_by.Goals as goal

pub returns-then-is_of_rio : goal.returns-then-is_of_rio
returns-then-is_of_rio c =
    host-rio c.args.self.now.manager (node_of c.args.node.now) (node_of c.args.node.now).kind (sym c.if-is_of_rio.ensures)
