use Rattle.r9_tree.specs.View.{node_of, view_of}
use Rattle.r9_tree.proofs.Listed.{numbered_connections, numbered_windows}
use Rattle.r9_tree.proofs.stats.put_numbered.Goals as goal

pub returns-in-Draw : goal.returns-in-Draw
returns-in-Draw c =
    rw (← numbered_connections (view_of c.args.view.now) (node_of c.args.node.now) c.args.kind c.in-Draw.is, ← c.as_slice.ensures) c.put_connections.ensures

pub returns-in-Wsys : goal.returns-in-Wsys
returns-in-Wsys c =
    rw (← numbered_windows (view_of c.args.view.now) (node_of c.args.node.now) c.args.kind c.in-Wsys.is, ← c.as_slice-in-Wsys.ensures, ← c.as_slice-serials.ensures) c.put_windows.ensures
