use Rattle.std.proofs.Common.{◌∙◌, arith}
use Rattle.r9_tree.specs.View.{node_of}
use Rattle.r9_session.proofs.Clients.{live_client}
use Rattle.r9_session.proofs.session.Session.has_connection.Goals as goal

pub returns : goal.returns
returns g c = λ of.
    let session = c.args.self.now in
    let rest = g.O.Outside.state c.args.outside.now in
    let node = node_of c.args.node.now in
    g.met.O.Outside.linked_has c.args.number session.made session.connections rest node.connection c.requires.linked (omega (arith, c.requires.node.connection))
    ∙ live_client ((g.O.Outside.outside c.args.number).view rest session.connections node) session.connections node (g.met.O.Outside.view_has c.args.number rest session.connections node) of c.requires.live
