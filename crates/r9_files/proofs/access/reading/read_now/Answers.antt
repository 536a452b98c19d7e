use Rattle.std.proofs.Common.{◌∙◌, sym, ap, subst}
use Rattle.model_files.specs.declared.tree.Kind.{Kind}
use Rattle.model_files.specs.tree.Node.{Node}
use Rattle.model_world.specs.Reading.{given_now}
use Rattle.r9_files.specs.access.Reads.{IsGivenNow}
use Rattle.r9_files.proofs.access.Readings.{mouse_now, console_now}
use Rattle.r9_files.proofs.access.reading.read_now.Goals as goal

pub returns-in-Mouse-clause-given : goal.returns-in-Mouse-clause-given
returns-in-Mouse-clause-given g c =
    let before = g.O.Outside.state c.args.outside.now in
    let after = g.O.Outside.state c.read_mouse.new.self in
    let fid = c.args.fid.now in
    subst (λ (k : Kind). IsGivenNow fid before c.read_mouse.result fid after (given_now (g.O.Outside.outside c.args.session) before fid c.args.count k))
    (sym c.in-Mouse.is ∙ c.kind_of.ensures ∙ ap (λ (n : Node). n.kind) c.node-node.ensures.node)
    (mouse_now g.O.Outside.outside c.args.session before after fid c.node-node.result.serial c.args.count c.read_mouse.result (ap (λ (n : Node). n.serial) c.node-node.ensures.node) c.read_mouse.ensures.gives c.read_mouse.ensures.takes c.read_mouse.ensures.leaves)

pub returns-in-Cons-clause-given : goal.returns-in-Cons-clause-given
returns-in-Cons-clause-given g c =
    let before = g.O.Outside.state c.args.outside.now in
    let after = g.O.Outside.state c.read_console.new.self in
    let fid = c.args.fid.now in
    subst (λ (k : Kind). IsGivenNow fid before c.read_console.result fid after (given_now (g.O.Outside.outside c.args.session) before fid c.args.count k))
    (sym c.in-Cons.is ∙ c.kind_of.ensures ∙ ap (λ (n : Node). n.kind) c.node-node.ensures.node)
    (console_now g.O.Outside.outside c.args.session before after fid c.node-node.result.serial c.args.count c.read_console.result (ap (λ (n : Node). n.serial) c.node-node.ensures.node) c.read_console.ensures.gives c.read_console.ensures.takes c.read_console.ensures.leaves)

pub returns-in-Wctl-clause-given : goal.returns-in-Wctl-clause-given
returns-in-Wctl-clause-given g c =
    let before = g.O.Outside.state c.args.outside.now in
    let fid = c.args.fid.now in
    subst (λ (k : Kind). IsGivenNow fid before c.wctl_now.result c.wctl_now.new.fid before (given_now (g.O.Outside.outside c.args.session) before fid c.args.count k))
    (sym c.in-Wctl.is ∙ c.kind_of.ensures ∙ ap (λ (n : Node). n.kind) c.node-node.ensures.node)
    (c.wctl_now.ensures.given c.args.session c.args.count)
