use Rattle.std.proofs.Common.{◌++◌, ◌∙◌, List, sym, ap}
use Rattle.std.specs.List.{flat_map}
use Rattle.r9_event.specs.declared.event.own.Use.{Use}
use Rattle.model_files.specs.tree.Node.{Node}
use Rattle.model_world.specs.Walking.{walked}
use Rattle.model_world.specs.Whole.{desktop_for}
use Rattle.model_alone.specs.alone.Uses.{step_used}
use Rattle.model_alone.specs.used.Look.{UsesIfDone}
use Rattle.r9_desktop.specs.World.{desktop_of}
use Rattle.r9_tree.specs.View.{node_of}
use Rattle.r9_hall.proofs.seen.Looking.{bound_file}
use Rattle.r9_hall.proofs.seen.look.look_at_walk.Goals as goal

pub returns : goal.returns
returns c = λ n.
    let desktop = desktop_of c.args.desktop.now in
    let from = c.in-Some.from in
    let used : Node → List Use = λ node. flat_map step_used (walked ((desktop_for n).view desktop c.args.session.now.connections) node c.args.names.now).0 in
    ap UsesIfDone (
    c.in_ok-walk_used.ensures n
    ∙ (λ i. c.new-uses.ensures i ++ flat_map step_used (walked ((desktop_for n).view desktop (c.connections.ensures.connections i)) (node_of from) c.args.names.now).0)
    ∙ sym (bound_file c.args.session.now c.args.fid from used c.in-Some.ensures.file))
