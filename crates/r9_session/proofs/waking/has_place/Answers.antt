use Rattle.std.proofs.Common.{◌∙◌, ◌||◌, not, sym, ap}
use Rattle.std.specs.Prelude.{◌==◌}
use Rattle.model_files.specs.tree.Node.{Node}
use Rattle.model_world.specs.Sleeping.{gives_late}
use Rattle.r9_tree.specs.View.{node_of}
use Rattle.r9_session.proofs.Places.{placed_late}
use Rattle.r9_session.proofs.waking.has_place.Goals as goal

pub returns-else-node-ne0 : goal.returns-else-node-ne0
returns-else-node-ne0 c = λ fid node placed.
    ap not (c.is_kind.ensures
    ∙ placed_late (node_of c.args.node.now) c.if-node-ne0.false (ap (λ (n : Node). not (n.serial == 0) || gives_late n.kind) (sym node) ∙ placed))
