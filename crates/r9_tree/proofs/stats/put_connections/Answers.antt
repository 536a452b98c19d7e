use Rattle.std.proofs.Common.{◌∙◌, ap, ◌++◌, ◌<◌, length, arith}
use Rattle.model_files.specs.wire.Spelling.{stat_bytes}
use Rattle.model_files.specs.tree.Tree.{stat_named}
use Rattle.r9_tree.specs.Stats.{connection_stat, numbered_stat}
use Rattle.r9_tree.specs.View.{node_of}
use Rattle.r9_tree.proofs.Put.{put_more}
use Rattle.r9_tree.proofs.stats.put_connections.Goals as goal

pub loop-n-preserved : goal.loop-n-preserved
unfolding numbered_stat
loop-n-preserved c =
    let name = c.in_ok-name.ensures.name in
    let file = c.connection_at.ensures.file in
    let inside : c.loop-n.n-index < length c.args.connections.now = omega arith in
    c.in_ok-put_stat.ensures
    ∙ ap (λ piece. c.loop-n.out ++ piece) (λ i. stat_bytes (stat_named (name i) (file i)))
    ∙ put_more (connection_stat (node_of c.args.node.now)) c.args.connections.now c.loop-n.n-index 0 c.args.out.now c.loop-n.out inside c.loop-n.invariant
