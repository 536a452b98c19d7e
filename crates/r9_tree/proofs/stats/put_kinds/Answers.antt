use Rattle.std.proofs.Common.{◌∙◌, ap, ◌++◌, ◌<◌, length, arith}
use Rattle.model_files.specs.wire.Spelling.{stat_bytes}
use Rattle.model_files.specs.declared.tree.Kind.TheVariants.{Device}
use Rattle.model_files.specs.tree.Tree.{stat_named}
use Rattle.r9_tree.specs.Stats.{kind_stat}
use Rattle.r9_tree.specs.View.{node_of, view_of}
use Rattle.r9_tree.proofs.Put.{put_more}
use Rattle.r9_tree.proofs.stats.put_kinds.Goals as goal

pub loop-kind-preserved : goal.loop-kind-preserved
unfolding kind_stat
loop-kind-preserved c =
    let name = c.in_ok-name.ensures.name in
    let file = c.placed.ensures.file in
    let inside : c.loop-kind.kind-index < length c.args.kinds.now = omega arith in
    c.in_ok-put_stat.ensures
    ∙ ap (λ piece. c.loop-kind.out ++ piece) (λ i. stat_bytes (stat_named (name i) (file i)))
    ∙ put_more (kind_stat (view_of c.args.view.now) (node_of c.args.node.now)) c.args.kinds.now c.loop-kind.kind-index Device c.args.out.now c.loop-kind.out inside c.loop-kind.invariant
