use Rattle.std.proofs.Common.{sym, subst}
use Rattle.model_files.specs.wire.Spelling.{FitsStat}
use Rattle.r9_tree.specs.View.{node_of}
use Rattle.r9_tree.proofs.Named.{named_fits}
use Rattle.r9_tree.proofs.stats.put_stat.Goals as goal

pub write_stat-requires : goal.write_stat-requires
write_stat-requires c = subst FitsStat (sym c.in_ok-stat.ensures) (named_fits c.args.name (node_of c.args.node.now) c.requires.name)
