use Rattle.std.proofs.Common.{◌∙◌, ap}
use Rattle.model_files.specs.declared.tree.Kind.{Kind}
use Rattle.model_files.specs.tree.Node.{row}
use Rattle.model_files.specs.tree.Tree.{stat_named}
use Rattle.r9_tree.proofs.stats.stat_named.Goals as goal

pub returns : goal.returns
unfolding stat_named
returns c =
    let mode = c.mode_of.ensures ∙ ap (λ (kind : Kind). (row kind).mode) c.kind_of.ensures in
    λ i. record {
      kind = 0;
      dev = 0;
      qid = c.qid.ensures i;
      mode = mode i;
      atime = 0;
      mtime = 0;
      length = 0;
      name = c.args.name;
      uid = c.in_ok-from_slice.ensures i;
      gid = c.in_ok-from_slice-2.ensures i;
      muid = c.in_ok-from_slice-3.ensures i;
    }
