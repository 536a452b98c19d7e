use Rattle.std.proofs.Common.{◌≡◌, ◌∙◌, ap, ap₂, ◌++◌}
use Rattle.std.specs.List.{flat_map}
use Rattle.model_files.specs.declared.tree.Kind.{Kind}
use Rattle.model_files.specs.tree.Tree.{kinds_in, numbered_in}
use Rattle.r9_tree.specs.Stats.{kind_stat, numbered_stat}
use Rattle.r9_tree.specs.View.{node_of, view_of}
use Rattle.r9_tree.proofs.Listed.{listing_is}
use Rattle.r9_tree.proofs.stats.listing.Goals as goal

pub returns : goal.returns
returns c =
    let view = view_of c.args.view.now in
    let node = node_of c.args.node.now in
    let fixed : c.put_kinds.new.out ≡ flat_map (kind_stat view node) (kinds_in node.kind)
    = c.in_ok-put_kinds.ensures ∙ ap (λ out. out ++ flat_map (kind_stat view node) c.kinds_in.result.now) c.new-out.ensures
    ∙ ap (flat_map (kind_stat view node)) (c.kinds_in.ensures ∙ ap kinds_in c.kind_of-kind.ensures) in
    c.in_ok-put_numbered.ensures
    ∙ ap₂ ◌++◌ fixed (ap (λ (kind : Kind). flat_map numbered_stat (numbered_in view node kind)) c.kind_of-kind.ensures)
    ∙ listing_is view node
