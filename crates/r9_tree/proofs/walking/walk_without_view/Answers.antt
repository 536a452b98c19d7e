use Rattle.std.proofs.Common.{rules, ◌≡◌, ◌∙◌, ap, sym, true, false}
use Rattle.std.specs.Prelude.{Some, codes}
use Rattle.std.specs.List.{find}
use Rattle.std.specs.Str.{bytes_eq}
use Rattle.model_files.specs.tree.Node.{row, is_directory}
use Rattle.model_files.specs.tree.Tree.{kinds_in}
use Rattle.r9_tree.specs.View.{node_of}
use Rattle.r9_tree.proofs.Finds.{walked_without_view}
use Rattle.r9_tree.proofs.walking.walk_without_view.Goals as goal

pub returns-clause-found : goal.returns-clause-found
returns-clause-found c =
    let node = node_of c.args.node.now in
    let name = c.args.name.now in
    let directory : is_directory node ≡ true = search rules in
    let further : bytes_eq name (codes "..") ≡ false = search rules in
    let there : Some c.in_ok-named.named ≡ find (λ kind. bytes_eq name (row kind).name) (kinds_in node.kind)
    = c.in_ok-named.ensures ∙ ap (find (λ kind. bytes_eq name (row kind).name)) (c.kinds_in.ensures ∙ ap kinds_in c.kind_of-kind.ensures) in
    walked_without_view c.placed_without_view.result node name c.in_ok-named.named directory further (sym there) c.placed_without_view.ensures.file
