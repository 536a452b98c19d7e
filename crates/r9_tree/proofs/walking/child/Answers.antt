use Rattle.std.proofs.Common.{◌≡◌, ◌∙◌, ap, sym}
use Rattle.std.specs.Prelude.{Option, Some, None}
use Rattle.std.specs.List.{find}
use Rattle.std.specs.Map.{lookup}
use Rattle.std.specs.Option.{option_map, option_or}
use Rattle.std.specs.Str.{bytes_eq}
use Rattle.model_files.specs.declared.tree.Kind.{Kind}
use Rattle.model_files.specs.tree.Node.{row}
use Rattle.model_files.specs.tree.Tree.{kinds_in, numbered_in, placed}
use Rattle.r9_tree.specs.View.{node_of, view_of}
use Rattle.r9_tree.proofs.Finds.{found_file, is_number}
use Rattle.r9_tree.proofs.walking.child.Goals as goal

pub returns-in-Some-clause-file : goal.returns-in-Some-clause-file
returns-in-Some-clause-file c =
    let view = view_of c.args.view.now in
    let node = node_of c.args.node.now in
    let name = c.args.name.now in
    let there : Some c.in-Some.named ≡ find (λ kind. bytes_eq name (row kind).name) (kinds_in node.kind)
    = c.in-Some.ensures ∙ ap (find (λ kind. bytes_eq name (row kind).name)) (c.kinds_in.ensures ∙ ap kinds_in (sym c.requires.kind)) in
    ap Some c.placed.ensures.file
    ∙ ap (λ (o : Option Kind). option_or (option_map (placed view node) o) (lookup (is_number name) (numbered_in view node node.kind))) there
    ∙ sym (found_file view node name)

pub returns-in-None-clause-file : goal.returns-in-None-clause-file
returns-in-None-clause-file c =
    let view = view_of c.args.view.now in
    let node = node_of c.args.node.now in
    let name = c.args.name.now in
    let none : None ≡ find (λ kind. bytes_eq name (row kind).name) (kinds_in node.kind)
    = c.in-None.ensures ∙ ap (find (λ kind. bytes_eq name (row kind).name)) (c.kinds_in.ensures ∙ ap kinds_in (sym c.requires.kind)) in
    c.numbered.ensures.file
    ∙ ap (λ (k : Kind). lookup (is_number name) (numbered_in view node k)) (sym c.requires.kind)
    ∙ ap (λ (o : Option Kind). option_or (option_map (placed view node) o) (lookup (is_number name) (numbered_in view node node.kind))) none
    ∙ sym (found_file view node name)
