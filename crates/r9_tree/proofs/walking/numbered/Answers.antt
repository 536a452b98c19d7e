use Rattle.std.proofs.Common.{◌∙◌, ap, sym}
use Rattle.std.specs.Prelude.{Some}
use Rattle.std.specs.Option.{option_map}
use Rattle.model_files.specs.tree.Tree.{connection_at, window_at}
use Rattle.r9_tree.specs.View.{node_of, view_of}
use Rattle.r9_tree.proofs.Finds.{found_connection, found_window}
use Rattle.r9_tree.proofs.walking.numbered.Goals as goal

pub returns-in_err-connection-in-Draw-clause-file : goal.returns-in_err-connection-in-Draw-clause-file
returns-in_err-connection-in-Draw-clause-file c =
    let node = node_of c.args.node.now in
    ap (option_map node_of) c.from_residual.ensures
    ∙ ap (option_map (connection_at node)) (c.in_err-connection-in-Draw.ensures).connection
    ∙ sym (found_connection (view_of c.args.view.now) node c.args.kind c.args.name.now c.in-Draw.is)

pub returns-in_err-serial-in-Wsys-clause-file : goal.returns-in_err-serial-in-Wsys-clause-file
returns-in_err-serial-in-Wsys-clause-file c =
    let node = node_of c.args.node.now in
    ap (option_map node_of) c.from_residual-in_err-serial-in-Wsys.ensures
    ∙ ap (option_map (λ w. window_at node w.1)) (c.in_err-serial-in-Wsys.ensures)
    ∙ sym (found_window (view_of c.args.view.now) node c.args.kind c.args.name.now c.in-Wsys.is)

pub returns-in_ok-connection-in-Draw-clause-file : goal.returns-in_ok-connection-in-Draw-clause-file
returns-in_ok-connection-in-Draw-clause-file c =
    let node = node_of c.args.node.now in
    ap Some c.connection_at.ensures.file
    ∙ ap (option_map (connection_at node)) (c.in_ok-connection-in-Draw.ensures).connection
    ∙ sym (found_connection (view_of c.args.view.now) node c.args.kind c.args.name.now c.in-Draw.is)

pub returns-in_ok-serial-in-Wsys-clause-file : goal.returns-in_ok-serial-in-Wsys-clause-file
returns-in_ok-serial-in-Wsys-clause-file c =
    let node = node_of c.args.node.now in
    ap Some c.window_at.ensures.file
    ∙ ap (option_map (λ w. window_at node w.1)) (c.in_ok-serial-in-Wsys.ensures)
    ∙ sym (found_window (view_of c.args.view.now) node c.args.kind c.args.name.now c.in-Wsys.is)
