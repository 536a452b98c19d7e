use Rattle.std.proofs.Common.{◌≡◌, ◌∙◌, true, arith, sym, ap, subst}
use Rattle.model_files.specs.declared.tree.Kind.TheVariants.{Data}
use Rattle.model_files.specs.tree.Node.{Node}
use Rattle.model_files.specs.tree.Tree.{is_of_connection}
use Rattle.r9_files.proofs.access.Done.{of_data}
use Rattle.r9_files.proofs.access.reading.read_file.Goals as goal

pub read_data-requires : goal.read_data-requires
read_data-requires g c =
    let same = c.node-node.ensures.node in
    let kind : c.args.fid.now.node.kind ≡ Data = sym (ap (λ (n : Node). n.kind) same) ∙ sym c.kind_of-kind.ensures ∙ c.in-Data.is in
    subst (λ (n : Node). g.O.Outside.has c.args.session n.connection (g.O.Outside.state c.args.outside.now) ≡ true) (sym same) (c.requires.client (ap is_of_connection kind ∙ of_data))

pub returns-in-Data-clause-short : goal.returns-in-Data-clause-short
returns-in-Data-clause-short g c = omega (arith, c.in_ok-read_data.ensures.short)
