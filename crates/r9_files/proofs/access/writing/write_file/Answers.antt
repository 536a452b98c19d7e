use Rattle.std.proofs.Common.{subst, ◌≡◌, ◌⊎◌, Some, IfOk, IfSome}
use Rattle.model_files.specs.declared.tree.Kind.{Kind}
use Rattle.model_files.specs.declared.tree.Kind.TheVariants.{Data}
use Rattle.model_world.specs.Writing.{file_written}
use Rattle.r9_tree.specs.View.{node_of}
use Rattle.r9_files.specs.around.Words.{AreTold, mark_after}
use Rattle.r9_files.specs.access.Writes.{IsWritten}
use Rattle.r9_files.proofs.access.writing.write_file.Goals as goal

pub returns-clause-written : goal.returns-clause-written
returns-clause-written g c =
    subst (λ (k : Kind). IsWritten c.args.mark (g.O.Outside.state c.args.outside.now) c.write_kind.result (g.O.Outside.state c.write_kind.new.outside) (λ m. file_written (g.O.Outside.outside c.args.session) (g.O.Outside.state c.args.outside.now) (node_of c.args.node.now) c.args.offset c.args.bytes.now m k))
    c.kind_of-kind.ensures c.write_kind.ensures.written

pub returns-clause-cause : goal.returns-clause-cause
returns-clause-cause g c =
    subst (λ (kind : Kind). IfOk c.write_kind.result (λ w. IfSome w.short (λ k. (kind ≡ Data) × ((c.args.mark ≡ Some k) ⊎ g.O.Outside.wants c.args.session c.args.node.now.connection (g.O.Outside.state c.args.outside.now) c.args.bytes.now k))))
    c.kind_of-kind.ensures c.write_kind.ensures.cause

pub returns-clause-told : goal.returns-clause-told
returns-clause-told g c =
    subst (λ (kind : Kind). IfOk c.write_kind.result (λ w. kind ≡ Data → AreTold w.told (g.O.Outside.tells c.args.session c.args.node.now.connection (g.O.Outside.state c.args.outside.now) c.args.bytes.now (mark_after c.args.mark w.short))))
    c.kind_of-kind.ensures c.write_kind.ensures.told
