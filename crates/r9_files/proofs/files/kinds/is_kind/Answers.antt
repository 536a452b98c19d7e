use Rattle.std.proofs.Common.{ℕ, eqb, ap, sym, ◌∙◌}
use Rattle.model_files.specs.tree.Node.{row}
use Rattle.r9_files.proofs.files.Numbered.{number_numbered}
use Rattle.r9_files.proofs.files.kinds.is_kind.Goals as goal

pub returns : goal.returns
returns c =
    ap (λ (n : ℕ). eqb n c.args.node.now.kind) c.number_of.ensures
    ∙ ap (λ (n : ℕ). eqb (row c.args.kind).number n) (sym (number_numbered c.args.node.now.kind c.requires.kind.0 c.requires.kind.1))
