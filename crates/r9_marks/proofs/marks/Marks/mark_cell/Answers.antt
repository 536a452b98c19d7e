use Rattle.r9_marks.proofs.marks.MarkLemmas.{mark_others}
use Rattle.r9_marks.proofs.marks.Marks.mark_cell.Goals as goal

pub returns-clause-others : goal.returns-clause-others
returns-clause-others c = λ k r other. mark_others c.args.self.now.bits.items c.args.self.now.across c.args.column c.args.row c.requires.column k r other
