use Rattle.std.proofs.Common.{rules}
use Rattle.r9_fonts.proofs.Strings.{refused_by, laid_by}
use Rattle.r9_fonts.proofs.font.Font.layout.Goals as goal

pub returns-then-not-has_all-clause-refused : goal.returns-then-not-has_all-clause-refused
returns-then-not-has_all-clause-refused c = refused_by c.args.self.now c.has_all.result _ _ c.args.indices.now c.has_all.ensures (search rules)

pub returns-in-Ok-clause-ok : goal.returns-in-Ok-clause-ok
returns-in-Ok-clause-ok c = laid_by c.args.self.now c.has_all.result _ _ c.args.indices.now _ c.has_all.ensures (search rules) c.in-Ok.ensures.value
