use Rattle.std.proofs.Common.{sym, ◌∙◌}
use Rattle.r9_journal.proofs.Fittings.{told_alone}
use Rattle.r9_journal.proofs.line.message_by.Goals as goal

pub returns-in-Some : goal.returns-in-Some
returns-in-Some c = told_alone c.args.session c.args.text.now _ (sym c.in-Some.is ∙ c.in_ok-whole.ensures)
