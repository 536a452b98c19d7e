use Rattle.std.proofs.Common.{sym, ◌∙◌}
use Rattle.r9_journal.proofs.Rest.{told_again, none_left, first_line, popped, not_popped}
use Rattle.r9_journal.proofs.reading.Record.pop_first.Goals as goal

pub returns-in_default-clause-none : goal.returns-in_default-clause-none
returns-in_default-clause-none c = sym c.self.view_is ∙ none_left _ _ c.self.invariant (sym c.in_default.ensures)

pub invariant_of-self : goal.invariant_of-self
invariant_of-self c = told_again _ _ (first_line _ _ _ _ c.self.invariant (sym c.in-Some.ensures)).lines

pub returns-clause-first : goal.returns-clause-first
returns-clause-first c = popped _ _ _ _ _ _ (sym c.self.view_is) c.self.invariant (sym c.in-Some.ensures) c.in_ok-event.ensures

pub returns-clause-none : goal.returns-clause-none
returns-clause-none c = not_popped _ _ _ _ _ _ c.self.invariant (sym c.in-Some.ensures) c.in_ok-event.ensures
