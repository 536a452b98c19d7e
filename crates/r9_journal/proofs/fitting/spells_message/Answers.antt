use Rattle.std.proofs.Common.{refl}
use Rattle.r9_journal.proofs.Fittings.{never, refuted, spells_alone, spells_none, spells_parts}
use Rattle.r9_journal.proofs.fitting.spells_message.Goals as goal

pub returns-then-are_message_digits : goal.returns-then-are_message_digits
returns-then-are_message_digits c =
    (λ _. spells_alone c.args.text.now (c.are_message_digits.ensures.0 c.if-are_message_digits.true), λ _. refl)

pub returns-in_default : goal.returns-in_default
returns-in_default c =
    never _ (spells_none c.args.text.now c.in_default.ensures (refuted _ _ c.are_message_digits.ensures c.if-are_message_digits.false))

pub returns : goal.returns
returns c = spells_parts c.args.text.now _ _ _ c.in-Some.ensures c.spells_marked.ensures
