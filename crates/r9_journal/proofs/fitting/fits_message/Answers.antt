use Rattle.std.proofs.Common.{sym}
use Rattle.r9_journal.proofs.Fittings.{never, none_by, refuted, line_fits, line_needs, no_session, no_parts}
use Rattle.r9_journal.proofs.fitting.fits_message.Goals as goal

pub returns-in_default : goal.returns-in_default
returns-in_default c = never _ (no_parts c.args.roll.now c.args.text.now (sym c.in_default.ensures))

pub returns-in_default-numeral : goal.returns-in_default-numeral
returns-in_default-numeral c = never _ (no_session c.args.roll.now c.args.text.now _ _ (sym c.in-Some.ensures) (sym c.in_default-numeral.ensures))

pub returns-then-hears : goal.returns-then-hears
returns-then-hears c = (
  λ holds. line_fits c.args.roll.now c.args.text.now _ _ _ (sym c.in-Some.ensures) (sym c.in-Some-numeral.ensures) (c.hears.ensures.0 c.if-hears.true) (c.spells_message.ensures.0 holds),
  λ fits. c.spells_message.ensures.1 (line_needs c.args.roll.now c.args.text.now _ _ _ (sym c.in-Some.ensures) (sym c.in-Some-numeral.ensures) fits).1,
)

pub returns-else-hears : goal.returns-else-hears
returns-else-hears c = none_by _ _ c.if-hears.false (λ fits.
    refuted _ _ c.hears.ensures c.if-hears.false (line_needs c.args.roll.now c.args.text.now _ _ _ (sym c.in-Some.ensures) (sym c.in-Some-numeral.ensures) fits).0)
