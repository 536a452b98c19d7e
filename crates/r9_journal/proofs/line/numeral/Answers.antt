use Rattle.std.proofs.Common.{sym, arith}
use Rattle.r9_journal.proofs.Numerals.{read_low, read_wide, unread, led}
use Rattle.r9_journal.proofs.line.numeral.Goals as goal

pub returns-then-is_led : goal.returns-then-is_led
returns-then-is_led c = sym (led c.args.word.now (c.is_led.ensures.0 c.if-is_led.true))

pub returns-in_err-number : goal.returns-in_err-number
returns-in_err-number c = rw c.from_residual.ensures (sym (unread c.args.word.now c.in_err-number.ensures))

pub returns-then-number : goal.returns-then-number
returns-then-number c = read_low c.args.word.now c.in_ok-number.number c.in_ok-number.ensures (λ led. absurd (cc (c.is_led.ensures.1 led, c.if-is_led.false))) c.if-number.true

pub returns-else-number : goal.returns-else-number
returns-else-number c = read_wide c.args.word.now c.in_ok-number.number c.in_ok-number.ensures (λ led. absurd (cc (c.is_led.ensures.1 led, c.if-is_led.false))) (omega (arith, c.if-number.false))
