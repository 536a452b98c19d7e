use Rattle.std.proofs.Common.{◌%◌, length, sym, ◌∙◌, arith}
use Rattle.r9_journal.proofs.Cuts.{not_mark}
use Rattle.r9_journal.proofs.HexDigits.{odd_unread, even_read}
use Rattle.r9_journal.proofs.digits.is_hex.Goals as goal

pub returns-then-text-eq0 : goal.returns-then-text-eq0
returns-then-text-eq0 c = c.are_digits.ensures ∙ even_read c.args.text.now c.if-text-eq0.true

pub returns-else-text-eq0 : goal.returns-else-text-eq0
returns-else-text-eq0 c =
    not_mark (length c.args.text.now % 2) 0 (λ even. omega (arith, c.if-text-eq0.false, even)) ∙ sym (odd_unread c.args.text.now (omega (arith, c.if-text-eq0.false)))
