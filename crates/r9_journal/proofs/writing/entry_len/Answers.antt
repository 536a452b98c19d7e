use Rattle.std.proofs.Common.{arith}
use Rattle.r9_journal.proofs.Lengths.{message_len}
use Rattle.r9_journal.proofs.writing.entry_len.Goals as goal

pub returns-in-Msg : goal.returns-in-Msg
returns-in-Msg c = omega (
  arith,
  message_len c.args.entry.now.event c.in-Msg.session c.in-Msg.bytes c.in-Msg.mark c.in-Msg.is,
  c.saturating_add.ensures,
  c.saturating_mul.ensures,
  c.len.ensures,
  c.decimal_len.ensures.len,
  c.mark_len.ensures.len,
)
