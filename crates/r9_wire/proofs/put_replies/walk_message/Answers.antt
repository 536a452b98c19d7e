use Rattle.std.proofs.Common.{◌+◌, ◌*◌, length, arith}
use Rattle.r9_wire.proofs.Heads.{headed}
use Rattle.r9_wire.proofs.put_replies.walk_message.Goals as goal

pub returns : goal.returns
returns c = headed 111 c.args.tag (2 + 13 * c.len.result) _ _ _ c.in_ok-out.ensures.spelled c.in_ok-out.ensures.len (omega (
  arith,
  c.in_ok-out.ensures.len,
  c.in_ok-put_qids.ensures.len,
  c.len.ensures,
)) c.in_ok-put_qids.ensures.put
