use Rattle.std.proofs.Common.{◌+◌, length, arith}
use Rattle.r9_wire.proofs.Heads.{headed}
use Rattle.r9_wire.proofs.put_replies.error_message.Goals as goal

pub returns : goal.returns
returns c = headed 107 c.args.tag (2 + length c.args.ename.now) _ _ _ c.in_ok-out.ensures.spelled c.in_ok-out.ensures.len (omega (
  arith,
  c.in_ok-out.ensures.len,
  c.in_ok-put_sized.ensures.len,
)) c.in_ok-put_sized.ensures.put
