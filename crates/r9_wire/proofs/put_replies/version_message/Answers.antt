use Rattle.std.proofs.Common.{◌+◌, length, arith}
use Rattle.r9_wire.proofs.Heads.{headed, behind}
use Rattle.r9_wire.proofs.put_replies.version_message.Goals as goal

pub returns : goal.returns
returns c = headed 101 c.args.tag (6 + length c.args.version.now) _ _ _ c.in_ok-out.ensures.spelled c.in_ok-out.ensures.len (omega (
  arith,
  c.in_ok-out.ensures.len,
  c.in_ok-put_u32.ensures.len,
  c.in_ok-put_sized.ensures.len,
)) (behind _ _ _ _ _ c.in_ok-put_u32.ensures.put c.in_ok-put_sized.ensures.put)
