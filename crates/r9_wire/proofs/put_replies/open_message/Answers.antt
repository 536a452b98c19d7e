use Rattle.std.proofs.Common.{arith}
use Rattle.r9_wire.proofs.Heads.{headed, behind}
use Rattle.r9_wire.proofs.put_replies.open_message.Goals as goal

pub returns : goal.returns
returns c = headed 113 c.args.tag 17 _ _ _ c.in_ok-out.ensures.spelled c.in_ok-out.ensures.len (omega (
  arith,
  c.in_ok-out.ensures.len,
  c.in_ok-put_qid.ensures.len,
  c.in_ok-put_u32.ensures.len,
)) (behind _ _ _ _ _ c.in_ok-put_qid.ensures.put c.in_ok-put_u32.ensures.put)
