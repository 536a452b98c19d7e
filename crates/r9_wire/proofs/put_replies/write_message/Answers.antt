use Rattle.std.proofs.Common.{arith}
use Rattle.r9_wire.proofs.Heads.{headed}
use Rattle.r9_wire.proofs.put_replies.write_message.Goals as goal

pub returns : goal.returns
returns c = headed 119 c.args.tag 4 _ _ _ c.in_ok-out.ensures.spelled c.in_ok-out.ensures.len (omega (arith, c.in_ok-out.ensures.len, c.in_ok-put_u32.ensures.len)) c.in_ok-put_u32.ensures.put
