use Rattle.std.proofs.Common.{◌+◌, length, ap, arith}
use Rattle.std.proofs.lemmas.List.{length-append}
use Rattle.r9_wire.proofs.Heads.{headed, behind}
use Rattle.r9_wire.proofs.put_replies.read_message.Goals as goal

pub returns : goal.returns
returns c = headed 117 c.args.tag (4 + length c.args.bytes.now) _ _ _ c.in_ok-out.ensures.spelled c.in_ok-out.ensures.len (omega (
  arith,
  c.in_ok-out.ensures.len,
  c.in_ok-put_u32.ensures.len,
  ap length c.in_ok-push_all.ensures.ok,
  length-append c.put_u32.new.out c.args.bytes.now,
)) (behind _ _ _ _ _ c.in_ok-put_u32.ensures.put c.in_ok-push_all.ensures.ok)
