use Rattle.r9_wire.proofs.Heads.{bare}
use Rattle.r9_wire.proofs.put_replies.bare_message.Goals as goal

pub returns : goal.returns
returns c = bare c.args.kind c.args.tag c.head.result c.head.ensures.spelled
