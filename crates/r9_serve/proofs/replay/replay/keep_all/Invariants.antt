use Rattle.std.proofs.Common.{◌≡◌, ◌++◌, drop}
use Rattle.r9_serve.proofs.replay.replay.keep_all.Given as goal

abbrev pub invariant-loop-reply : goal.invariant-loop-reply
invariant-loop-reply l = l.log ++ drop l.reply-index l.replies ≡ l.fn.log ++ l.replies
