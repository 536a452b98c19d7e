use Rattle.std.proofs.Common.{◌≡◌, ◌++◌, ℕ, drop}
use Rattle.model_world.specs.Replay.{bytes_for}
use Rattle.r9_hall.specs.hall.Outboxes.{waiting}
use Rattle.r9_hall.proofs.hall.outboxes.keep_all.Given as goal

abbrev pub invariant-loop-reply : goal.invariant-loop-reply
invariant-loop-reply l = (c : ℕ) → waiting l.outboxes.entries c ++ bytes_for c (drop l.reply-index l.replies) ≡ waiting l.fn.outboxes.entries c ++ bytes_for c l.replies
