use Rattle.std.proofs.Common.{length}
use Rattle.r9_isol.specs.lone.LoneView.{world_of, IsLinkedWorld}
use Rattle.r9_isol.proofs.lone.Settled.{GoesOn}
use Rattle.r9_isol.proofs.lone.lone.Lone.settle.Given as goal

abbrev pub invariant-loop-reply : goal.invariant-loop-reply
invariant-loop-reply l = IsLinkedWorld (world_of l.self) × GoesOn (world_of l.fn.self) l.fn.replies.items (world_of l.self) l.replies.items

abbrev pub decreases-loop-reply : goal.decreases-loop-reply
decreases-loop-reply l = length l.self.session.waiting
