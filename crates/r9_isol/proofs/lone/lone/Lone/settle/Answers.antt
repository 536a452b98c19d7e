use Rattle.std.proofs.Common.{refl, arith}
use Rattle.r9_isol.specs.lone.LoneView.{world_of}
use Rattle.r9_isol.proofs.lone.Settled.{ends, goes_on, one_less}
use Rattle.r9_isol.proofs.lone.lone.Lone.settle.Goals as goal

pub loop-reply-init : goal.loop-reply-init
loop-reply-init c = (c.requires.linked, record { world_is = refl; replies_are = refl })

pub loop-reply-smaller : goal.loop-reply-smaller
loop-reply-smaller c =
    let less = one_less (world_of c.loop-reply.self) (world_of c.answer_late.new.self) c.in_ok-reply.field-0 c.in-Some.reply c.in_ok-reply.ensures.given c.in-Some.is in
    omega (arith, less)

pub loop-reply-preserved : goal.loop-reply-preserved
loop-reply-preserved c = (
  c.in_ok-reply.ensures.linked,
  goes_on (world_of c.args.self.now) (world_of c.loop-reply.self) (world_of c.answer_late.new.self) c.args.replies.now.items c.loop-reply.replies.items c.push.new.self.items c.in_ok-reply.field-0 c.in-Some.reply
      c.loop-reply.invariant.1 c.in_ok-reply.ensures.given c.in-Some.is c.in_ok-push.ensures.items,
)

pub returns : goal.returns
returns c =
    let all = ends (world_of c.args.self.now) (world_of c.loop-reply.self) (world_of c.answer_late.new.self) c.args.replies.now.items c.loop-reply.replies.items c.in_ok-reply.field-0
    c.loop-reply.invariant.1 c.in_ok-reply.ensures.given c.in_default.is in
    record {
      world = all.0;
      replies = all.1;
      linked = c.in_ok-reply.ensures.linked;
    }
