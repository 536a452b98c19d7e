use Rattle.std.proofs.Common.{◌≡◌, Option, Some, None, ◌∷◌, [], List, sym, subst, ◌∙◌, arith}
use Rattle.r9_event.specs.declared.event.event.Opening.{Opening}
use Rattle.r9_event.specs.declared.event.event.Reply.{Reply}
use Rattle.model_world.specs.Links.{AreLinked}
use Rattle.model_world.specs.Replay.{first_answered}
use Rattle.model_world.specs.World.{World}
use Rattle.r9_hall.specs.hall.Settling.{answered_at, GoesOn, IsNext, WaitsAt}
use Rattle.r9_hall.specs.hall.StateView.{world_with}
use Rattle.r9_hall.proofs.hall.Waits.{any_opening, goes_on, less, linked_next, next_first, next_waits, waits_at}
use Rattle.r9_hall.proofs.hall.sessions.Sessions.settle_one.Goals as goal

pub loop-reply-smaller : goal.loop-reply-smaller
loop-reply-smaller c =
    let before = world_with any_opening c.loop-reply.self in
    let after : World = world_with any_opening (record { live = c.answer_at.new.sessions; desktop = c.answer_at.new.desktop }) in
    let at : answered_at before c.args.session ≡ Some (after, c.in-Some.reply ∷ []) =
    subst (λ (o : Option Reply). IsNext (answered_at before c.args.session) before o after) c.in-Some.is (c.in_ok-reply.ensures.next any_opening) in
    let next = next_first before c.args.session (after, c.in-Some.reply ∷ []) c.loop-reply.invariant.0.ascending (λ d below. c.loop-reply.invariant.1 d (c.requires.below d below)) at in
    omega (arith, less before after (c.in-Some.reply ∷ []) c.loop-reply.invariant.0.ascending next)

pub loop-reply-preserved : goal.loop-reply-preserved
loop-reply-preserved c =
    let before : Opening → World = λ opening. world_with opening c.loop-reply.self in
    let after : Opening → World = λ opening. world_with opening (record { live = c.answer_at.new.sessions; desktop = c.answer_at.new.desktop }) in
    let at : (opening : Opening) → answered_at (before opening) c.args.session ≡ Some (after opening, c.in-Some.reply ∷ []) =
    λ opening. subst (λ (o : Option Reply). IsNext (answered_at (before opening) c.args.session) (before opening) o (after opening)) c.in-Some.is (c.in_ok-reply.ensures.next opening) in
    let next : (opening : Opening) → first_answered (before opening) c.loop-reply.self.live.entries ≡ Some (after opening, c.in-Some.reply ∷ []) =
    λ opening. next_first (before opening) c.args.session (after opening, c.in-Some.reply ∷ []) c.loop-reply.invariant.0.ascending (λ d below. c.loop-reply.invariant.1 d (c.requires.below d below)) (at opening) in (
      linked_next (before any_opening) (after any_opening) c.in-Some.reply c.loop-reply.invariant.0 (next any_opening),
      λ d waits. next_waits (before any_opening) c.args.session (after any_opening, c.in-Some.reply ∷ []) d (at any_opening) (c.loop-reply.invariant.1 d waits),
      λ opening. subst (λ (replies : List Reply). GoesOn (world_with opening c.args.self.now) c.args.replies.now (after opening) replies) (sym c.in_ok-push.ensures.ok)
          (goes_on (world_with opening c.args.self.now) (before opening) (after opening) c.args.replies.now c.loop-reply.replies c.in-Some.reply c.loop-reply.invariant.0.ascending (c.loop-reply.invariant.2 opening) (next opening)),
      c.answer_at.ensures.began ∙ c.loop-reply.invariant.3,
    )

pub returns : goal.returns
returns c =
    let before : Opening → World = λ opening. world_with opening c.loop-reply.self in
    let after : Opening → World = λ opening. world_with opening (record { live = c.answer_at.new.sessions; desktop = c.answer_at.new.desktop }) in
    let none : (opening : Opening) → IsNext (answered_at (before opening) c.args.session) (before opening) None (after opening) =
    λ opening. subst (λ (o : Option Reply). IsNext (answered_at (before opening) c.args.session) (before opening) o (after opening)) c.in_default.is (c.in_ok-reply.ensures.next opening) in
    let back = sym (none any_opening).1 in
    record {
      linked = subst (λ (w : World). AreLinked w.desktop.device w.sessions) back c.loop-reply.invariant.0;
      waits = subst (λ (w : World). WaitsAt w.sessions w.desktop c.args.session) back (waits_at (before any_opening) c.args.session (none any_opening).0);
      others = λ d waits. subst (λ (w : World). WaitsAt w.sessions w.desktop d) back (c.loop-reply.invariant.1 d waits);
      began = c.answer_at.ensures.began ∙ c.loop-reply.invariant.3;
      replies = λ opening. subst (λ (w : World). GoesOn (world_with opening c.args.self.now) c.args.replies.now w c.loop-reply.replies) (sym (none opening).1) (c.loop-reply.invariant.2 opening);
    }
