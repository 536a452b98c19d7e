use Rattle.std.proofs.Common.{◌+◌, refl, drop, ◌∙◌, arith}
use Rattle.std.proofs.lemmas.List.{drop_more}
use Rattle.std.proofs.Math.ListN.{drop_of_length-le}
use Rattle.r9_desktop.specs.World.{desktop_of}
use Rattle.r9_hall.specs.hall.StateView.{world_with}
use Rattle.r9_hall.proofs.hall.Waits.{ask_next, asked_all, below_first, ends, goes_then}
use Rattle.r9_hall.proofs.hall.sessions.Sessions.settle.Goals as goal

pub loop-session-init : goal.loop-session-init
loop-session-init c = (c.requires.linked, c.requires.asked, λ opening. record { world_is = refl; replies_are = refl }, refl)

pub settle_one-requires-clause-below : goal.settle_one-requires-clause-below
settle_one-requires-clause-below c =
    let items = c.args.asked.now in
    below_first c.loop-session.self.live.entries (desktop_of c.loop-session.self.desktop) _ (drop (c.loop-session.session-index + 1) items) (drop c.loop-session.session-index items)
    c.loop-session.invariant.1 (drop_more items c.loop-session.session-index 0 c.loop-session-test.true)

pub loop-session-preserved : goal.loop-session-preserved
loop-session-preserved c =
    let items = c.args.asked.now in
    let before = c.loop-session.self in
    let after = c.settle_one.new.self in
    let made = c.in_ok-settle_one.ensures in (
      made.linked,
      ask_next before.live.entries after.live.entries (desktop_of before.desktop) (desktop_of after.desktop) _ (drop (c.loop-session.session-index + 1) items) (drop c.loop-session.session-index items)
          c.loop-session.invariant.1 (drop_more items c.loop-session.session-index 0 c.loop-session-test.true) made.waits made.others,
      λ opening. goes_then (world_with opening c.args.self.now) (world_with opening before) (world_with opening after) c.args.replies.now c.loop-session.replies c.settle_one.new.replies
          (c.loop-session.invariant.2 opening) (made.replies opening),
      c.settle_one.ensures.began ∙ c.loop-session.invariant.3,
    )

pub returns-clause-settled : goal.returns-clause-settled
returns-clause-settled c = λ opening.
    let world = world_with opening c.loop-session.self in
    ends (world_with opening c.args.self.now) world world c.args.replies.now c.loop-session.replies (c.loop-session.invariant.2 opening)
    (asked_all world (drop c.loop-session.session-index c.args.asked.now) c.loop-session.invariant.0.ascending c.loop-session.invariant.1
    (drop_of_length-le c.args.asked.now (omega (arith, c.loop-session-test.false))))
    refl
