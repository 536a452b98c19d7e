use Rattle.std.proofs.Common.{◌≡◌, ◌+◌, ◌-◌, ◌<◌, ◌≤◌, ◌^◌, ℕ, true, false, arith, length-append, List, [], ◌∷◌, ◌++◌, length, IfSome, IsSome, refl, sym, ap, subst, ◌∙◌}
use Rattle.r9_event.specs.declared.event.event.Event.{Event}
use Rattle.r9_event.specs.declared.event.event.Entry.{Entry}
use Rattle.r9_event.specs.declared.event.event.Reply.{Reply}
use Rattle.model_history.specs.event.Legal.{Allowed, Roll, roll_after}
use Rattle.model_alone.specs.alone.Uses.{event_used}
use Rattle.model_world.specs.Cut.{IsCutEvent, IsWantingEvent}
use Rattle.model_world.specs.Replay.{marked, replay, step, waiting_after}
use Rattle.model_world.specs.World.{World}
use Rattle.model_world.proofs.Marks.{marked_allowed}
use Rattle.r9_desktop.specs.Marks.{IsMarked}
use Rattle.r9_hall.specs.hall.Acts.{IsMadeOf}
use Rattle.r9_hall.specs.hall.HallView.{AllowedNext, HallValue, OfHistories, entries, value_of}
use Rattle.r9_hall.specs.hall.Outboxes.{taken, waiting}
use Rattle.r9_hall.specs.hall.WorldView.{display_in, world_in}
use Rattle.r9_hall.proofs.hall.Displays.{marked_in}
use Rattle.r9_hall.proofs.hall.Halls.{HasTurned, begun_more, not_broken, of_histories, stands_more, stop_made, unbroken}
use Rattle.r9_hall.proofs.hall.Posts.{waiting_marked}
use Rattle.r9_hall.proofs.hall.Worlds.{marks_same}
use Rattle.r9_hall.proofs.hall.hall.Hall.make.Goals as goal

pub returns-in-Stop-clause-made : goal.returns-in-Stop-clause-made
returns-in-Stop-clause-made g c =
    let allowed : AllowedNext (value_of c.self.inside) c.args.event = subst (λ (h : HallValue). AllowedNext h c.args.event) (sym c.self.view_is) c.requires.can in
    let after : HallValue = record (value_of c.self.inside) { stored = c.enter.new.stored.items; roll = c.enter.new.roll } in
    subst (λ (h : HallValue). IsMadeOf h c.args.event c.nothing.result.did after) c.self.view_is
    (stop_made (value_of c.self.inside) after c.args.event c.nothing.result.did c.in-Stop.is c.nothing.ensures.did allowed refl refl c.in_ok-enter.ensures.stored c.in_ok-enter.ensures.roll refl refl refl)

pub returns-in-Stop-clause-marks : goal.returns-in-Stop-clause-marks
returns-in-Stop-clause-marks g c = λ _ _ _.
    subst (λ (h : HallValue). IsMarked (display_in h.world) (display_in c.self.inside.world) (c.args.pixels.now - c.args.pixels.now)) c.self.view_is (marks_same (display_in c.self.inside.world) _)

pub invariant_of-self-2 : goal.invariant_of-self-2
invariant_of-self-2 g c =
    let before = c.self.invariant in
    let after = c.in_ok-enter-2.ensures in
    let event = marked c.args.event c.in_ok-stepped.stepped.did.short in
    let whole : c.self.inside.broken ≡ false =
    not_broken c.self.inside.broken c.args.event (λ broken. c.requires.can.1 (ap (λ (h : HallValue). h.broken) (sym c.self.view_is) ∙ broken)) c.in_default.not-Stop in
    let room : entries (value_of c.self.inside) < 2 ^ 61 = subst (λ (h : HallValue). entries h < 2 ^ 61) (sym c.self.view_is) c.requires.room in
    let rolled : c.enter-2.new.roll ≡ roll_after c.self.inside.roll event = after.roll ∙ ap (λ (e : Event). roll_after c.self.inside.roll e) c.marked-event.ensures in
    let longer : length c.enter-2.new.stored.items ≡ length c.self.inside.stored.items + 1 =
    ap length after.stored ∙ length-append c.reserve.new.self.items _ ∙ ap (λ (items : List Entry). length items + 1) c.in_ok-reserve.ensures.items in
    record {
      from = before.from;
      few = omega (arith, room, longer, before.from);
      spare = λ going. omega (arith, c.in_ok-reserve.ensures.ok, c.in_ok-reserve.ensures.len, after.len, after.capacity);
      going = λ _. c.in_ok-stepped.ensures.world.going;
      begun = λ _. c.in_ok-stepped.ensures.world.begun ∙ begun_more c.self.inside.world.begun c.self.inside.roll event (before.begun whole) ∙ ap (λ (r : Roll). r.begun) (sym rolled);
    }

pub returns : goal.returns
returns g c =
    let before = value_of c.self.inside in
    let did = c.in_ok-stepped.stepped.did in
    let event = marked c.args.event did.short in
    let whole : c.self.inside.broken ≡ false =
    not_broken c.self.inside.broken c.args.event (λ broken. c.requires.can.1 (ap (λ (h : HallValue). h.broken) (sym c.self.view_is) ∙ broken)) c.in_default.not-Stop in
    let allowed : Allowed before.roll event =
    marked_allowed (world_in before.world) before.roll c.args.event did.short (subst (λ (h : HallValue). AllowedNext h c.args.event) (sym c.self.view_is) c.requires.can).0 c.in_ok-stepped.ensures.short in
    let after : HallValue = record {
      opening = c.make.new.self.opening;
      first = c.self.inside.first;
      stored = c.enter-2.new.stored.items;
      roll = c.enter-2.new.roll;
      world = c.make.new.self;
      outboxes = c.post.new.outboxes.entries;
      broken = false;
    } in
    let entry : ℕ → Event → Entry = λ n e. record { number = n; event = e } in
    let turned : HasTurned before event after = record {
      opening = c.make.ensures.opening;
      first = refl;
      stored = c.in_ok-enter-2.ensures.stored
          ∙ (λ i. let items = c.in_ok-reserve.ensures.items i in items ++ entry (before.first + length items) (c.marked-event.ensures i) ∷ []);
      roll = c.in_ok-enter-2.ensures.roll ∙ ap (λ (e : Event). roll_after before.roll e) c.marked-event.ensures;
      allowed = allowed;
      whole = λ _. whole;
      world = λ _ _. c.in_ok-stepped.ensures.world.world;
      outboxes = λ _ other. c.in_ok-taken.ensures.left other
          ∙ ap (λ (replies : List Reply). waiting_after other (waiting before.outboxes other) c.args.event replies) (c.as_slice.ensures ∙ c.in_ok-stepped.ensures.replies)
          ∙ sym (waiting_marked other (waiting before.outboxes other) c.args.event did.short (step (world_in before.world) event).replies);
    } in
    let made : IsMadeOf before c.args.event did after = record {
      entered = stands_more before after event turned;
      allowed = (allowed, λ broken. unbroken c.self.inside.broken whole broken);
      replies = of_histories before (λ (w : World). did.replies ≡ (step w event).replies) c.in_ok-stepped.ensures.replies;
      notes = of_histories before (λ (w : World). did.notes ≡ (step w event).notes) c.in_ok-stepped.ensures.notes;
      uses = λ watches. of_histories before (λ (w : World). did.uses ≡ event_used w (step w event).world event) (c.in_ok-stepped.ensures.uses watches);
      closed = of_histories before (λ (w : World). did.closed ≡ (step w event).closed) c.in_ok-stepped.ensures.closed;
      short = of_histories before (λ (w : World). IfSome did.short (λ k. IsCutEvent w c.args.event k)) c.in_ok-stepped.ensures.short;
      told = of_histories before (λ (w : World). IsWantingEvent w event → IsSome did.short) c.in_ok-stepped.ensures.told;
    } in
    record {
      opening = c.make.ensures.opening ∙ ap (λ (h : HallValue). h.opening) c.self.view_is;
      first = ap (λ (h : HallValue). h.first) c.self.view_is;
      made = subst (λ (h : HallValue). IsMadeOf h c.args.event did after) c.self.view_is made;
      taken = c.in_ok-taken.ensures.taken ∙ ap (λ (h : HallValue). taken h.outboxes c.args.event) c.self.view_is;
      whole = sym whole ∙ ap (λ (h : HallValue). h.broken) c.self.view_is;
      watches = c.make.ensures.watches ∙ ap (λ (h : HallValue). h.world.watches) c.self.view_is;
      stop = λ is. absurd (c.in_default.not-Stop is);
      stopped = λ is. absurd (c.in_default.not-Stop is);
      err = tt;
      pixels = subst (λ (h : HallValue). OfHistories h (λ events. c.add.new.self ≤ c.args.pixels.now + (step (replay h.opening events) event).cost)) c.self.view_is
          (of_histories before (λ (w : World). c.add.new.self ≤ c.args.pixels.now + (step w event).cost) (omega (arith, c.add.ensures, c.in_ok-stepped.ensures.pixels)));
      marks = subst (λ (h : HallValue). OfHistories h (λ _. IsMarked (display_in h.world) (display_in c.make.new.self) (c.add.new.self - c.args.pixels.now))) c.self.view_is
          (marked_in before (display_in c.make.new.self) c.in_ok-stepped.stepped.pixels c.args.pixels.now c.add.new.self c.sound.ensures.shows c.each_history_has_a_display.ensures.nowhere c.add.ensures c.in_ok-stepped.ensures.marks);
      uncounted = tt;
      silent = λ is. absurd (c.in_default.not-Stop is);
    }
