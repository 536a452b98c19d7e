use Rattle.std.proofs.Common.{◌∙◌, ◌-◌, ◌+◌, ◌≤◌, sym, subst, arith}
use Rattle.law_devices.specs.sides.Display.{HasDisplay}
use Rattle.model_world.specs.Replay.{step}
use Rattle.model_world.specs.World.{World}
use Rattle.model_mirror.specs.Shown.{mirrored}
use Rattle.r9_hall.specs.hall.WorldView.{display_in, world_in}
use Rattle.r9_serve.specs.mirroring.View.{IsPaid, IsSent}
use Rattle.r9_serve.proofs.mirroring.Entries.{AreSeen, cleared_unmarked, sent_is, size_is, stands_nowhere}
use Rattle.r9_serve.proofs.mirroring.mirror.next_entry.Goals as goal

pub returns-clause-world : goal.returns-clause-world
returns-clause-world g c =
    let goes = c.in_ok-make_event.ensures.world in
    let cleared = c.clear_marks.ensures in
    record { world = cleared.world ∙ goes.world; begun = cleared.begun ∙ goes.begun; going = cleared.broken ∙ goes.going }

pub returns-clause-unmarked : goal.returns-clause-unmarked
returns-clause-unmarked g c = cleared_unmarked _ _ c.clear_marks.ensures.cleared

pub entry_text-requires : goal.entry_text-requires
entry_text-requires g c = record { display = subst (λ (v : World). HasDisplay c.args.chan v.desktop.device) (sym c.in_ok-make_event.ensures.world.world) c.requires.after }

pub returns-clause-sent : goal.returns-clause-sent
returns-clause-sent g c =
    let goes = c.in_ok-make_event.ensures.world in
    let event = c.args.event in
    let old = c.args.world.now in
    let mid = c.make_event.new.world in
    let w = world_in old in
    let v = world_in mid in
    let cost = (step w event).cost in
    let after : HasDisplay c.args.chan v.desktop.device = subst (λ (u : World). HasDisplay c.args.chan u.desktop.device) (sym goes.world) c.requires.after in
    let nowhere = stands_nowhere c.args.chan w.desktop.device (display_in old) c.requires.before c.sound.ensures.shows in
    let pixels = c.make_event.new.pixels - c.args.pixels.now in
    let seen : AreSeen c.args.chan pixels w v (display_in old) (display_in mid) = record {
      before = c.requires.before;
      after = after;
      old_forest = c.sound.ensures.forest;
      new_forest = c.sound-2.ensures.forest;
      then_is = c.sound.ensures.shows;
      now_is = c.sound-2.ensures.shows;
      sound = c.sound-2.ensures.sound (stands_nowhere c.args.chan v.desktop.device (display_in mid) after c.sound-2.ensures.shows);
      unmarked = c.requires.unmarked;
      marked = c.in_ok-make_event.ensures.marks nowhere;
    } in
    let spent : pixels ≤ cost = omega (arith, c.in_ok-make_event.ensures.pixels) in
    let paid : IsPaid (mirrored w) (mirrored v) cost = subst (λ (u : World). IsPaid (mirrored w) (mirrored u) cost) (sym goes.world) c.requires.paid in
    subst (λ (u : World). IsSent c.args.chan c.args.number (cost + 8) (mirrored w) (mirrored u) c.in_ok-text.text) goes.world
    (sent_is c.args.chan pixels w v (display_in old) (display_in mid) seen c.few_cells_meet_the_cursor.ensures.few c.args.number cost _ _ _ c.in_ok-text.text
    (size_is _ _ _ w v c.is_resized.ensures (c.display-before.ensures.r ∙ c.sound.ensures.shows.r) (c.display.ensures.r ∙ c.sound-2.ensures.shows.r)) c.pointer-old.ensures.pointer c.pointer.ensures.pointer paid spent c.in_ok-text.ensures)
