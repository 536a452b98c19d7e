use Rattle.std.proofs.Common.{◌≡◌, ◌≤◌, true, false, IfSome, IsSome, refl, sym, ap, subst, ◌∙◌}
use Rattle.model_alone.specs.alone.Uses.{event_used}
use Rattle.model_world.specs.Cut.{IsCutEvent, IsWantingEvent}
use Rattle.model_world.specs.Links.{IsNext, begun_after}
use Rattle.model_world.specs.Replay.{marked, step}
use Rattle.r9_desktop.specs.Marks.{IsMarked}
use Rattle.r9_desktop.specs.World.{display_of}
use Rattle.r9_hall.specs.hall.StateView.{world_with}
use Rattle.r9_hall.specs.hall.WorldView.{WorldValue, display_in, world_in}
use Rattle.r9_hall.proofs.hall.Worlds.{turn_begun, turn_known, turn_linked, turn_quiet}
use Rattle.r9_hall.proofs.hall.world.World.make.Goals as goal

pub step-requires-clause-linked : goal.step-requires-clause-linked
step-requires-clause-linked c =
    let whole : c.self.inside.broken ≡ false = ap (λ (w : WorldValue). w.broken) c.self.view_is ∙ c.requires.going in
    c.self.invariant.linked whole

pub step-requires-clause-quiet : goal.step-requires-clause-quiet
step-requires-clause-quiet c =
    let whole : c.self.inside.broken ≡ false = ap (λ (w : WorldValue). w.broken) c.self.view_is ∙ c.requires.going in
    c.self.invariant.quiet whole

pub invariant_of-self-2 : goal.invariant_of-self-2
invariant_of-self-2 c =
    let whole : c.self.inside.broken ≡ false = ap (λ (w : WorldValue). w.broken) c.self.view_is ∙ c.requires.going in
    let next : IsNext c.self.inside.begun c.args.event.now = subst (λ (w : WorldValue). IsNext w.begun c.args.event.now) (sym c.self.view_is) c.requires.next in
    let linked = c.self.invariant.linked whole in
    let known = c.self.invariant.known whole in
    let turn = c.in_ok-stepped.ensures.turn c.self.inside.opening in
    record {
      linked = λ _. turn_linked c.self.inside.opening c.self.inside.sessions c.step.new.self c.self.inside.begun c.args.event.now c.in_ok-stepped.stepped.did.short _ next linked known turn;
      known = λ _. turn_known c.self.inside.opening c.self.inside.sessions c.step.new.self c.self.inside.begun c.begun_after-self-inside.result c.args.event.now c.in_ok-stepped.stepped.did.short _ next linked known c.begun_after-self-inside.ensures turn;
      quiet = λ _. turn_quiet c.self.inside.opening c.self.inside.sessions c.step.new.self _ _ linked (c.self.invariant.quiet whole) turn;
    }

pub returns : goal.returns
returns c =
    let opening = c.self.inside.opening in
    let event = marked c.args.event.now c.in_ok-stepped.stepped.did.short in
    let turn = c.in_ok-stepped.ensures.turn opening in
    record {
      opening = ap (λ (w : WorldValue). w.opening) c.self.view_is;
      world = record {
        world = sym turn.world ∙ ap (λ (w : WorldValue). (step (world_in w) event).world) c.self.view_is;
        begun = turn_begun _ _ c.args.event.now c.in_ok-stepped.stepped.did.short (c.begun_after-self-inside.ensures ∙ ap (λ (w : WorldValue). begun_after w.begun c.args.event.now) c.self.view_is);
        going = refl;
      };
      replies = sym turn.replies_are ∙ ap (λ (w : WorldValue). (step (world_in w) event).replies) c.self.view_is;
      notes = sym turn.notes_are ∙ ap (λ (w : WorldValue). (step (world_in w) event).notes) c.self.view_is;
      watches = ap (λ (w : WorldValue). w.watches) c.self.view_is;
      uses = λ watches. c.in_ok-stepped.ensures.uses (ap (λ (w : WorldValue). w.watches) c.self.view_is ∙ watches) opening
          ∙ (λ i. event_used (world_with opening c.self.inside.sessions) (sym turn.world i) event)
          ∙ ap (λ (w : WorldValue). event_used (world_in w) (step (world_in w) event).world event) c.self.view_is;
      closed = sym turn.closed_is ∙ ap (λ (w : WorldValue). (step (world_in w) event).closed) c.self.view_is;
      short = subst (λ (w : WorldValue). IfSome c.in_ok-stepped.stepped.did.short (λ k. IsCutEvent (world_in w) c.args.event.now k)) c.self.view_is (c.in_ok-stepped.ensures.short opening);
      told = subst (λ (w : WorldValue). IsWantingEvent (world_in w) event → IsSome c.in_ok-stepped.stepped.did.short) c.self.view_is (c.in_ok-stepped.ensures.told opening);
      marks = subst (λ (w : WorldValue). (display_in w).nowhere ≡ true → IsMarked (display_in w) (display_of c.step.new.self.desktop) c.in_ok-stepped.stepped.pixels) c.self.view_is c.in_ok-stepped.ensures.marks;
      pixels = subst (λ (w : WorldValue). c.in_ok-stepped.stepped.pixels ≤ (step (world_in w) event).cost) c.self.view_is (c.in_ok-stepped.ensures.pixels opening);
    }
