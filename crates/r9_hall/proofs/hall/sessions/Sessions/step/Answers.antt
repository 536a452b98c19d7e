use Rattle.std.proofs.Common.{◌≡◌, ℕ, true, IfSome, IsSome, refl, sym, ap, subst, ◌∙◌}
use Rattle.model_alone.specs.alone.Uses.{event_used}
use Rattle.model_world.specs.Cut.{IsCutEvent, IsWantingEvent}
use Rattle.model_world.specs.Desktop.{Desktop}
use Rattle.model_world.specs.Links.{AreLinked}
use Rattle.model_world.specs.Replay.{marked}
use Rattle.model_world.specs.World.{World}
use Rattle.r9_desktop.specs.Marks.{Display, IsMarked}
use Rattle.r9_desktop.specs.World.{display_of}
use Rattle.r9_hall.specs.hall.Settling.{WaitsAt}
use Rattle.r9_hall.specs.hall.StateView.{world_with}
use Rattle.r9_hall.specs.declared.hall.sessions.Sessions.{Sessions}
use Rattle.r9_hall.proofs.hall.States.{begun_made, begun_world, turn_cost, turn_of}
use Rattle.r9_hall.proofs.hall.Watched.{turn_used}
use Rattle.r9_hall.proofs.hall.sessions.Sessions.step.Goals as goal

pub make-requires-clause-linked : goal.make-requires-clause-linked
make-requires-clause-linked c = subst (λ (d : Desktop). AreLinked d.device c.args.self.now.live.entries) (sym c.begin_turn.ensures.same) c.requires.linked

pub make-requires-clause-quiet : goal.make-requires-clause-quiet
make-requires-clause-quiet c = subst (λ (d : Desktop). (n : ℕ) → WaitsAt c.args.self.now.live.entries d n) (sym c.begin_turn.ensures.same) c.requires.quiet

pub returns-clause-turn : goal.returns-clause-turn
returns-clause-turn c = λ opening.
    let begun : Sessions = record c.args.self.now { desktop = c.begin_turn.new.self } in
    let event = marked c.args.event.now c.in_ok-made.made.short in
    turn_of opening c.args.self.now c.make.new.self _ event c.in_ok-made.made _
    (begun_made opening c.args.self.now begun c.make.new.self event c.in_ok-made.made c.begin_turn.ensures.same refl (c.in_ok-made.ensures.made opening)) refl refl
    c.take_turn-turn.ensures.taken c.take_turn-turn.ensures.left refl

pub returns-clause-short : goal.returns-clause-short
returns-clause-short c = λ opening.
    let begun : Sessions = record c.args.self.now { desktop = c.begin_turn.new.self } in
    subst (λ (w : World). IfSome c.in_ok-made.made.short (λ k. IsCutEvent w c.args.event.now k)) (begun_world opening c.args.self.now begun c.begin_turn.ensures.same refl) (c.in_ok-made.ensures.short opening)

pub returns-clause-told : goal.returns-clause-told
returns-clause-told c = λ opening.
    let begun : Sessions = record c.args.self.now { desktop = c.begin_turn.new.self } in
    subst (λ (w : World). IsWantingEvent w (marked c.args.event.now c.in_ok-made.made.short) → IsSome c.in_ok-made.made.short) (begun_world opening c.args.self.now begun c.begin_turn.ensures.same refl)
    (c.in_ok-made.ensures.told opening)

pub returns-clause-uses : goal.returns-clause-uses
returns-clause-uses c = λ watches opening.
    let begun : Sessions = record c.args.self.now { desktop = c.begin_turn.new.self } in
    let event = marked c.args.event.now c.in_ok-made.made.short in
    turn_used opening c.args.self.now c.make.new.self (record c.make.new.self { desktop = c.take_turn-turn.new.self }) event c.in_ok-made.made.uses c.in_ok-made.made.uses refl
    (c.in_ok-made.ensures.uses watches opening ∙ ap (λ (w : World). event_used w (world_with opening c.make.new.self) event) (begun_world opening c.args.self.now begun c.begin_turn.ensures.same refl))
    c.take_turn-turn.ensures.left refl

pub returns-clause-pixels : goal.returns-clause-pixels
returns-clause-pixels c = λ opening.
    let begun : Sessions = record c.args.self.now { desktop = c.begin_turn.new.self } in
    let event = marked c.args.event.now c.in_ok-made.made.short in
    turn_cost opening c.args.self.now c.make.new.self event c.in_ok-made.made _
    (begun_made opening c.args.self.now begun c.make.new.self event c.in_ok-made.made c.begin_turn.ensures.same refl (c.in_ok-made.ensures.made opening)) c.take_turn-turn.ensures.pixels

pub returns-clause-marks : goal.returns-clause-marks
returns-clause-marks c = λ nowhere.
    let pixels : ℕ = c.take_turn-turn.result.pixels in
    subst (λ (d : Display). IsMarked (display_of c.args.self.now.desktop) d pixels) (sym c.take_turn-turn.ensures.display)
    (subst (λ (d : Display). d.nowhere ≡ true → IsMarked d (display_of c.make.new.self.desktop) pixels) (c.make.ensures.began ∙ c.begin_turn.ensures.began) c.take_turn-turn.ensures.marks nowhere)
