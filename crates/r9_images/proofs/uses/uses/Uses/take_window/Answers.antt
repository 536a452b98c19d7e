use Rattle.std.proofs.Common.{arith, refl, sym, ap, ◌∙◌}
use Rattle.std.specs.Option.{option_map}
use Rattle.model_draw_parts.specs.declared.images.OnScreen.{OnScreen}
use Rattle.r9_images.proofs.uses.Counts.{is-counted}
use Rattle.r9_images.proofs.uses.Parts.{le-refl, le-same, room-kept}
use Rattle.r9_images.proofs.uses.uses.Uses.take_window.Goals as goal

pub take-requires-in-Some : goal.take-requires-in-Some
take-requires-in-Some c =
    let w = c.in-Some.window in
    let some = is-counted w.screen _ _ (c.in-Some.ensures.counts w.screen) in
    omega (arith, some, c.args.self.now.screens_counted w.screen)

pub invariant_of-self-in-None-clause-screens_counted : goal.invariant_of-self-in-None-clause-screens_counted
invariant_of-self-in-None-clause-screens_counted c = λ s. rw (c.in-None.ensures.kept refl) (c.args.self.now.screens_counted s)

pub returns-in-Some-clause-more : goal.returns-in-Some-clause-more
returns-in-Some-clause-more c =
    room-kept c.args.self.now _ (le-refl _) (le-refl _) (le-refl _) c.take.ensures.room (le-refl _) (le-refl _) (le-same _ _ c.take-in-Some.ensures.room)

pub returns-in-None-clause-more : goal.returns-in-None-clause-more
returns-in-None-clause-more c =
    room-kept c.args.self.now _ (le-refl _) (le-refl _) (le-refl _) c.take.ensures.room (le-refl _) (le-refl _) (le-refl _)

pub returns-in-Some-clause-screen : goal.returns-in-Some-clause-screen
returns-in-Some-clause-screen c = ap (option_map (λ (w : OnScreen). w.screen)) (sym c.in-Some.is ∙ c.take.ensures.found)

pub returns-in-None-clause-screen : goal.returns-in-None-clause-screen
returns-in-None-clause-screen c = ap (option_map (λ (w : OnScreen). w.screen)) (sym c.in-None.is ∙ c.take.ensures.found)
