use Rattle.std.proofs.Common.{◌==◌, ◌∙◌, arith}
use Rattle.model_draw_parts.specs.declared.images.ScreenId.{ScreenId}
use Rattle.model_draw_parts.specs.images.Release.{is_screen_id}
use Rattle.r9_images.proofs.uses.Counts.{count-found, count-taken_screen, same-number}
use Rattle.r9_images.proofs.uses.Parts.{le-refl, le-same, room-kept}
use Rattle.r9_images.proofs.uses.uses.Uses.take_screen_id.Goals as goal

pub take-requires : goal.take-requires
take-requires c =
    let e = c.args.e in
    let some = count-found (is_screen_id e.client e.id) (λ (x : ScreenId). x.screen == e.screen) e c.args.self.now.screen_ids.ids c.requires (same-number e.screen) in
    omega (arith, some, c.args.self.now.screens_counted e.screen)

pub invariant_of-self-clause-screens_counted : goal.invariant_of-self-clause-screens_counted
invariant_of-self-clause-screens_counted c = λ s.
    omega (
      arith,
      c.take.ensures.counts s,
      c.args.self.now.screens_counted s,
      count-taken_screen (λ (e : ScreenId). e.screen == s) c.args.e c.args.self.now.screen_ids.ids c.remove.new.self.ids c.requires c.remove.ensures.back,
    )

pub invariant_of-self-clause-screens_gone : goal.invariant_of-self-clause-screens_gone
invariant_of-self-clause-screens_gone c = λ s. c.take.ensures.gone s ∙ c.args.self.now.screens_gone s

pub returns-clause-more : goal.returns-clause-more
returns-clause-more c =
    room-kept c.args.self.now _ (le-refl _) c.remove.ensures.room (le-refl _) (le-refl _) (le-refl _) (le-refl _) (le-same _ _ c.take.ensures.room)
