use Rattle.std.proofs.Common.{refl, sym, ◌∙◌, arith}
use Rattle.model_draw_parts.specs.images.Book.{is_on}
use Rattle.r9_images.specs.uses.Counts.{is_filled_by}
use Rattle.r9_images.proofs.uses.Counts.{count-emptied}
use Rattle.r9_images.proofs.uses.Parts.{le-refl, le-same, room-kept}
use Rattle.r9_images.proofs.uses.uses.Uses.empty.Goals as goal

pub invariant_of-self-clause-images_counted : goal.invariant_of-self-clause-images_counted
invariant_of-self-clause-images_counted c = λ i.
    let is = sym c.get.ensures ∙ c.in-Some.is in
    rw c.remove.ensures.removed
    (omega (
      arith,
      c.take.ensures.counts i,
      c.take-2.ensures.counts i,
      c.args.self.now.images_counted i,
      count-emptied (is_on i) c.args.self.now.screens.screens c.args.number c.in-Some.screen is refl,
      count-emptied (is_filled_by i) c.args.self.now.screens.screens c.args.number c.in-Some.screen is refl,
    ))

pub invariant_of-self-clause-on_counted : goal.invariant_of-self-clause-on_counted
invariant_of-self-clause-on_counted c = λ i.
    rw c.remove.ensures.removed
    (omega (
      arith,
      c.take-3.ensures.counts i,
      c.args.self.now.on_counted i,
      count-emptied (is_on i) c.args.self.now.screens.screens c.args.number c.in-Some.screen (sym c.get.ensures ∙ c.in-Some.is) refl,
    ))

pub invariant_of-self-clause-images_gone : goal.invariant_of-self-clause-images_gone
invariant_of-self-clause-images_gone c = λ i. c.take-2.ensures.gone i ∙ c.take.ensures.gone i ∙ c.args.self.now.images_gone i

pub returns-clause-more : goal.returns-clause-more
returns-clause-more c =
    room-kept c.args.self.now _ (le-refl _) (le-refl _) c.remove.ensures.room (le-refl _) (le-same _ _ (c.take-2.ensures.room ∙ c.take.ensures.room)) (le-same _ _ c.take-3.ensures.room) (le-refl _)
