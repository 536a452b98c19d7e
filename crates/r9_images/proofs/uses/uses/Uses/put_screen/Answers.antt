use Rattle.std.proofs.Common.{refl, ◌∙◌, arith}
use Rattle.model_draw_parts.specs.images.Book.{is_on}
use Rattle.r9_images.specs.uses.Counts.{is_filled_by}
use Rattle.r9_images.proofs.uses.Slots.{count-put, put-emptied}
use Rattle.r9_images.proofs.uses.uses.Uses.put_screen.Goals as goal

pub returns-clause-put : goal.returns-clause-put
returns-clause-put c = c.put.ensures.put ∙ put-emptied c.args.self.now.screens.screens c.empty.new.self.screens.screens c.args.number c.args.screen c.empty.ensures.emptied

pub invariant_of-self-clause-images_counted : goal.invariant_of-self-clause-images_counted
invariant_of-self-clause-images_counted c = λ i.
    rw c.put.ensures.put
    (omega (
      arith,
      c.add.ensures.counts i,
      c.add-2.ensures.counts i,
      c.empty.new.self.images_counted i,
      count-put (is_on i) c.args.self.now.screens.screens c.empty.new.self.screens.screens c.args.number c.args.screen c.empty.ensures.emptied refl,
      count-put (is_filled_by i) c.args.self.now.screens.screens c.empty.new.self.screens.screens c.args.number c.args.screen c.empty.ensures.emptied refl,
    ))

pub invariant_of-self-clause-on_counted : goal.invariant_of-self-clause-on_counted
invariant_of-self-clause-on_counted c = λ i.
    rw c.put.ensures.put
    (omega (
      arith,
      c.add-3.ensures.counts i,
      c.empty.new.self.on_counted i,
      count-put (is_on i) c.args.self.now.screens.screens c.empty.new.self.screens.screens c.args.number c.args.screen c.empty.ensures.emptied refl,
    ))

pub invariant_of-self-clause-images_gone : goal.invariant_of-self-clause-images_gone
invariant_of-self-clause-images_gone c = λ i. c.add-2.ensures.gone i ∙ c.add.ensures.gone i ∙ c.empty.new.self.images_gone i
