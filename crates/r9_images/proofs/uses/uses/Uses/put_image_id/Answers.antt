use Rattle.std.proofs.Common.{◌==◌, ◌∙◌, arith}
use Rattle.model_draw_parts.specs.declared.images.ImageId.{ImageId}
use Rattle.r9_images.proofs.uses.Counts.{count-put_image}
use Rattle.r9_images.proofs.uses.uses.Uses.put_image_id.Goals as goal

pub invariant_of-self-clause-images_counted : goal.invariant_of-self-clause-images_counted
invariant_of-self-clause-images_counted c = λ i.
    rw c.put.ensures.ids
    (omega (arith, c.add.ensures.counts i, c.args.self.now.images_counted i, count-put_image (λ (e : ImageId). e.image == i) c.args.e c.args.self.now.image_ids.ids))

pub invariant_of-self-clause-images_gone : goal.invariant_of-self-clause-images_gone
invariant_of-self-clause-images_gone c = λ i. c.add.ensures.gone i ∙ c.args.self.now.images_gone i
