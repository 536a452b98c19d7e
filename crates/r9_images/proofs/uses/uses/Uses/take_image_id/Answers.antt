use Rattle.std.proofs.Common.{◌==◌, ◌∙◌, arith}
use Rattle.model_draw_parts.specs.declared.images.ImageId.{ImageId}
use Rattle.model_draw_parts.specs.images.Release.{is_image_id}
use Rattle.r9_images.proofs.uses.Counts.{count-found, count-taken_image, same-number}
use Rattle.r9_images.proofs.uses.Parts.{le-refl, le-same, room-kept}
use Rattle.r9_images.proofs.uses.uses.Uses.take_image_id.Goals as goal

pub take-requires : goal.take-requires
take-requires c =
    let e = c.args.e in
    let some = count-found (is_image_id e.client e.id) (λ (x : ImageId). x.image == e.image) e c.args.self.now.image_ids.ids c.requires (same-number e.image) in
    omega (arith, some, c.args.self.now.images_counted e.image)

pub invariant_of-self-clause-images_counted : goal.invariant_of-self-clause-images_counted
invariant_of-self-clause-images_counted c = λ i.
    omega (
      arith,
      c.take.ensures.counts i,
      c.args.self.now.images_counted i,
      count-taken_image (λ (e : ImageId). e.image == i) c.args.e c.args.self.now.image_ids.ids c.remove.new.self.ids c.requires c.remove.ensures.back,
    )

pub invariant_of-self-clause-images_gone : goal.invariant_of-self-clause-images_gone
invariant_of-self-clause-images_gone c = λ i. c.take.ensures.gone i ∙ c.args.self.now.images_gone i

pub returns-clause-more : goal.returns-clause-more
returns-clause-more c =
    room-kept c.args.self.now _ c.remove.ensures.room (le-refl _) (le-refl _) (le-refl _) (le-same _ _ c.take.ensures.room) (le-refl _) (le-refl _)
