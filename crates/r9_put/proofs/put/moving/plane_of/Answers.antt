use Rattle.std.proofs.Common.{◌∙◌, sym, ap}
use Rattle.std.specs.Prelude.{is_some}
use Rattle.model_forest.specs.World.{Image, image_at}
use Rattle.r9_locate.specs.locate.Table.{shape}
use Rattle.r9_put.proofs.put.Forms.{nowhere_none}
use Rattle.r9_put.proofs.put.moving.plane_of.Goals as goal

pub returns : goal.returns
returns c =
    let kept = c.in_ok-kept.kept in
    record {
      live = c.in_ok-kept.ensures.live;
      nowhere =
          nowhere_none (image_at (shape c.args.lists.now) kept.image).standing
          (ap (λ (im : Image). is_some im.standing) c.get.ensures ∙ sym c.is_some.ensures ∙ c.if-is_some.false);
      kept = c.in_ok-kept.ensures.kept;
    }
