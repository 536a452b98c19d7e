use Rattle.std.proofs.Common.{◌∙◌, sym, ap}
use Rattle.std.proofs.lemmas.Bool.{eqb-true}
use Rattle.model_pixel.specs.Channels.{depth}
use Rattle.model_forest.specs.World.{Image}
use Rattle.r9_put.proofs.put.composing.is_deep.Goals as goal

pub returns : goal.returns
returns c told =
    ap (λ (im : Image). depth im.chan) c.get.ensures ∙ sym c.depth.ensures.value ∙ eqb-true _ _ told
