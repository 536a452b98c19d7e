use Rattle.std.proofs.Common.{◌∙◌, sym}
use Rattle.std.proofs.lemmas.Bool.{not-true}
use Rattle.r9_forest.specs.Images.{world}
use Rattle.r9_layers.proofs.Rows.{plain_since}
use Rattle.r9_layers.proofs.composing.is_plain.Goals as goal

pub returns : goal.returns
returns c told =
    plain_since (world c.args.images.now) c.args.i c.info-info.result c.info-info.ensures (sym c.is_some.ensures ∙ c.if-is_some.false) (not-true _ told)
