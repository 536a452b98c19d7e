use Rattle.std.proofs.lemmas.Bool.{eqb-true}
use Rattle.r9_forest.specs.Images.{world}
use Rattle.r9_layers.proofs.Rows.{apart_since}
use Rattle.r9_layers.proofs.composing.is_apart.Goals as goal

pub returns : goal.returns
returns c told =
    apart_since (world c.args.images.now) c.args.dst c.args.i c.info-info.result c.info-info.ensures c.if-i-dst.false (eqb-true _ _ told)
