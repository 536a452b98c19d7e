use Rattle.std.proofs.Common.{sym, ap, ◌∙◌}
use Rattle.std.proofs.lemmas.Bool.{eqb-true}
use Rattle.model_pixel.specs.Channels.{expand}
use Rattle.r9_chan.specs.declared.operator.Op.{Op}
use Rattle.r9_chan.specs.Op.{number}
use Rattle.r9_mem.specs.Covering.{takes}
use Rattle.r9_mem.proofs.MovingLemmas.{opaque_takes}
use Rattle.r9_mem.proofs.moving.takes_source.Goals as goal

pub returns-in-SoverD : goal.returns-in-SoverD
returns-in-SoverD c told s =
    ap (λ (op : Op). takes (number op) (expand c.args.src.now s).a) c.in-SoverD.is
    ∙ opaque_takes c.args.src.now s (eqb-true _ _ (sym c.lacks.ensures ∙ told))
