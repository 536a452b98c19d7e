use Rattle.std.proofs.Common.{◌++◌, ◌∙◌, List, sym, ap}
use Rattle.std.specs.List.{flat_map}
use Rattle.model_draw_parts.specs.dmsg.Message.{Message}
use Rattle.model_alone.specs.alone.Uses.{look_used}
use Rattle.r9_used.proofs.looked.Reading.{looked_again, where_ok}
use Rattle.r9_used.proofs.looked.again.look_again.Goals as goal

pub returns : goal.returns
returns c =
    where_ok c.look_within.result _ _
    (λ is. λ k device mark told.
    is ∙ ap (λ (l : List Message). c.args.uses.now ++ flat_map (look_used c.args.panes.now.entries) l) (sym (looked_again k device c.args.bytes.now mark c.args.most c.args.rows.now told)))
    c.look_within.ensures
