use Rattle.std.proofs.Common.{◌∙◌, sym}
use Rattle.r9_mirror.specs.Left.{or_blank}
use Rattle.r9_mirror.proofs.Steps.{cells_on_is, front_leads, front_refused, size_after}
use Rattle.r9_mirror.proofs.place.Place.front.Goals as goal

pub returns-in-Err-clause-tells : goal.returns-in-Err-clause-tells
returns-in-Err-clause-tells c = λ picture outcome l.
    front_refused c.args.chan c.args.text.now c.args.self c.in-Err.place picture outcome c.requires.left c.requires.some (c.in-Err.ensures.front c.args.chan picture) l

pub returns-in-Ok-clause-tells : goal.returns-in-Ok-clause-tells
returns-in-Ok-clause-tells c = λ picture outcome l.
    front_leads c.args.chan c.args.text.now c.args.self _ picture (or_blank c.in-Ok.blank picture) outcome c.requires.left c.requires.some c.in-Ok.ensures.within.0
    (size_after c.in-Ok.blank picture c.args.self.size l.size ∙ sym c.or.ensures)
    (c.in-Ok.ensures.front c.args.chan picture ∙ cells_on_is c.args.chan c.in-Ok.left c.in-Ok.at c.or.result (or_blank c.in-Ok.blank picture) c.args.text.now)
    l
