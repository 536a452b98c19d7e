use Rattle.r9_locate.specs.locate.Table.{shape}
use Rattle.r9_put.proofs.put.Putting.{area_written}
use Rattle.r9_put.proofs.put.filling.fill_bare.Goals as goal

pub paint_area-requires-clause-has : goal.paint_area-requires-clause-has
paint_area-requires-clause-has g c p h = c.requires.stored.has c.args.i p c.requires.live (c.requires.inside p h)

pub paint_area-requires-clause-bits : goal.paint_area-requires-clause-bits
paint_area-requires-clause-bits g c = c.requires.stored.bits

pub returns-clause-written : goal.returns-clause-written
returns-clause-written g c =
    let put = c.paint_area.ensures in
    area_written (shape c.args.lists.now) c.args.i c.args.r (λ _. c.args.raw) c.args.pixels.now c.paint_area.new.pixels
    c.requires.inside c.requires.bare put.at put.others put.has put.forms put.moment
