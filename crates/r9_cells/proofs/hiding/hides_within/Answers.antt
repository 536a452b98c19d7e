use Rattle.r9_cells.proofs.hiding.hides_within.Goals as goal

pub returns-then-hides_all : goal.returns-then-hides_all
returns-then-hides_all c e part cell = (c.lies_in.ensures e part cell.inside cell.some, c.hides_all.ensures c.if-hides_all.true part cell)
