use Rattle.std.proofs.Common.{◌<◌, length, arith}
use Rattle.r9_store.proofs.Rows.{part_others}
use Rattle.r9_store.proofs.copy_run.Goals as goal

pub returns-clause-others : goal.returns-clause-others
returns-clause-others c n apart =
    part_others c.args.tile.now c.get_row.new.raws c.args.first c.args.len n
    (omega (arith, c.requires.fits, c.told-tile)) (omega (arith, c.get_row.auto.raws, c.requires.fits, c.told-tile)) apart

pub returns-clause-below : goal.returns-clause-below
returns-clause-below c i below =
    let inside : i < length c.get_row.new.raws = omega (arith, below, c.get_row.auto.raws, c.requires.fits, c.told-tile) in
    omega (arith, c.get_row.ensures.pixels i (omega (arith, inside, c.get_row.auto.raws)), c.get_row.ensures.range i (omega (arith, inside, c.get_row.auto.raws)))
