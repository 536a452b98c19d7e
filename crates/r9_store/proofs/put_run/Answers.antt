use Rattle.std.proofs.Common.{length, arith, ap}
use Rattle.r9_store.proofs.Rows.{part_others}
use Rattle.r9_store.proofs.put_run.Goals as goal

pub returns-clause-others : goal.returns-clause-others
returns-clause-others c n apart =
    part_others c.args.tile.now c.copy_from_slice.new.self c.args.first (length c.args.raws.now) n
    (omega (arith, c.requires, c.told-tile)) (omega (arith, ap length c.copy_from_slice.ensures.after)) apart
