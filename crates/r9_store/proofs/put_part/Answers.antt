use Rattle.std.proofs.Common.{ℕ, sym, subst}
use Rattle.r9_plane.specs.Blocks.{HasRows}
use Rattle.r9_store.proofs.put_part.Goals as goal

pub copy_rows-requires-clause-rows : goal.copy_rows-requires-clause-rows
copy_rows-requires-clause-rows c = subst (λ (count : ℕ). HasRows c.args.r.now c.args.place 32 count) (sym c.told-tile) c.requires.rows
