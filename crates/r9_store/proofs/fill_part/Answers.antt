use Rattle.std.proofs.Common.{ℕ, sym, subst}
use Rattle.r9_plane.specs.Blocks.{HasRows}
use Rattle.r9_store.proofs.fill_part.Goals as goal

pub fill_rows-requires-clause-rows : goal.fill_rows-requires-clause-rows
fill_rows-requires-clause-rows c = subst (λ (count : ℕ). HasRows c.args.r.now c.args.place 32 count) (sym c.told-tile) c.requires.rows
