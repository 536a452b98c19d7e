use Rattle.std.proofs.Common.{ℕ, sym, subst}
use Rattle.r9_plane.specs.Blocks.{HasRows}
use Rattle.r9_store.proofs.copy_part.Goals as goal

pub get_block-requires-clause-rows : goal.get_block-requires-clause-rows
get_block-requires-clause-rows c = subst (λ (count : ℕ). HasRows c.args.from.now c.args.place 32 count) (sym c.told-tile) c.requires.rows
