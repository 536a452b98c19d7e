use Rattle.std.proofs.Common.{◌≡◌, ◌++◌, drop}
use Rattle.std.specs.List.{flat_map}
use Rattle.model_clients.specs.page.Text.{move_bytes}
use Rattle.r9_clients.specs.page.Shown.{shape_of}
use Rattle.r9_clients.proofs.page.moves.moves_bytes.Given as goal

abbrev pub invariant-loop-change : goal.invariant-loop-change
invariant-loop-change l = l.out ++ flat_map (move_bytes (shape_of l.shape)) (drop l.change-index l.moves) ≡ flat_map (move_bytes (shape_of l.shape)) l.moves
