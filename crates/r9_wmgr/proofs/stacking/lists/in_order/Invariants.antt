use Rattle.std.proofs.Common.{◌≡◌, [], drop}
use Rattle.std.specs.List.{fold}
use Rattle.model_rio.specs.rio.Table.{put}
use Rattle.r9_wmgr.proofs.stacking.lists.in_order.Given as goal

abbrev pub invariant-loop-w : goal.invariant-loop-w
invariant-loop-w l = fold put l.ordered.items (drop l.w-index l.windows) ≡ fold put [] l.windows
