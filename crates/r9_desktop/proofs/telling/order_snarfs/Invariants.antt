use Rattle.std.proofs.Common.{◌≡◌, drop}
use Rattle.std.specs.List.{fold}
use Rattle.model_world.specs.Desktop.{snarfs_ordered}
use Rattle.r9_desktop.proofs.telling.order_snarfs.Given as goal

abbrev pub invariant-loop-order : goal.invariant-loop-order
invariant-loop-order l = fold snarfs_ordered l.snarfs.entries (drop l.order-index l.orders) ≡ fold snarfs_ordered l.fn.snarfs.entries l.orders
