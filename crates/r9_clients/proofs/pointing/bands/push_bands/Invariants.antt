use Rattle.std.proofs.Common.{◌≡◌, ◌++◌, ◌-◌}
use Rattle.std.specs.List.{flat_map, range_with_len}
use Rattle.law_desk.specs.bands.Bands.{band}
use Rattle.r9_clients.proofs.pointing.bands.push_bands.Given as goal

abbrev pub invariant-loop-item : goal.invariant-loop-item
invariant-loop-item l = l.out ++ flat_map (band l.x l.y) (range_with_len l.item (5 - l.item)) ≡ l.initial.out ++ flat_map (band l.x l.y) (range_with_len 0 5)
