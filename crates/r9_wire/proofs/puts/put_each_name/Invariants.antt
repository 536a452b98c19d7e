use Rattle.std.proofs.Common.{◌≡◌, ◌≤◌, ◌+◌, ◌*◌, ◌++◌, length, drop}
use Rattle.std.specs.List.{flat_map}
use Rattle.model_files.specs.wire.Spelling.{string}
use Rattle.r9_wire.proofs.puts.put_each_name.Given as goal

abbrev pub invariant-loop-name : goal.invariant-loop-name
invariant-loop-name l =
    (l.out ++ flat_map string (drop l.name-index l.names) ≡ l.initial.out ++ flat_map string l.names)
    × (length l.out ≤ length l.initial.out + 65538 * l.name-index)
