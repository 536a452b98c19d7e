use Rattle.std.proofs.Common.{◌≡◌, ◌++◌, drop}
use Rattle.std.specs.List.{flat_map}
use Rattle.model_text.specs.text.Number.{two_bytes}
use Rattle.r9_clients.proofs.drawing.fields.put_shorts.Given as goal

abbrev pub invariant-loop-number : goal.invariant-loop-number
invariant-loop-number l = l.out ++ flat_map two_bytes (drop l.number-index l.numbers) ≡ l.initial.out ++ flat_map two_bytes l.numbers
