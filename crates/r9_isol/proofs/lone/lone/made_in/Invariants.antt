use Rattle.std.proofs.Common.{◌≡◌, drop}
use Rattle.std.specs.List.{filter_map, last_or}
use Rattle.model_alone.specs.alone.Lone.{made_by, made_in, notes_in}
use Rattle.r9_isol.proofs.lone.lone.made_in.Given as goal

abbrev pub invariant-loop-item : goal.invariant-loop-item
invariant-loop-item l = last_or l.made (filter_map made_by (notes_in (drop l.item-index l.items))) ≡ made_in l.items
