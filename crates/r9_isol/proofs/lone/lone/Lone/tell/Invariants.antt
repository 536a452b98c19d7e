use Rattle.std.proofs.Common.{◌≡◌, drop}
use Rattle.model_alone.specs.alone.Lone.{notes_in, with_notes}
use Rattle.r9_isol.specs.lone.LoneView.{world_of, IsLinkedWorld}
use Rattle.r9_isol.proofs.lone.lone.Lone.tell.Given as goal

-- the notes that are left make of this world what all make of the first
abbrev pub invariant-loop-item : goal.invariant-loop-item
invariant-loop-item l =
    IsLinkedWorld (world_of l.self)
    × (with_notes (world_of l.self) (notes_in (drop l.item-index l.items)) ≡ with_notes (world_of l.fn.self) (notes_in l.items))
