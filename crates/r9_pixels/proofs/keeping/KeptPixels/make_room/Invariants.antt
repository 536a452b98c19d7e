use Rattle.std.proofs.Common.{◌≡◌, ◌+◌, ◌-◌}
use Rattle.r9_pixels.specs.Kept.{room_of, spare_in, IsUnchanged}
use Rattle.r9_pixels.proofs.keeping.KeptPixels.make_room.Given as goal

abbrev pub invariant-loop-self : goal.invariant-loop-self
invariant-loop-self l = record {
  kept : IsUnchanged l.fn.self l.self;
  spare : spare_in l.self ≡ spare_in l.fn.self;
}

abbrev pub decreases-loop-self : goal.decreases-loop-self
decreases-loop-self l = l.i + 1 - room_of l.self
