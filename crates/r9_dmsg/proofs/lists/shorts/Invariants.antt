use Rattle.std.proofs.Common.{◌≡◌, ◌≤◌, ◌*◌, ◌++◌, length}
use Rattle.std.specs.Int.{w16}
use Rattle.model_draw_parts.specs.dmsg.Reading.{numbers_of}
use Rattle.r9_dmsg.proofs.lists.shorts.Given as goal

abbrev pub invariant-numbers : goal.invariant-numbers
invariant-numbers l = record {
  room : l.left * 2 ≤ length l.rest;
  whole : l.items.items ++ numbers_of w16 l.left l.rest ≡ numbers_of w16 l.count l.bytes;
}

abbrev pub decreases-numbers : goal.decreases-numbers
decreases-numbers l = l.left
