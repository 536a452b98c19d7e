use Rattle.std.proofs.Common.{◌≡◌, ◌==◌, ◌/◌, false, length, take}
use Rattle.std.specs.List.{list_any}
use Rattle.std.specs.Int.{w32}
use Rattle.model_draw_parts.specs.dmsg.Reading.{numbers_of}
use Rattle.r9_used.proofs.looked.listed.restacks_display.Given as goal

-- none of the ids so far is the display's
abbrev pub invariant-loop-k : goal.invariant-loop-k
invariant-loop-k l = list_any (λ id. id == 0) (take l.k (numbers_of w32 (length l.asked.ids.now / 4) l.asked.ids.now)) ≡ false
