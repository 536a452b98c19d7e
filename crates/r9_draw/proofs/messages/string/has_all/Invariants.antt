use Rattle.std.proofs.Common.{◌≡◌, true, take}
use Rattle.std.specs.List.{list_all}
use Rattle.model_draw_parts.specs.fonts.Font.{has_index}
use Rattle.r9_dmsg.specs.Listed.{indices_of}
use Rattle.r9_draw.proofs.messages.string.has_all.Given as goal

abbrev pub invariant-loop-k : goal.invariant-loop-k
invariant-loop-k l = list_all (has_index l.font) (take l.k (indices_of l.asked)) ≡ true
