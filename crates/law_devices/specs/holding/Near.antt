-- A message that sets no clip rectangle but one whose coordinates have 32 bits, as all have that bytes spell (draw(3)).
use Rattle.std.specs.Prelude.{◌≡◌}
use Rattle.model_draw_parts.specs.dmsg.Message.{Message, LowC}
use Rattle.model_forest.specs.Steps.{clamped_rect}

abbrev pub IsNearMessage : Message → Type 0
IsNearMessage (LowC dstid repl clipr) = clamped_rect clipr ≡ clipr
IsNearMessage _ = Unit {0}
