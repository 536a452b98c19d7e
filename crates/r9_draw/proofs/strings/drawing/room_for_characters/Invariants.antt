use Rattle.std.proofs.Common.{◌≡◌, ◌≤◌, take}
use Rattle.std.specs.Prelude.{All}
use Rattle.r9_layers.specs.Forest.{moment, room, world, writes, IsUnchanged}
use Rattle.r9_draw.specs.strings.Ready.{Fits}
use Rattle.r9_draw.proofs.strings.drawing.room_for_characters.Given as goal

abbrev pub invariant-loop-piece : goal.invariant-loop-piece
invariant-loop-piece l = record {
  same : IsUnchanged l.fn.forest l.forest;
  grown : room l.fn.forest ≤ room l.forest;
  moment : moment l.forest ≡ moment l.fn.forest;
  writes : writes l.forest ≡ writes l.fn.forest;
  fits : All (λ piece. Fits (world l.fn.forest) l.dst.0 (room l.forest) piece.r) (take l.piece-index l.pieces);
}
