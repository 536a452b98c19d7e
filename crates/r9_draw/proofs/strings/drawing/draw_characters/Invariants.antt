use Rattle.std.proofs.Common.{◌≡◌, ◌+◌, ◌≤◌, drop}
use Rattle.std.specs.List.{fold, sum_by}
use Rattle.model_draw.specs.cost.Cost.{drawing_cost}
use Rattle.model_forest.specs.Draw.{after_draw}
use Rattle.r9_layers.specs.Forest.{moment, numbers, room, world, writes}
use Rattle.r9_draw.specs.strings.Drawings.{characters}
use Rattle.r9_draw.proofs.strings.Strings.{Alike}
use Rattle.r9_draw.proofs.strings.drawing.draw_characters.Given as goal

abbrev pub invariant-loop-piece : goal.invariant-loop-piece
invariant-loop-piece g l = record {
  alike : Alike (world l.fn.forest) (world l.forest);
  numbers : numbers l.forest ≡ numbers l.fn.forest;
  grown : room l.fn.forest ≤ room l.forest;
  moment : moment l.forest ≡ moment l.fn.forest;
  writes : writes l.forest + l.fn.steps ≡ writes l.fn.forest + l.steps;
  rest : fold after_draw (world l.forest) (characters l.lettering (drop l.piece-index l.pieces)) ≡ fold after_draw (world l.fn.forest) (characters l.lettering l.pieces);
  within : l.steps + sum_by (drawing_cost (world l.fn.forest)) (characters l.lettering (drop l.piece-index l.pieces)) ≤ l.fn.steps + sum_by (drawing_cost (world l.fn.forest)) (characters l.lettering l.pieces);
}
