use Rattle.std.proofs.Common.{◌∙◌, arith}
use Rattle.r9_layers.specs.Forest.{world}
use Rattle.r9_draw.specs.strings.Drawings.{letter}
use Rattle.r9_draw.proofs.strings.Strings.{next_drawn, next_within, Alike-after_draw, Alike-same, Alike-then, CanLetter-still, Fits-still}
use Rattle.r9_draw.proofs.strings.drawing.draw_characters.Goals as goal

pub loop-piece-preserved : goal.loop-piece-preserved
loop-piece-preserved g c = record {
  alike =
      Alike-then _ _ _ c.loop-piece.invariant.alike
      (Alike-then _ _ _ (Alike-after_draw (world c.loop-piece.forest) (letter c.args.lettering.now _) (c.loop-piece.invariant.alike.lives _ c.requires.images.dst)) (Alike-same _ _ c.draw_character.ensures.drawn));
  numbers = c.draw_character.ensures.numbers ∙ c.loop-piece.invariant.numbers;
  grown = omega (arith, c.draw_character.ensures.room, c.loop-piece.invariant.grown);
  moment = c.draw_character.ensures.moment ∙ c.loop-piece.invariant.moment;
  writes = omega (arith, c.draw_character.ensures.writes, c.loop-piece.invariant.writes);
  rest =
      next_drawn (world c.args.forest.now) (world c.loop-piece.forest) (world c.draw_character.new.forest) c.args.lettering.now c.args.pieces.now c.loop-piece.piece-index _ c.loop-piece-test.true c.draw_character.ensures.drawn c.loop-piece.invariant.rest;
  within =
      next_within (world c.args.forest.now) (world c.loop-piece.forest) c.args.lettering.now c.args.pieces.now c.loop-piece.piece-index _ _ _ _ c.loop-piece.invariant.alike c.loop-piece-test.true c.draw_character.ensures.steps c.loop-piece.invariant.within;
}

pub draw_character-requires-clause-images : goal.draw_character-requires-clause-images
draw_character-requires-clause-images g c = CanLetter-still _ _ c.args.lettering.now c.loop-piece.invariant.alike c.requires.images

pub draw_character-requires-clause-room : goal.draw_character-requires-clause-room
draw_character-requires-clause-room g c =
    Fits-still _ _ _ _ _ _ c.loop-piece.invariant.alike c.loop-piece.invariant.grown (c.requires.room c.loop-piece.piece-index _ c.loop-piece-test.true)

pub returns-clause-steps : goal.returns-clause-steps
returns-clause-steps g c = let within = c.loop-piece.invariant.within in omega arith
