use Rattle.std.proofs.Common.{◌≡◌, ◌∙◌, arith, subst, take}
use Rattle.std.specs.Prelude.{All}
use Rattle.std.proofs.lemmas.List.{take_all}
use Rattle.model_draw_parts.specs.declared.fonts.Piece.{Piece}
use Rattle.r9_layers.specs.Forest.{room, world}
use Rattle.r9_draw.specs.strings.Ready.{Fits}
use Rattle.r9_draw.proofs.strings.Strings.{next_fits}
use Rattle.r9_draw.proofs.strings.drawing.room_for_characters.Goals as goal

pub loop-piece-preserved : goal.loop-piece-preserved
loop-piece-preserved c = record {
  same = record {
    world = c.in_ok-room_for.ensures.same.world ∙ c.loop-piece.invariant.same.world;
    numbers = c.in_ok-room_for.ensures.same.numbers ∙ c.loop-piece.invariant.same.numbers;
  };
  grown = omega (arith, c.in_ok-room_for.ensures.room, c.loop-piece.invariant.grown);
  moment = c.in_ok-room_for.ensures.moment ∙ c.loop-piece.invariant.moment;
  writes = c.in_ok-room_for.ensures.writes ∙ c.loop-piece.invariant.writes;
  fits =
      next_fits _ _ _ _ _ c.args.pieces.now c.loop-piece.piece-index _ c.loop-piece-test.true c.loop-piece.invariant.same.world c.in_ok-room_for.ensures.room c.loop-piece.invariant.fits c.in_ok-room_for.ensures.ok;
}

pub returns-clause-ok : goal.returns-clause-ok
returns-clause-ok c =
    let all : take c.loop-piece.piece-index c.args.pieces.now ≡ c.args.pieces.now = take_all c.loop-piece.piece-index c.args.pieces.now c.loop-piece-test.false in
    subst (All (λ (piece : Piece). Fits (world c.args.forest.now) c.args.dst.0 (room c.loop-piece.forest) piece.r)) all c.loop-piece.invariant.fits
