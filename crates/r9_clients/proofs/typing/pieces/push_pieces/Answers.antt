use Rattle.std.proofs.Common.{arith}
use Rattle.r9_clients.specs.page.Shown.{shape_of}
use Rattle.r9_clients.proofs.typing.Moving.{slice_short, slice_stays}
use Rattle.r9_clients.proofs.typing.Typing.{begins, ends, goes_on}
use Rattle.r9_clients.proofs.typing.pieces.push_pieces.Goals as goal

pub pieces-init : goal.pieces-init
pieces-init c =
    begins (shape_of c.args.shape) c.args.text.now c.args.out.now c.in_ok-window.window c.in_ok-window.ensures.empty c.in_ok-window.ensures.columns c.in_ok-window.ensures.rows

pub push_piece-requires-clause-within : goal.push_piece-requires-clause-within
push_piece-requires-clause-within c =
    slice_stays (shape_of c.args.shape) c.pieces.window.spot.columns c.pieces.window.spot.rows c.in_ok-moves.moves c.as_slice.result.now c.as_slice.ensures c.pieces.invariant.columns c.pieces.invariant.rows
    c.in_ok-moves.ensures.within

pub push_piece-requires-clause-short : goal.push_piece-requires-clause-short
push_piece-requires-clause-short c =
    slice_short (shape_of c.args.shape) c.in_ok-moves.moves c.as_slice.result.now c.first_piece-piece.result.now c.as_slice.ensures c.in_ok-moves.ensures.codes c.in_ok-moves.ensures.few
    c.first_piece-piece.ensures.short

pub pieces-preserved : goal.pieces-preserved
pieces-preserved c =
    goes_on (shape_of c.args.shape) c.args.text.now c.pieces.rest.now c.first_piece-piece.result.now c.args.out.now c.pieces.out c.push_piece.new.out c.pieces.window c.feed.new.self c.in_ok-moves.moves
    c.as_slice.result.now c.as_slice.ensures c.pieces.invariant c.first_piece-piece.ensures.cut c.first_piece-piece.ensures.front c.in_ok-moves.ensures.moves c.in_ok-moves.ensures.codes
    c.in_ok-moves.ensures.stands c.in_ok-moves.ensures.sides
    (slice_short (shape_of c.args.shape) c.in_ok-moves.moves c.as_slice.result.now c.first_piece-piece.result.now c.as_slice.ensures c.in_ok-moves.ensures.codes c.in_ok-moves.ensures.few
    c.first_piece-piece.ensures.short)
    c.in_ok-push_piece.ensures

pub returns : goal.returns
returns c =
    ends (shape_of c.args.shape) c.args.text.now c.pieces.rest.now c.args.out.now c.pieces.out c.pieces.window (grind (arith, c.pieces-test.false, c.is_empty.ensures)) c.pieces.invariant
