use Rattle.std.proofs.Common.{sym, arith}
use Rattle.r9_ids.proofs.sorted.Pieced.{first-no-place}
use Rattle.r9_ids.proofs.sorted.Among.{first-done}
use Rattle.r9_ids.proofs.sorted.pieces.first_among.Goals as goal

pub returns-in-None : goal.returns-in-None
returns-in-None g c =
    sym (first-no-place g.T.Keyed.key_of c.args.key c.args.pieces.now (omega (arith, c.place.ensures, c.in-None.ensures.lookup.3)))

pub returns-in-Some : goal.returns-in-Some
returns-in-Some g c =
    first-done g.T.Keyed.key_of c.args.key c.args.pieces.now c.place.result c.in-Some.piece.now c.first_from.result c.place.ensures c.in-Some.ensures.lookup.3.0 c.in-Some.ensures.lookup.1 c.first_from.ensures
