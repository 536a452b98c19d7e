use Rattle.std.proofs.Common.{◌<◌, length, arith}
use Rattle.r9_ids.proofs.sorted.Among.{slot-done, absent-in, fits-in}
use Rattle.r9_ids.proofs.sorted.pieces.put_among.Goals as goal

pub put-requires-clause-absent : goal.put-requires-clause-absent
put-requires-clause-absent g c =
    let less : c.min-at.result < length c.args.pieces.now.items = omega (arith, c.args.pieces.now.ok.0, c.len.ensures, c.min-at.ensures, c.requires.some) in
    absent-in g.T.Keyed.key_of (g.T.Keyed.key_of c.args.row) c.args.pieces.now.items c.min-at.result c.index_mut-piece.result.now less c.index_mut-piece.ensures.value c.requires.absent

pub put-requires-clause-room : goal.put-requires-clause-room
put-requires-clause-room g c =
    let less : c.min-at.result < length c.args.pieces.now.items = omega (arith, c.args.pieces.now.ok.0, c.len.ensures, c.min-at.ensures, c.requires.some) in
    fits-in g.T.Keyed.key_of c.args.pieces.now.items c.min-at.result c.index_mut-piece.result.now less c.index_mut-piece.ensures.value c.requires.filled

pub returns-clause-place : goal.returns-clause-place
returns-clause-place g c =
    slot-done g.T.Keyed.key_of (g.T.Keyed.key_of c.args.row) c.key.result c.args.pieces.now.items c.deref.result.now c.place.result c.len.result c.min-at.result c.deref.ensures.value c.key.ensures c.place.ensures
    (omega (arith, c.args.pieces.now.ok.0, c.len.ensures)) c.min-at.ensures
