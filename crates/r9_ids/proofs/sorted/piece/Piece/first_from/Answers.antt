use Rattle.std.proofs.Common.{◌≡◌, ◌<◌, length, sym, ap, arith}
use Rattle.r9_ids.proofs.sorted.Ascending.{first-none, place-within}
use Rattle.r9_ids.proofs.sorted.Inside.{piece-first}
use Rattle.r9_ids.proofs.sorted.piece.Piece.first_from.Goals as goal

pub returns-then-at-len : goal.returns-then-at-len
returns-then-at-len g c =
    let same : length c.self.inside.rows.items ≡ length c.args.self.now = ap length c.self.view_is in
    sym (first-none g.T.Keyed.key_of c.args.key c.args.self.now (omega (arith, same, c.self.inside.rows.ok.0, c.place-at.ensures, c.len.ensures, c.if-at-len.true)))

pub index-requires : goal.index-requires
index-requires g c =
    let same : length c.self.inside.rows.items ≡ length c.args.self.now = ap length c.self.view_is in
    omega (arith, same, c.self.inside.rows.ok.0, c.place-at.ensures, c.len.ensures, place-within g.T.Keyed.key_of c.args.key c.args.self.now)

pub returns : goal.returns
returns g c =
    let same : length c.self.inside.rows.items ≡ length c.args.self.now = ap length c.self.view_is in
    let less : c.place-at.result < length c.args.self.now =
    omega (arith, same, c.self.inside.rows.ok.0, c.place-at.ensures, c.len.ensures, c.if-at-len.false, place-within g.T.Keyed.key_of c.args.key c.args.self.now) in
    piece-first g.T.Keyed.key_of c.args.key c.args.self.now c.self.inside.rows.items c.place-at.result c.index.result.now c.self.view_is c.place-at.ensures less c.index.ensures
