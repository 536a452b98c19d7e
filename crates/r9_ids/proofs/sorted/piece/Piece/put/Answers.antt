use Rattle.std.proofs.Common.{◌≡◌, List, length, sym, ap, subst, arith}
use Rattle.r9_ids.specs.sorted.Rows.{Ascend, put_in_order}
use Rattle.r9_ids.proofs.sorted.Ascending.{place-within, ascend-put}
use Rattle.r9_ids.proofs.sorted.Inside.{put-done}
use Rattle.r9_ids.proofs.sorted.piece.Piece.put.Goals as goal

pub insert-requires : goal.insert-requires
insert-requires g c =
    let same : length c.self.inside.rows.items ≡ length c.args.self.now = ap length c.self.view_is in
    omega (arith, same, c.self.inside.rows.ok.0, c.place-at.ensures, place-within g.T.Keyed.key_of c.key.result c.args.self.now)

pub returns : goal.returns
returns g c =
    put-done g.T.Keyed.key_of c.args.row c.args.self.now c.self.inside.rows.items c.insert.new.self.items c.key.result c.place-at.result c.self.view_is c.key.ensures c.place-at.ensures c.requires.absent c.in-Ok.ensures.items

pub invariant_of-self : goal.invariant_of-self
invariant_of-self g c =
    let key_of = g.T.Keyed.key_of in
    let done : c.insert.new.self.items ≡ put_in_order key_of c.args.row c.args.self.now =
    put-done key_of c.args.row c.args.self.now c.self.inside.rows.items c.insert.new.self.items c.key.result c.place-at.result c.self.view_is c.key.ensures c.place-at.ensures c.requires.absent c.in-Ok.ensures.items in
    let before : Ascend key_of c.args.self.now = subst (λ (xs : List _). Ascend key_of xs) c.self.view_is c.self.invariant.0 in (
      subst (λ (xs : List _). Ascend key_of xs) (sym done) (ascend-put key_of c.args.row c.args.self.now before c.requires.absent),
      omega (arith, c.self.invariant.1, c.in-Ok.ensures.capacity),
    )
