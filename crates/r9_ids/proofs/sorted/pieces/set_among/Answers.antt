use Rattle.std.proofs.Common.{◌≡◌, ap, ◌∙◌, arith}
use Rattle.r9_ids.specs.declared.sorted.key.Key.{Key}
use Rattle.r9_ids.specs.sorted.Pieces.{place}
use Rattle.r9_ids.proofs.sorted.Among.{within, there-in, set-rows, set-filled}
use Rattle.r9_ids.proofs.sorted.pieces.set_among.Goals as goal

pub index_mut-piece-requires : goal.index_mut-piece-requires
index_mut-piece-requires g c =
    let key_of = g.T.Keyed.key_of in
    let is : c.place-at.result ≡ place key_of (key_of c.args.row) c.args.pieces.now.items =
    c.place-at.ensures ∙ ap (λ (k : Key). place key_of k c.deref.result.now) c.key.ensures ∙ ap (place key_of (key_of c.args.row)) c.deref.ensures.value in
    omega (arith, c.args.pieces.now.ok.0, within key_of (key_of c.args.row) c.args.pieces.now.items c.place-at.result is c.requires.there)

pub set-requires : goal.set-requires
set-requires g c =
    let key_of = g.T.Keyed.key_of in
    let is : c.place-at.result ≡ place key_of (key_of c.args.row) c.args.pieces.now.items =
    c.place-at.ensures ∙ ap (λ (k : Key). place key_of k c.deref.result.now) c.key.ensures ∙ ap (place key_of (key_of c.args.row)) c.deref.ensures.value in
    let less = within key_of (key_of c.args.row) c.args.pieces.now.items c.place-at.result is c.requires.there in
    there-in key_of (key_of c.args.row) c.args.pieces.now.items c.place-at.result c.index_mut-piece.result.now c.requires.ascend is less c.index_mut-piece.ensures.value c.requires.there

pub returns-clause-rows : goal.returns-clause-rows
returns-clause-rows g c =
    let key_of = g.T.Keyed.key_of in
    let is : c.place-at.result ≡ place key_of (key_of c.args.row) c.args.pieces.now.items =
    c.place-at.ensures ∙ ap (λ (k : Key). place key_of k c.deref.result.now) c.key.ensures ∙ ap (place key_of (key_of c.args.row)) c.deref.ensures.value in
    let less = within key_of (key_of c.args.row) c.args.pieces.now.items c.place-at.result is c.requires.there in
    set-rows key_of c.args.row c.args.pieces.now.items c.place-at.result c.index_mut-piece.result.now c.set.new.self c.requires.ascend is less c.index_mut-piece.ensures.value c.set.ensures

pub returns-clause-filled : goal.returns-clause-filled
returns-clause-filled g c =
    let key_of = g.T.Keyed.key_of in
    let is : c.place-at.result ≡ place key_of (key_of c.args.row) c.args.pieces.now.items =
    c.place-at.ensures ∙ ap (λ (k : Key). place key_of k c.deref.result.now) c.key.ensures ∙ ap (place key_of (key_of c.args.row)) c.deref.ensures.value in
    let less = within key_of (key_of c.args.row) c.args.pieces.now.items c.place-at.result is c.requires.there in
    set-filled key_of c.args.row c.args.pieces.now.items c.place-at.result c.index_mut-piece.result.now c.set.new.self less c.index_mut-piece.ensures.value c.requires.filled c.set.ensures
