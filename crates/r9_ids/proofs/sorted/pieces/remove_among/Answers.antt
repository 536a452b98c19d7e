use Rattle.std.proofs.Common.{◌≡◌, ◌<◌, length, sym, ap, ◌∙◌, arith}
use Rattle.r9_ids.specs.sorted.Pieces.{place, joined}
use Rattle.r9_ids.specs.sorted.Rows.{has_key}
use Rattle.r9_ids.proofs.sorted.Ascending.{found-none, none-kept}
use Rattle.r9_ids.proofs.sorted.Pieced.{first-no-place, joined-removed, filled-removed, filled-set, place-fits}
use Rattle.r9_ids.proofs.sorted.Among.{found-in, removed-rows, removed-few, no-rows}
use Rattle.r9_ids.proofs.sorted.pieces.remove_among.Goals as goal

pub returns-then-at-len-clause-found : goal.returns-then-at-len-clause-found
returns-then-at-len-clause-found g c =
    let is : c.place-at.result ≡ place g.T.Keyed.key_of c.args.key c.args.pieces.now.items = c.place-at.ensures ∙ ap (place g.T.Keyed.key_of c.args.key) c.deref.ensures.value in
    sym
    (found-none g.T.Keyed.key_of c.args.key (joined c.args.pieces.now.items)
    (first-no-place g.T.Keyed.key_of c.args.key c.args.pieces.now.items (omega (arith, is, c.args.pieces.now.ok.0, c.len.ensures, c.if-at-len.true))))

pub returns-then-at-len-clause-rows : goal.returns-then-at-len-clause-rows
returns-then-at-len-clause-rows g c = sym (none-kept (has_key g.T.Keyed.key_of c.args.key) (joined c.args.pieces.now.items) (sym (returns-then-at-len-clause-found g c)))

pub index_mut-piece-requires : goal.index_mut-piece-requires
index_mut-piece-requires g c =
    let is : c.place-at.result ≡ place g.T.Keyed.key_of c.args.key c.args.pieces.now.items = c.place-at.ensures ∙ ap (place g.T.Keyed.key_of c.args.key) c.deref.ensures.value in
    omega (arith, is, c.args.pieces.now.ok.0, c.len.ensures, c.if-at-len.false, place-fits g.T.Keyed.key_of c.args.key c.args.pieces.now.items)

pub remove-requires : goal.remove-requires
remove-requires g c =
    let is : c.place-at.result ≡ place g.T.Keyed.key_of c.args.key c.args.pieces.now.items = c.place-at.ensures ∙ ap (place g.T.Keyed.key_of c.args.key) c.deref.ensures.value in
    omega (arith, is, c.args.pieces.now.ok.0, c.len.ensures, c.if-at-len.false, place-fits g.T.Keyed.key_of c.args.key c.args.pieces.now.items)

pub returns-then-len-eq0-clause-found : goal.returns-then-len-eq0-clause-found
returns-then-len-eq0-clause-found g c =
    let is : c.place-at.result ≡ place g.T.Keyed.key_of c.args.key c.args.pieces.now.items = c.place-at.ensures ∙ ap (place g.T.Keyed.key_of c.args.key) c.deref.ensures.value in
    let less : c.place-at.result < length c.args.pieces.now.items = omega (arith, is, c.args.pieces.now.ok.0, c.len.ensures, c.if-at-len.false, place-fits g.T.Keyed.key_of c.args.key c.args.pieces.now.items) in
    c.remove-found.ensures.found ∙ sym (found-in g.T.Keyed.key_of c.args.key c.args.pieces.now.items c.place-at.result c.index_mut-piece.result.now c.requires.ascend is less c.index_mut-piece.ensures.value)

pub returns-then-len-eq0-clause-rows : goal.returns-then-len-eq0-clause-rows
returns-then-len-eq0-clause-rows g c =
    let is : c.place-at.result ≡ place g.T.Keyed.key_of c.args.key c.args.pieces.now.items = c.place-at.ensures ∙ ap (place g.T.Keyed.key_of c.args.key) c.deref.ensures.value in
    let less : c.place-at.result < length c.args.pieces.now.items = omega (arith, is, c.args.pieces.now.ok.0, c.len.ensures, c.if-at-len.false, place-fits g.T.Keyed.key_of c.args.key c.args.pieces.now.items) in
    ap joined c.remove.ensures.items
    ∙ joined-removed c.args.pieces.now.items c.place-at.result c.remove-found.new.self less (no-rows c.remove-found.new.self (omega (arith, c.len-2.ensures, c.if-len-eq0.true)))
    ∙ removed-rows g.T.Keyed.key_of c.args.key c.args.pieces.now.items c.place-at.result c.index_mut-piece.result.now c.remove-found.new.self c.requires.ascend is less c.index_mut-piece.ensures.value c.remove-found.ensures.rows

pub returns-then-len-eq0-clause-filled : goal.returns-then-len-eq0-clause-filled
returns-then-len-eq0-clause-filled g c =
    let is : c.place-at.result ≡ place g.T.Keyed.key_of c.args.key c.args.pieces.now.items = c.place-at.ensures ∙ ap (place g.T.Keyed.key_of c.args.key) c.deref.ensures.value in
    let less : c.place-at.result < length c.args.pieces.now.items = omega (arith, is, c.args.pieces.now.ok.0, c.len.ensures, c.if-at-len.false, place-fits g.T.Keyed.key_of c.args.key c.args.pieces.now.items) in
    rw c.remove.ensures.items (filled-removed c.args.pieces.now.items c.place-at.result c.remove-found.new.self less c.requires.filled)

pub returns-else-len-eq0-clause-found : goal.returns-else-len-eq0-clause-found
returns-else-len-eq0-clause-found g c =
    let is : c.place-at.result ≡ place g.T.Keyed.key_of c.args.key c.args.pieces.now.items = c.place-at.ensures ∙ ap (place g.T.Keyed.key_of c.args.key) c.deref.ensures.value in
    let less : c.place-at.result < length c.args.pieces.now.items = omega (arith, is, c.args.pieces.now.ok.0, c.len.ensures, c.if-at-len.false, place-fits g.T.Keyed.key_of c.args.key c.args.pieces.now.items) in
    c.remove-found.ensures.found ∙ sym (found-in g.T.Keyed.key_of c.args.key c.args.pieces.now.items c.place-at.result c.index_mut-piece.result.now c.requires.ascend is less c.index_mut-piece.ensures.value)

pub returns-else-len-eq0-clause-rows : goal.returns-else-len-eq0-clause-rows
returns-else-len-eq0-clause-rows g c =
    let is : c.place-at.result ≡ place g.T.Keyed.key_of c.args.key c.args.pieces.now.items = c.place-at.ensures ∙ ap (place g.T.Keyed.key_of c.args.key) c.deref.ensures.value in
    let less : c.place-at.result < length c.args.pieces.now.items = omega (arith, is, c.args.pieces.now.ok.0, c.len.ensures, c.if-at-len.false, place-fits g.T.Keyed.key_of c.args.key c.args.pieces.now.items) in
    removed-rows g.T.Keyed.key_of c.args.key c.args.pieces.now.items c.place-at.result c.index_mut-piece.result.now c.remove-found.new.self c.requires.ascend is less c.index_mut-piece.ensures.value c.remove-found.ensures.rows

pub returns-else-len-eq0-clause-filled : goal.returns-else-len-eq0-clause-filled
returns-else-len-eq0-clause-filled g c =
    let is : c.place-at.result ≡ place g.T.Keyed.key_of c.args.key c.args.pieces.now.items = c.place-at.ensures ∙ ap (place g.T.Keyed.key_of c.args.key) c.deref.ensures.value in
    let less : c.place-at.result < length c.args.pieces.now.items = omega (arith, is, c.args.pieces.now.ok.0, c.len.ensures, c.if-at-len.false, place-fits g.T.Keyed.key_of c.args.key c.args.pieces.now.items) in
    filled-set c.args.pieces.now.items c.place-at.result c.remove-found.new.self c.requires.filled (omega (arith, c.len-2.ensures, c.if-len-eq0.false))
    (removed-few g.T.Keyed.key_of c.args.key c.args.pieces.now.items c.place-at.result c.index_mut-piece.result.now c.remove-found.new.self less c.index_mut-piece.ensures.value c.requires.filled c.remove-found.ensures.rows)
