use Rattle.std.proofs.Common.{◌≡◌, ◌<◌, List, length, sym, ap, subst, ◌∙◌, arith}
use Rattle.r9_ids.specs.sorted.Rows.{Ascend, has_key, without_key}
use Rattle.r9_ids.proofs.sorted.Ascending.{ascend-filter, first-none, found-none, none-kept, place-within}
use Rattle.r9_ids.proofs.sorted.Inside.{piece-has, piece-lacks, remove-done}
use Rattle.r9_ids.proofs.sorted.piece.Piece.remove.Goals as goal

pub returns-then-at-len-clause-found : goal.returns-then-at-len-clause-found
returns-then-at-len-clause-found g c =
    let same : length c.self.inside.rows.items ≡ length c.args.self.now = ap length c.self.view_is in
    sym
    (found-none g.T.Keyed.key_of c.args.key c.args.self.now
    (first-none g.T.Keyed.key_of c.args.key c.args.self.now (omega (arith, same, c.self.inside.rows.ok.0, c.place-at.ensures, c.len.ensures, c.if-at-len.true))))

pub returns-then-at-len-clause-rows : goal.returns-then-at-len-clause-rows
returns-then-at-len-clause-rows g c = sym (none-kept (has_key g.T.Keyed.key_of c.args.key) c.args.self.now (sym (returns-then-at-len-clause-found g c)))

pub index-requires : goal.index-requires
index-requires g c =
    let same : length c.self.inside.rows.items ≡ length c.args.self.now = ap length c.self.view_is in
    omega (arith, same, c.self.inside.rows.ok.0, c.place-at.ensures, c.len.ensures, c.if-at-len.false, place-within g.T.Keyed.key_of c.args.key c.args.self.now)

pub remove-requires : goal.remove-requires
remove-requires g c =
    let same : length c.self.inside.rows.items ≡ length c.args.self.now = ap length c.self.view_is in
    omega (arith, same, c.self.inside.rows.ok.0, c.place-at.ensures, c.len.ensures, c.if-at-len.false, place-within g.T.Keyed.key_of c.args.key c.args.self.now)

pub returns-then-is-clause-found : goal.returns-then-is-clause-found
returns-then-is-clause-found g c =
    let same : length c.self.inside.rows.items ≡ length c.args.self.now = ap length c.self.view_is in
    let less : c.place-at.result < length c.args.self.now =
    omega (arith, same, c.self.inside.rows.ok.0, c.place-at.ensures, c.len.ensures, c.if-at-len.false, place-within g.T.Keyed.key_of c.args.key c.args.self.now) in
    sym
    (piece-has g.T.Keyed.key_of c.args.key c.key.result c.args.self.now c.self.inside.rows.items c.place-at.result c.index.result.now c.self.view_is c.place-at.ensures less c.index.ensures c.key.ensures
    (sym c.is.ensures ∙ c.if-is.true))

pub returns-then-is-clause-rows : goal.returns-then-is-clause-rows
returns-then-is-clause-rows g c =
    let key_of = g.T.Keyed.key_of in
    let before : Ascend key_of c.args.self.now = subst (λ (xs : List _). Ascend key_of xs) c.self.view_is c.self.invariant.0 in
    remove-done key_of c.args.key c.args.self.now c.self.inside.rows.items c.remove.new.self.items c.place-at.result c.index.result.now c.self.view_is c.place-at.ensures before (sym (returns-then-is-clause-found g c)) c.remove.ensures.items

pub returns-else-is-clause-found : goal.returns-else-is-clause-found
returns-else-is-clause-found g c =
    let key_of = g.T.Keyed.key_of in
    let same : length c.self.inside.rows.items ≡ length c.args.self.now = ap length c.self.view_is in
    let less : c.place-at.result < length c.args.self.now =
    omega (arith, same, c.self.inside.rows.ok.0, c.place-at.ensures, c.len.ensures, c.if-at-len.false, place-within key_of c.args.key c.args.self.now) in
    let before : Ascend key_of c.args.self.now = subst (λ (xs : List _). Ascend key_of xs) c.self.view_is c.self.invariant.0 in
    sym
    (piece-lacks key_of c.args.key c.key.result c.args.self.now c.self.inside.rows.items c.place-at.result c.index.result.now c.self.view_is c.place-at.ensures less c.index.ensures c.key.ensures
    (sym c.is.ensures ∙ c.if-is.false) before)

pub returns-else-is-clause-rows : goal.returns-else-is-clause-rows
returns-else-is-clause-rows g c = sym (none-kept (has_key g.T.Keyed.key_of c.args.key) c.args.self.now (sym (returns-else-is-clause-found g c)))

pub invariant_of-self : goal.invariant_of-self
invariant_of-self g c =
    let key_of = g.T.Keyed.key_of in
    let before : Ascend key_of c.args.self.now = subst (λ (xs : List _). Ascend key_of xs) c.self.view_is c.self.invariant.0 in
    let done : c.remove.new.self.items ≡ without_key key_of c.args.key c.args.self.now = returns-then-is-clause-rows g c in
    (subst (λ (xs : List _). Ascend key_of xs) (sym done) (ascend-filter key_of _ c.args.self.now before), omega (arith, c.self.invariant.1, c.remove.ensures.capacity))
