use Rattle.std.proofs.Common.{◌≡◌, List, length, sym, ap, subst, ◌∙◌, arith}
use Rattle.std.specs.Prelude.{slice_set}
use Rattle.r9_ids.specs.declared.sorted.key.Key.{Key}
use Rattle.r9_ids.specs.sorted.Pieces.{place_in}
use Rattle.r9_ids.specs.sorted.Rows.{Ascend, set_row}
use Rattle.r9_ids.proofs.sorted.Ascending.{found-within, ascend-set}
use Rattle.r9_ids.proofs.sorted.Inside.{set-done, found-some}
use Rattle.r9_ids.proofs.sorted.piece.Piece.set.Goals as goal

pub index_mut-requires : goal.index_mut-requires
index_mut-requires g c =
    let same : length c.self.inside.rows.items ≡ length c.args.self.now = ap length c.self.view_is in
    let found = found-some _ c.requires in
    let is : c.place-at.result ≡ place_in g.T.Keyed.key_of (g.T.Keyed.key_of c.args.row) c.args.self.now =
    c.place-at.ensures ∙ ap (λ (k : Key). place_in g.T.Keyed.key_of k c.args.self.now) c.key.ensures in
    omega (arith, same, c.self.inside.rows.ok.0, is, found-within g.T.Keyed.key_of (g.T.Keyed.key_of c.args.row) c.args.self.now found.0 found.1)

pub returns : goal.returns
returns g c =
    let key_of = g.T.Keyed.key_of in
    let found = found-some _ c.requires in
    set-done key_of c.args.row c.args.self.now c.self.inside.rows.items c.key.result c.place-at.result found.0 c.self.view_is c.key.ensures c.place-at.ensures
    (subst (λ (xs : List _). Ascend key_of xs) c.self.view_is c.self.invariant.0) found.1

pub invariant_of-self : goal.invariant_of-self
invariant_of-self g c =
    let key_of = g.T.Keyed.key_of in
    let found = found-some _ c.requires in
    let before : Ascend key_of c.args.self.now = subst (λ (xs : List _). Ascend key_of xs) c.self.view_is c.self.invariant.0 in
    let done : slice_set c.self.inside.rows.items c.place-at.result c.args.row ≡ set_row key_of c.args.row c.args.self.now =
    set-done key_of c.args.row c.args.self.now c.self.inside.rows.items c.key.result c.place-at.result found.0 c.self.view_is c.key.ensures c.place-at.ensures before found.1 in
    (subst (λ (xs : List _). Ascend key_of xs) (sym done) (ascend-set key_of c.args.row c.args.self.now before), c.self.invariant.1)
