use Rattle.std.proofs.Common.{◌≡◌, ◌+◌, ◌<◌, List, [], None, Option, find, length, false, sym, ap, subst, ◌∙◌, arith}
use Rattle.std.specs.Prelude.{◌==◌, IfSome, slice_index_or}
use Rattle.r9_ids.specs.declared.sorted.piece.TheConstants.{MOST}
use Rattle.r9_ids.specs.sorted.Rows.{Rows, Ascend, has_key, put_in_order}
use Rattle.r9_ids.specs.sorted.Pieces.{joined}
use Rattle.r9_ids.proofs.sorted.Ascending.{ascend-put, length-put}
use Rattle.r9_ids.proofs.sorted.Pieced.{slot-within}
use Rattle.r9_ids.proofs.sorted.Whole.{some-is, put-rows, put-filled, split-filled, split-rows, full-is, whole-is}
use Rattle.r9_ids.proofs.sorted.sorted.Sorted.put.Goals as goal

pub index-requires : goal.index-requires
index-requires g c =
    let key_of = g.T.Keyed.key_of in
    let ps = c.self.inside.pieces.items in
    let qs = c.put_among-at.new.pieces.items in
    let some : 0 < length ps = omega (arith, c.self.inside.pieces.ok.0, some-is _ (sym c.is_empty.ensures ∙ c.if-is_empty.false)) in
    let less : c.put_among-at.result < length ps = rw c.put_among-at.ensures.place (slot-within key_of (key_of c.args.row) ps some) in
    omega (arith, less, c.self.inside.pieces.ok.0, c.put_among-at.ensures.len)

pub split-requires-clause-within : goal.split-requires-clause-within
split-requires-clause-within g c =
    let key_of = g.T.Keyed.key_of in
    let ps = c.self.inside.pieces.items in
    let qs = c.put_among-at.new.pieces.items in
    let some : 0 < length ps = omega (arith, c.self.inside.pieces.ok.0, some-is _ (sym c.is_empty.ensures ∙ c.if-is_empty.false)) in
    let less : c.put_among-at.result < length ps = rw c.put_among-at.ensures.place (slot-within key_of (key_of c.args.row) ps some) in
    omega (arith, less, c.self.inside.pieces.ok.0, c.put_among-at.ensures.len)

pub split-requires-clause-full : goal.split-requires-clause-full
split-requires-clause-full g c =
    let key_of = g.T.Keyed.key_of in
    let ps = c.self.inside.pieces.items in
    let qs = c.put_among-at.new.pieces.items in
    let some : 0 < length ps = omega (arith, c.self.inside.pieces.ok.0, some-is _ (sym c.is_empty.ensures ∙ c.if-is_empty.false)) in
    let less : c.put_among-at.result < length ps = rw c.put_among-at.ensures.place (slot-within key_of (key_of c.args.row) ps some) in
    let within : c.put_among-at.result < length qs = omega (arith, less, c.self.inside.pieces.ok.0, c.put_among-at.new.pieces.ok.0, c.put_among-at.ensures.len) in
    whole-is _ (full-is qs c.put_among-at.result c.index.result.now within c.index.ensures ∙ sym c.is_full.ensures ∙ c.if-is_full.true)

pub returns-else-is_full-clause-rows : goal.returns-else-is_full-clause-rows
returns-else-is_full-clause-rows g c =
    let key_of = g.T.Keyed.key_of in
    let ps = c.self.inside.pieces.items in
    let qs = c.put_among-at.new.pieces.items in
    let some : 0 < length ps = omega (arith, c.self.inside.pieces.ok.0, some-is _ (sym c.is_empty.ensures ∙ c.if-is_empty.false)) in
    let less : c.put_among-at.result < length ps = rw c.put_among-at.ensures.place (slot-within key_of (key_of c.args.row) ps some) in
    let rows : joined ps ≡ c.args.self.now.rows = ap (λ (v : Rows _). v.rows) c.self.view_is in
    let absent : find (has_key key_of (key_of c.args.row)) (joined ps) ≡ None = ap (find (has_key key_of (key_of c.args.row))) rows ∙ c.requires.absent in
    let done : joined qs ≡ put_in_order key_of c.args.row (joined ps) = put-rows key_of c.args.row ps qs c.put_among-at.result some absent c.put_among-at.ensures.place c.put_among-at.ensures.pieces in
    done ∙ ap (put_in_order key_of c.args.row) rows

pub returns-then-is_full-clause-rows : goal.returns-then-is_full-clause-rows
returns-then-is_full-clause-rows g c =
    let key_of = g.T.Keyed.key_of in
    let ps = c.self.inside.pieces.items in
    let qs = c.put_among-at.new.pieces.items in
    let some : 0 < length ps = omega (arith, c.self.inside.pieces.ok.0, some-is _ (sym c.is_empty.ensures ∙ c.if-is_empty.false)) in
    let less : c.put_among-at.result < length ps = rw c.put_among-at.ensures.place (slot-within key_of (key_of c.args.row) ps some) in
    let within : c.put_among-at.result < length qs = omega (arith, less, c.self.inside.pieces.ok.0, c.put_among-at.new.pieces.ok.0, c.put_among-at.ensures.len) in
    let rows : joined ps ≡ c.args.self.now.rows = ap (λ (v : Rows _). v.rows) c.self.view_is in
    let absent : find (has_key key_of (key_of c.args.row)) (joined ps) ≡ None = ap (find (has_key key_of (key_of c.args.row))) rows ∙ c.requires.absent in
    let done : joined qs ≡ put_in_order key_of c.args.row (joined ps) = put-rows key_of c.args.row ps qs c.put_among-at.result some absent c.put_among-at.ensures.place c.put_among-at.ensures.pieces in
    split-rows key_of qs c.split.new.pieces.items c.put_among-at.result within c.split.ensures.pieces ∙ done ∙ ap (put_in_order key_of c.args.row) rows

pub invariant_of-self-else-is_full : goal.invariant_of-self-else-is_full
invariant_of-self-else-is_full g c =
    let key_of = g.T.Keyed.key_of in
    let ps = c.self.inside.pieces.items in
    let qs = c.put_among-at.new.pieces.items in
    let some : 0 < length ps = omega (arith, c.self.inside.pieces.ok.0, some-is _ (sym c.is_empty.ensures ∙ c.if-is_empty.false)) in
    let less : c.put_among-at.result < length ps = rw c.put_among-at.ensures.place (slot-within key_of (key_of c.args.row) ps some) in
    let within : c.put_among-at.result < length qs = omega (arith, less, c.self.inside.pieces.ok.0, c.put_among-at.new.pieces.ok.0, c.put_among-at.ensures.len) in
    let rows : joined ps ≡ c.args.self.now.rows = ap (λ (v : Rows _). v.rows) c.self.view_is in
    let absent : find (has_key key_of (key_of c.args.row)) (joined ps) ≡ None = ap (find (has_key key_of (key_of c.args.row))) rows ∙ c.requires.absent in
    let done : joined qs ≡ put_in_order key_of c.args.row (joined ps) = put-rows key_of c.args.row ps qs c.put_among-at.result some absent c.put_among-at.ensures.place c.put_among-at.ensures.pieces in
    let few : (length (slice_index_or qs c.put_among-at.result []) == MOST) ≡ false =
    full-is qs c.put_among-at.result c.index.result.now within c.index.ensures ∙ sym c.is_full.ensures ∙ c.if-is_full.false in (
      subst (λ (xs : List _). Ascend key_of xs) (sym done) (ascend-put key_of c.args.row (joined ps) c.self.invariant.0 absent),
      record {
        filled = put-filled key_of c.args.row ps qs c.put_among-at.result less c.self.invariant.1.filled c.put_among-at.ensures.pieces few;
        spare_empty = c.self.invariant.1.spare_empty;
        counted = ap (λ n. n + 1) c.self.invariant.1.counted ∙ sym (ap length done ∙ length-put key_of c.args.row (joined ps));
      },
    )

pub invariant_of-self-then-is_full : goal.invariant_of-self-then-is_full
invariant_of-self-then-is_full g c =
    let key_of = g.T.Keyed.key_of in
    let ps = c.self.inside.pieces.items in
    let qs = c.put_among-at.new.pieces.items in
    let some : 0 < length ps = omega (arith, c.self.inside.pieces.ok.0, some-is _ (sym c.is_empty.ensures ∙ c.if-is_empty.false)) in
    let less : c.put_among-at.result < length ps = rw c.put_among-at.ensures.place (slot-within key_of (key_of c.args.row) ps some) in
    let within : c.put_among-at.result < length qs = omega (arith, less, c.self.inside.pieces.ok.0, c.put_among-at.new.pieces.ok.0, c.put_among-at.ensures.len) in
    let rows : joined ps ≡ c.args.self.now.rows = ap (λ (v : Rows _). v.rows) c.self.view_is in
    let absent : find (has_key key_of (key_of c.args.row)) (joined ps) ≡ None = ap (find (has_key key_of (key_of c.args.row))) rows ∙ c.requires.absent in
    let done : joined qs ≡ put_in_order key_of c.args.row (joined ps) = put-rows key_of c.args.row ps qs c.put_among-at.result some absent c.put_among-at.ensures.place c.put_among-at.ensures.pieces in
    let full : length (slice_index_or qs c.put_among-at.result []) ≡ MOST =
    whole-is _ (full-is qs c.put_among-at.result c.index.result.now within c.index.ensures ∙ sym c.is_full.ensures ∙ c.if-is_full.true) in
    let same : joined c.split.new.pieces.items ≡ put_in_order key_of c.args.row (joined ps) =
    split-rows key_of qs c.split.new.pieces.items c.put_among-at.result within c.split.ensures.pieces ∙ done in (
      subst (λ (xs : List _). Ascend key_of xs) (sym same) (ascend-put key_of c.args.row (joined ps) c.self.invariant.0 absent),
      record {
        filled = split-filled key_of c.args.row ps qs c.split.new.pieces.items c.put_among-at.result less c.self.invariant.1.filled c.put_among-at.ensures.pieces full c.split.ensures.pieces;
        spare_empty = subst (λ (o : Option (List _)). IfSome o (λ p. p ≡ [])) (sym c.split.ensures.spare) tt;
        counted = ap (λ n. n + 1) c.self.invariant.1.counted ∙ sym (ap length same ∙ length-put key_of c.args.row (joined ps));
      },
    )
