use Rattle.std.proofs.Common.{List, sym, ap, subst, ◌∙◌, rules, tests}
use Rattle.std.proofs.lemmas.List.Sorted.{IsPartitionPoint-from_clause}
use Rattle.r9_ids.specs.sorted.Rows.{Ascend, is_before}
use Rattle.r9_ids.specs.sorted.Pieces.{place_in}
use Rattle.r9_ids.proofs.sorted.Ascending.{parted}
use Rattle.r9_ids.proofs.sorted.Pieced.{point-is}
use Rattle.r9_ids.proofs.sorted.piece.Piece.place.Goals as goal

pub returns : goal.returns
returns g c =
    let key_of = g.T.Keyed.key_of in
    let xs = c.deref.result.now in
    let ascends : Ascend key_of xs = subst (λ (ys : List _). Ascend key_of ys) (sym c.deref.ensures.value) c.self.invariant.0 in
    let point = IsPartitionPoint-from_clause (is_before key_of c.args.key) _ _ c.partition_point.ensures.partitioned (parted key_of c.args.key xs ascends) (λ a r q k. search (rules, tests)) in
    point-is (is_before key_of c.args.key) xs c.partition_point.result c.partition_point.ensures.bound point
    ∙ ap (place_in key_of c.args.key) (c.deref.ensures.value ∙ c.self.view_is)
