use Rattle.std.proofs.Common.{rules, tests}
use Rattle.std.proofs.lemmas.List.Sorted.{IsPartitionPoint-from_clause}
use Rattle.r9_ids.specs.sorted.Pieces.{ends_before}
use Rattle.r9_ids.proofs.sorted.Pieced.{point-is, ends-parted}
use Rattle.r9_ids.proofs.sorted.pieces.place.Goals as goal

pub returns : goal.returns
returns g c =
    let key_of = g.T.Keyed.key_of in
    let ps = c.args.pieces.now in
    let point = IsPartitionPoint-from_clause (ends_before key_of c.args.key) _ _ c.partition_point.ensures.partitioned (ends-parted key_of c.args.key ps c.requires.ascend c.requires.filled) (λ a r q k. search (rules, tests)) in
    point-is (ends_before key_of c.args.key) ps c.partition_point.result c.partition_point.ensures.bound point
