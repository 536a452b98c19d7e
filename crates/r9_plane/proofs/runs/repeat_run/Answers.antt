use Rattle.std.proofs.Common.{◌≡◌, ◌+◌, ◌-◌, ◌*◌, ◌/◌, ◌++◌, drop, length, arith}
use Rattle.std.proofs.lemmas.Nat.{mul-le}
use Rattle.r9_plane.proofs.RunLemmas.{Stretch, stretch_repeated, whole_copied, whole_fits}
use Rattle.r9_plane.proofs.runs.repeat_run.Goals as goal
use Rattle.r9_plane.proofs.runs.repeat_run.Goals.{After-copy_from_slice}

repeated : (c : After-copy_from_slice) → Stretch c.args.bytes.now (c.split_at_mut-above.result.0.now ++ (c.copy_from_slice.new.self ++ drop (c.args.count * (c.args.depth / 8)) c.split_at_mut-above.result.1.now)) c.args.bytes.now (c.args.first * (c.args.depth / 8)) (c.args.count * (c.args.depth / 8)) (c.args.from_first * (c.args.depth / 8))
repeated c =
    let k = c.args.depth / 8 in
    let fits = whole_fits c.args.depth (c.args.first + c.args.count) (length c.args.bytes.now) c.requires.depth c.requires.whole c.requires.within in
    let order = mul-le (c.args.from_first + c.args.count) k c.args.first k c.requires.before (omega arith) in
    let len : c.args.from_first * k + c.args.count * k - c.args.from_first * k ≡ c.args.count * k = omega arith in
    stretch_repeated c.args.bytes.now c.split_at_mut-above.result.0.now c.split_at_mut-above.result.1.now c.copy_from_slice.new.self
    (c.args.first * k) (c.args.count * k) (c.args.from_first * k) _
    c.split_at_mut-above.ensures.front c.split_at_mut-above.ensures.back (omega (arith, order)) (omega (arith, fits)) len c.copy_from_slice.ensures.after

pub returns-clause-written : goal.returns-clause-written
returns-clause-written c =
    (whole_copied c.args.depth c.args.first c.args.count c.args.from_first c.args.bytes.now _ c.args.bytes.now c.requires.depth c.requires.whole (repeated (goal.at.returns-clause-written c).After-copy_from_slice)).written

pub returns-clause-others : goal.returns-clause-others
returns-clause-others c =
    (whole_copied c.args.depth c.args.first c.args.count c.args.from_first c.args.bytes.now _ c.args.bytes.now c.requires.depth c.requires.whole (repeated (goal.at.returns-clause-others c).After-copy_from_slice)).others
