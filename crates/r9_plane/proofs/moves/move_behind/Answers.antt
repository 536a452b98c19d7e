use Rattle.std.proofs.Common.{◌≡◌, ◌+◌, ◌*◌, ◌/◌, ◌++◌, ◌∙◌, ap, length, arith}
use Rattle.std.specs.Int.Bits.{bit_and}
use Rattle.std.proofs.lemmas.Nat.{mul-le}
use Rattle.model_pixel.specs.Rows.{raw_at}
use Rattle.r9_plane.proofs.Moving.{copied_behind_split}
use Rattle.r9_plane.proofs.PackedLemmas.{size_of}
use Rattle.r9_plane.proofs.RunLemmas.{whole_fits, Copied}
use Rattle.r9_plane.proofs.moves.move_behind.Goals as goal
use Rattle.r9_plane.proofs.moves.move_behind.Goals.{After-copy_kept}

-- the pixels come behind the front
copied : (c : After-copy_kept) → Copied c.args.depth c.args.first c.args.count (λ i. bit_and (raw_at c.args.depth c.args.bytes.now (c.args.from_first + i)) c.args.bits) c.args.bytes.now (c.split_at_mut-above.result.0.now ++ c.copy_kept.new.bytes)
copied c =
    copied_behind_split c.args.depth c.args.first c.args.count c.args.from_first (λ raw. bit_and raw c.args.bits)
    c.args.bytes.now c.split_at_mut-above.result.0.now c.split_at_mut-above.result.1.now c.copy_kept.new.bytes
    c.requires.depth c.requires.whole c.split_at_mut-above.ensures.value c.split_at_mut-above.ensures.front_len c.requires.apart
    (record { written = c.copy_kept.ensures.written; others = c.copy_kept.ensures.others })

pub copy_kept-requires-clause-within : goal.copy_kept-requires-clause-within
copy_kept-requires-clause-within c =
    let k = c.args.depth / 8 in
    let n = c.args.count in
    let product : n * c.args.depth ≡ 8 * (n * k) = ap (λ d. n * d) (size_of c.args.depth c.requires.depth c.requires.whole) ∙ omega arith in
    let fits = whole_fits c.args.depth (c.args.first + n) (length c.args.bytes.now) c.requires.depth c.requires.whole c.requires.within in
    omega (arith, product, fits, c.split_at_mut-above.ensures.back_len)

pub copy_kept-requires-clause-from : goal.copy_kept-requires-clause-from
copy_kept-requires-clause-from c =
    let k = c.args.depth / 8 in
    let n = c.args.from_first + c.args.count in
    let product : n * c.args.depth ≡ 8 * (n * k) = ap (λ d. n * d) (size_of c.args.depth c.requires.depth c.requires.whole) ∙ omega arith in
    omega (arith, product, mul-le n k c.args.first k c.requires.apart (omega arith), c.split_at_mut-above.ensures.front_len)

pub returns-clause-written : goal.returns-clause-written
returns-clause-written c = (copied (goal.at.returns-clause-written c).After-copy_kept).written

pub returns-clause-others : goal.returns-clause-others
returns-clause-others c = (copied (goal.at.returns-clause-others c).After-copy_kept).others
