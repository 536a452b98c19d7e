use Rattle.std.proofs.Common.{◌≡◌, ◌/◌, ◌*◌, ◌+◌, ◌<◌, refl, subst, ℕ, length, arith}
use Rattle.r9_plane.proofs.PackedLemmas.{Written, written_none, written_more, whole_written, whole_others}
use Rattle.r9_plane.proofs.RunLemmas.{whole_fits}
use Rattle.r9_plane.proofs.packed.write_bytes.Goals as goal
use Rattle.r9_plane.proofs.packed.write_bytes.Goals.{In-loop-i, After-loop-i}

room : (c : In-loop-i) → c.args.n * (c.args.depth / 8) + c.loop-i.i < length c.loop-i.bytes
room c =
    let fits = whole_fits c.args.depth (c.args.n + 1) (length c.args.bytes.now) c.requires.depth c.requires.whole c.requires.within in
    omega (arith, fits, c.loop-i.auto.bytes, c.loop-i-test.true)

done : (c : After-loop-i) → Written c.args.bytes.now c.loop-i.bytes (c.args.n * (c.args.depth / 8)) (c.args.depth / 8) c.args.raw
done c =
    let end : c.loop-i.i ≡ c.args.depth / 8 = omega arith in
    subst (λ (size : ℕ). Written c.args.bytes.now c.loop-i.bytes (c.args.n * (c.args.depth / 8)) size c.args.raw) end c.loop-i.invariant

pub loop-i-init : goal.loop-i-init
loop-i-init c = written_none c.args.bytes.now (c.args.n * (c.args.depth / 8)) c.args.raw

pub bounds-bytes-start : goal.bounds-bytes-start
bounds-bytes-start c = room c

pub loop-i-preserved : goal.loop-i-preserved
loop-i-preserved c = written_more c.args.bytes.now c.loop-i.bytes (c.args.n * (c.args.depth / 8)) c.loop-i.i c.args.raw _ (room c) refl c.loop-i.invariant

pub returns-clause-written : goal.returns-clause-written
returns-clause-written c =
    whole_written c.args.depth c.args.bytes.now c.loop-i.bytes c.args.n c.args.raw c.requires.depth c.requires.whole c.requires.raw (done c)

pub returns-clause-others : goal.returns-clause-others
returns-clause-others c m other =
    whole_others c.args.depth c.args.bytes.now c.loop-i.bytes c.args.n c.args.raw m c.requires.depth c.requires.whole other (done c)
