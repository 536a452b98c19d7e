use Rattle.std.proofs.Common.{◌∙◌, ◌≤ℤ◌, sym, arith}
use Rattle.std.proofs.lemmas.Int.{ints}
use Rattle.r9_shown.proofs.Cuts.{cut_below}
use Rattle.r9_shown.proofs.Pieces.{corner_in}
use Rattle.r9_shown.proofs.blocks.cut.Goals as goal

pub returns-then-r-q-2-clause-same : goal.returns-then-r-q-2-clause-same
returns-then-r-q-2-clause-same c z h =
    let r = c.args.r.now in
    let past : r.max.y ≤ℤ c.args.q.y = omega (arith, ints, c.if-r-q-2.true) in
    cut_below r c.args.q z c.args.most.columns c.args.most.rows past h

pub returns-then-not-begins_in-clause-same : goal.returns-then-not-begins_in-clause-same
returns-then-not-begins_in-clause-same c z h =
    let off = c.begins_in.ensures c.if-not-begins_in.true in
    off z h ∙ sym (off c.args.q (corner_in c.args.q c.args.most.columns c.args.most.rows c.requires.columns c.requires.rows))
