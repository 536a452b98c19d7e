use Rattle.std.proofs.Common.{◌≡◌, ◌+◌, ◌-◌, ◌*◌, ◌∙◌, refl, ℕ, drop, length, arith}
use Rattle.std.proofs.lemmas.List.{length-take, length-drop}
use Rattle.r9_kern.specs.Over.{over_of}
use Rattle.r9_plane.proofs.OverRows.{run_put, run_raw}
use Rattle.r9_plane.proofs.composing.over_run.Goals as goal

abbrev part : ℕ → ℕ → ℕ
part first count = first * 4 + count * 4 - first * 4

pub over_bytes-requires : goal.over_bytes-requires
over_bytes-requires c =
    let here = length-take (part c.args.first c.args.count) (drop (c.args.first * 4) c.args.bytes.now) in
    let there = length-take (part c.args.from_first c.args.count) (drop (c.args.from_first * 4) c.args.from.now) in
    omega (arith, c.requires.within, c.requires.from, here, there, length-drop (c.args.first * 4) c.args.bytes.now, length-drop (c.args.from_first * 4) c.args.from.now)

pub returns-clause-written : goal.returns-clause-written
returns-clause-written c i less =
    let first = c.args.first in
    let from_first = c.args.from_first in
    let count = c.args.count in
    let old = c.args.bytes.now in
    let ys = c.over_bytes.new.d in
    let all = length-take (part first count) (drop (first * 4) old) in
    let size : length ys ≡ part first count = omega (arith, c.requires.within, c.over_bytes.auto.d, all, length-drop (first * 4) old) in
    let target = run_raw old first count (first * 4) (part first count) i refl (omega arith) less in
    let source = run_raw c.args.from.now from_first count (from_first * 4) (part from_first count) i refl (omega arith) less in
    (run_put old ys first count (part first count) (omega arith) size c.requires.within).written i less
    ∙ c.over_bytes.ensures.pixels i (omega (arith, size, c.over_bytes.auto.d))
    ∙ (λ t. over_of c.args.over (source t) (target t))

pub returns-clause-others : goal.returns-clause-others
returns-clause-others c =
    let first = c.args.first in
    let count = c.args.count in
    let old = c.args.bytes.now in
    let ys = c.over_bytes.new.d in
    let all = length-take (part first count) (drop (first * 4) old) in
    let size : length ys ≡ part first count = omega (arith, c.requires.within, c.over_bytes.auto.d, all, length-drop (first * 4) old) in
    (run_put old ys first count (part first count) (omega arith) size c.requires.within).others
