use Rattle.std.proofs.Common.{◌≡◌, ◌+◌, ◌-◌, ◌*◌, ◌/◌, ◌∙◌, ap, sym, subst, ℕ, drop, length, arith}
use Rattle.std.proofs.lemmas.List.{length-take, length-drop}
use borrow.Rule.Slice.PartMut.{put_mid}
use Rattle.r9_plane.proofs.RunLemmas.{Stretch, stretch_of, stretch_put, whole_copied, whole_fits}
use Rattle.r9_plane.proofs.runs.copy_whole.Goals as goal

pub returns-clause-written : goal.returns-clause-written
returns-clause-written c =
    let k = c.args.depth / 8 in
    let here = whole_fits c.args.depth (c.args.first + c.args.count) (length c.args.bytes.now) c.requires.depth c.requires.whole c.requires.within in
    let there = whole_fits c.args.depth (c.args.from_first + c.args.count) (length c.args.from.now) c.requires.depth c.requires.whole c.requires.from in
    let len : c.args.first * k + c.args.count * k - c.args.first * k ≡ c.args.count * k = omega arith in
    let from_len : c.args.from_first * k + c.args.count * k - c.args.from_first * k ≡ c.args.count * k = omega arith in
    let ys = c.copy_from_slice.new.self in
    let size : length ys ≡ c.args.count * k = ap length c.copy_from_slice.ensures.after ∙ omega (arith, there, length-take (c.args.from_first * k + c.args.count * k - c.args.from_first * k) (drop (c.args.from_first * k) c.args.from.now), length-drop (c.args.from_first * k) c.args.from.now) in
    let put = stretch_put c.args.bytes.now ys (c.args.first * k) (c.args.first * k + c.args.count * k - c.args.first * k) (size ∙ sym len) (omega (arith, here, len)) in
    let put_len = subst (λ (n : ℕ). Stretch c.args.bytes.now (put_mid (c.args.first * k) (c.args.first * k + c.args.count * k - c.args.first * k) c.args.bytes.now ys) ys (c.args.first * k) n 0) len put in
    (whole_copied c.args.depth c.args.first c.args.count c.args.from_first c.args.bytes.now _ c.args.from.now c.requires.depth c.requires.whole
    (stretch_of c.args.bytes.now _ ys c.args.from.now (c.args.first * k) (c.args.count * k) (c.args.from_first * k) _ from_len c.copy_from_slice.ensures.after put_len)).written

pub returns-clause-others : goal.returns-clause-others
returns-clause-others c =
    let k = c.args.depth / 8 in
    let here = whole_fits c.args.depth (c.args.first + c.args.count) (length c.args.bytes.now) c.requires.depth c.requires.whole c.requires.within in
    let there = whole_fits c.args.depth (c.args.from_first + c.args.count) (length c.args.from.now) c.requires.depth c.requires.whole c.requires.from in
    let len : c.args.first * k + c.args.count * k - c.args.first * k ≡ c.args.count * k = omega arith in
    let from_len : c.args.from_first * k + c.args.count * k - c.args.from_first * k ≡ c.args.count * k = omega arith in
    let ys = c.copy_from_slice.new.self in
    let size : length ys ≡ c.args.count * k = ap length c.copy_from_slice.ensures.after ∙ omega (arith, there, length-take (c.args.from_first * k + c.args.count * k - c.args.from_first * k) (drop (c.args.from_first * k) c.args.from.now), length-drop (c.args.from_first * k) c.args.from.now) in
    let put = stretch_put c.args.bytes.now ys (c.args.first * k) (c.args.first * k + c.args.count * k - c.args.first * k) (size ∙ sym len) (omega (arith, here, len)) in
    let put_len = subst (λ (n : ℕ). Stretch c.args.bytes.now (put_mid (c.args.first * k) (c.args.first * k + c.args.count * k - c.args.first * k) c.args.bytes.now ys) ys (c.args.first * k) n 0) len put in
    (whole_copied c.args.depth c.args.first c.args.count c.args.from_first c.args.bytes.now _ c.args.from.now c.requires.depth c.requires.whole
    (stretch_of c.args.bytes.now _ ys c.args.from.now (c.args.first * k) (c.args.count * k) (c.args.from_first * k) _ from_len c.copy_from_slice.ensures.after put_len)).others
